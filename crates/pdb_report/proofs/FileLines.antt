-- Lines and ranges that are answered by a file that is read on demand.
use Rattle.std.proofs.Common.{◌≡◌, ℕ, List, Result, subst}
use Rattle.std.specs.Prelude.{Option, Some, IfSome}
use Rattle.pdb_addr2line.specs.Context.{Context}
use Rattle.pdb_loading.specs.ModuleInfos.{KeptInfo}
use Rattle.pdb_addr2line.specs.Answer.{AnswersNamed, AnswersWith, answer_named, answer_with, answered_in}
use Rattle.pdb_addr2line.specs.FileAnswers.{FileAnswers, IsContextOf, IsKnown, IsUnasked}
use Rattle.pdb_addr2line.specs.FileFrames.{FindsHeldFrames}
use Rattle.pdb_owners.specs.Frames.{FunctionFrames}
use Rattle.pdb_resolving.specs.declared.error.Error.{Error}
use Rattle.pdb_symbols_modules.specs.Streams.{streams}

-- a context answers as the file does, with the default flags
pub answers_known : (f : FileAnswers) (c : Context (List KeptInfo)) → f.flags ≡ 23 → IsContextOf f c → IsKnown f → AnswersWith f.order answered_in (streams f.contents) c
answers_known f c flags is known = subst (λ (n : ℕ). AnswersNamed n f.order answered_in (streams f.contents) c) flags (is.answers known)

-- the frames that are found by a file are its answer, with the default flags
pub found_known : (f : FileAnswers) (address : ℕ) (found : Result (Option FunctionFrames) Error) → f.flags ≡ 23
    → FindsHeldFrames found (answer_named f.flags f.order (streams f.contents) address) → FindsHeldFrames found (answer_with f.order (streams f.contents) address)
found_known f address found flags h = subst (λ (n : ℕ). FindsHeldFrames found (answer_named n f.order (streams f.contents) address)) flags h

-- a context that was asked nothing
pub unasked_context : (f : FileAnswers) (c : Context (List KeptInfo)) → f.context ≡ Some c → IsUnasked f → c.lookups ≡ 0
unasked_context f c there unasked = subst (λ (x : Option (Context (List KeptInfo))). IfSome x (λ k. k.lookups ≡ 0)) there unasked
