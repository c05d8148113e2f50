use Rattle.std.proofs.Common.{ap, ◌∙◌, string_bytes, sym, subst, List, ℕ, arith}
use Rattle.std.specs.Prelude.{unwrap_or}
use Rattle.pdb_owners.specs.Frames.{Frame}
use Rattle.pdb_symbol_files.specs.Reading.{IsPlain}
use Rattle.pdb_symbol_files.proofs.FrameSteps.{told_parts}
use Rattle.pdb_symbol_files.proofs.PlainTexts.{plain_told}
use Rattle.pdb_symbol_files.proofs.told.told_of.Goals as goal

pub returns-clause-is : goal.returns-clause-is
returns-clause-is c =
    told_parts c.args.start c.args.frames.now c.in-Some-Some.innermost.now
    c.in-Some-Some.outermost.now (string_bytes c.in_ok-function.function)
    (string_bytes c.in_ok-file.file) (c.in_ok-calls.calls).items c.unwrap_or.result
    c.in-Some-Some.ensures.value c.in-Some-Some.ensures'.value c.in_ok-function.ensures
    c.in_ok-calls.ensures.are c.in_ok-file.ensures
    (c.unwrap_or.ensures ∙ ap (λ (f : Frame). unwrap_or f.line 0) c.innermost.view_is)

pub returns-clause-plain : goal.returns-clause-plain
returns-clause-plain c = record {
  function = subst IsPlain (sym c.in_ok-function.ensures) (plain_told c.in-Some-Some.outermost.now.function);
  file = subst IsPlain (sym c.in_ok-file.ensures) (plain_told c.in-Some-Some.innermost.now.file);
  line = omega arith;
  calls = c.in_ok-calls.ensures.plain;
  few = c.in_ok-calls.ensures.few;
}
