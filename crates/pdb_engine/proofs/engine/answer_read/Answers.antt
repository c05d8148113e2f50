use Rattle.std.proofs.Common.{◌≡◌, ℕ, List, [], ◌++◌, length, take, arith, rules, append-nil, ap, sym, refl, ◌∙◌, inl}
use Rattle.pdb_engine.specs.InputFaults.{read_fault_of}
use Rattle.std.proofs.lemmas.List.{take-append-le, take_all}
use Rattle.std.proofs.KnownBytes.{Appends-nil}
use Rattle.pdb_engine.proofs.Faults.{no_read_length, quiet_same, read_failed}
use Rattle.pdb_engine.proofs.Pumped.{none_taken, read_all, read_part, read_past}
use Rattle.pdb_engine.proofs.engine.answer_read.Goals as goal

-- what a slice left in the list that lent it
written_back : (xs ys : List ℕ) (n : ℕ) → n ≡ length xs → take n (xs ++ ys) ≡ xs
written_back xs ys n h = take-append-le n xs ys (omega (arith, h)) ∙ take_all n xs (omega (arith, h))

pub returns-in-Err-clause-ends : goal.returns-in-Err-clause-ends
returns-in-Err-clause-ends g c = inl ((_, c.read_fault.ensures.value ∙ ap read_fault_of c.kind.ensures, c.in-Err.ensures.watch), quiet_same _)

pub returns-in-Err-clause-read_once : goal.returns-in-Err-clause-read_once
returns-in-Err-clause-read_once g c = read_failed _ _ _ c.read_fault.ensures.value (none_taken _ _ c.in-Err.ensures.bytes, refl)

pub returns-in-Err-clause-too_long : goal.returns-in-Err-clause-too_long
returns-in-Err-clause-too_long g c = λ known. no_read_length _ _ _ c.read_fault.ensures.value

pub returns-in-Err-clause-part : goal.returns-in-Err-clause-part
returns-in-Err-clause-part g c = λ known. ([], none_taken _ _ c.in-Err.ensures.bytes, ([], Appends-nil _, ([], refl)))

pub returns-in-Err-feed-clause-part : goal.returns-in-Err-feed-clause-part
returns-in-Err-feed-clause-part g c = λ known.
    read_part _ _ _ _ _ _ _ c.read.new.buf c.deref.result.now c.in-Ok.count c.min-within.result (c.deref.ensures.value ∙ written_back c.read.new.buf _ _ (search rules)) (search rules) c.in-Ok.ensures.bytes.0 (c.in-Err-feed.ensures.part known)

pub returns-then-left-count-clause-part : goal.returns-then-left-count-clause-part
returns-then-left-count-clause-part g c = λ known.
    read_part _ _ _ _ _ _ _ c.read.new.buf c.deref.result.now c.in-Ok.count c.min-within.result (c.deref.ensures.value ∙ written_back c.read.new.buf _ _ (search rules)) (search rules) c.in-Ok.ensures.bytes.0 (_, c.in-Ok-feed.ensures.ok known, ([], sym (append-nil _)))

pub returns-then-left-count-clause-too_long : goal.returns-then-left-count-clause-too_long
returns-then-left-count-clause-too_long g c = λ known.
    read_past _ _ _ _ _ _ _ c.read.new.buf c.deref.result.now c.in-Ok.count c.min-within.result c.args.left (c.deref.ensures.value ∙ written_back c.read.new.buf _ _ (search rules)) c.min-within.ensures c.if-left-count.true c.in-Ok.ensures.bound.1 c.in-Ok.ensures.bytes.0 (c.in-Ok-feed.ensures.ok known)

pub returns-clause-ok : goal.returns-clause-ok
returns-clause-ok g c = λ known.
    read_all _ _ _ _ _ _ _ _ c.read.new.buf c.deref.result.now c.in-Ok.count c.min-within.result c.args.left (c.deref.ensures.value ∙ written_back c.read.new.buf _ _ (search rules)) c.min-within.ensures c.if-left-count.false c.in-Ok.ensures.bound.1 c.in-Ok.ensures.bytes.0 (c.in-Ok-feed.ensures.ok known) c.in-Ok-feed.ensures.rest
