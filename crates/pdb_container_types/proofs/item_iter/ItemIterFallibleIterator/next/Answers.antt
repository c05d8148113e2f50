use Rattle.std.proofs.Common.{refl, arith}
use Rattle.pdb_container_types.proofs.Walks.{before_next, before_in, end_here, number_here, number_fault}
use Rattle.pdb_container_types.proofs.item_iter.ItemIterFallibleIterator.next.Goals as goal

pub invariant_of-self : goal.invariant_of-self
invariant_of-self g c =
    let s = rw c.in-Ok-Some.field-0-is at c.in-Ok-Some.ensures.item in
    let next = before_next _ _ _ _ _ c.self.invariant.0 s.0 s.1 s.2 in
    rw c.in-Reading.is (before_in c.self.inside.header _ _ _ _ s.3 next, tt)

pub invariant_of-self-in-Ok-None : goal.invariant_of-self-in-Ok-None
invariant_of-self-in-Ok-None g c =
    let s = rw c.in-Ok-None.field-0-is at c.in-Ok-None.ensures.item in
    rw s.1 (c.self.invariant.0, end_here _ _ _ c.self.invariant.0 s.0)

pub returns-in-Ok-Some-clause-step : goal.returns-in-Ok-Some-clause-step
returns-in-Ok-Some-clause-step g c =
    let s = rw c.in-Ok-Some.field-0-is at c.in-Ok-Some.ensures.item in
    let e = number_here _ _ _ _ _ c.self.invariant.0 s.0 in
    rw (← c.self.view_is, c.in-Reading.is, e)
    (refl, g.met.I.ItemIndex.from_number _ _ (omega arith) c.from-index.ensures, rw s.3 refl)

pub returns-in-Err-clause-step : goal.returns-in-Err-clause-step
returns-in-Err-clause-step g c =
    let s = c.in-Err.ensures.item in
    let e = number_fault _ _ _ _ c.self.invariant.0 s.1 in
    rw (← c.self.view_is, c.in-Reading.is, e) ((s.0, refl), tt, rw s.2 refl)
