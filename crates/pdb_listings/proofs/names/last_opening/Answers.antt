use Rattle.std.proofs.Common.{◌≡◌, ◌+◌, ◌-◌, subst, arith}
use Rattle.pdb_listings.proofs.Openings.{IsAfter, opens_at}
use Rattle.pdb_listings.proofs.names.last_opening.Goals as goal

pub returns-then-unopened-eq1 : goal.returns-then-unopened-eq1
returns-then-unopened-eq1 c =
    let place = c.loop-place.place in
    let back : place ≡ place - 1 + 1 = let some = c.loop-place-test.true in omega (arith, some) in
    let after : IsAfter c.args.text.now (place - 1 + 1) c.loop-place.unopened =
    subst (λ p. IsAfter c.args.text.now p c.loop-place.unopened) back c.loop-place.invariant in
    opens_at c.args.text.now (place - 1) c.loop-place.unopened _ (let w = after.within in omega (arith, w)) after c.if-text-place-eq40.true c.if-unopened-eq1.true
