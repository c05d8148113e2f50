use Rattle.std.proofs.Common.{List, ℕ, Option, Result, subst}
use Rattle.pdb_container.specs.Fault.{Fault, Parses}
use Rattle.pdb_container_types.specs.KeptPlaces.{seen}
use Rattle.pdb_container_types.proofs.Blocks.{known_number}
use Rattle.pdb_container_types.proofs.item_finder.ItemFinder.known_piece.Goals as goal

pub returns : goal.returns
returns g c =
    let low = rw (← c.self.view_is) at c.requires.low in
    let known = rw (← c.self.view_is) at c.requires.known in
    let e = known_number _ _ _ _ _ c.args.index c.index-place.result.now c.self.invariant low known
    c.index-place.ensures in
    rw (← c.self.view_is) record {
      few = c.walk.ensures.few;
      item =
          subst (λ (read : Result (Option (List ℕ)) Fault). Parses (seen (λ piece. piece.now))
          c.walk.result read) e (rw c.behind.ensures at c.walk.ensures.item);
    }
