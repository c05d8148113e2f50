use Rattle.std.proofs.Common.{◌≡◌, ◌-◌, ◌<◌, ◌≤◌, length, true}
use Rattle.std.specs.Prelude.{Some}
use Rattle.pdb_owners.specs.Counts.{answer_along, begins_along}
use Rattle.pdb_owners.specs.Databases.{place_of}
use Rattle.pdb_owners.specs.Table.{IsCounted, IsWithin}
use Rattle.pdb_owners.proofs.sizes.count_places.Given as goal

-- so many places are counted, and the next one begins a piece
abbrev pub invariant-loop-done : goal.invariant-loop-done
invariant-loop-done g l =
    let keyed = g.R.Runs.keyed in
    let lookups = g.R.Runs.lookups in
    let answer_of = (keyed l.fn.runs).answer_of in
    let places = (keyed l.fn.runs).places in
    record {
      bound : l.done ≤ l.count;
      counted : IsCounted answer_of (answer_along places (Some (place_of l.place))) 0 l.done l.fn.keys l.keys;
      within : IsWithin (begins_along places (Some (place_of l.place))) 0 l.done (lookups l.fn.runs) (lookups l.runs);
      kept : IsWithin (begins_along places (Some (place_of l.place))) 0 l.done (length l.fn.keys) (length l.keys);
      answered : g.R.Runs.answered l.runs ≡ g.R.Runs.answered l.fn.runs;
      next : l.done < l.count → begins_along places (Some (place_of l.place)) l.done ≡ true;
      same : keyed l.runs ≡ keyed l.fn.runs;
    }

abbrev pub decreases-loop-done : goal.decreases-loop-done
decreases-loop-done g l = l.count - l.done
