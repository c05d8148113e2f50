use Rattle.std.proofs.Common.{◌≡◌, ◌≤◌, length, drop, false}
use Rattle.std.specs.List.{list_any}
use Rattle.pdb_listings.specs.Sizes.{is_separator}
use Rattle.pdb_listings.proofs.sizes.last_separator.Given as goal

-- the place is within the path, and no separator stands from there on
abbrev pub invariant-loop-place : goal.invariant-loop-place
invariant-loop-place l = record {
  within : l.place ≤ length l.path;
  none : list_any is_separator (drop l.place l.path) ≡ false;
}

-- the bytes before it
abbrev pub decreases-loop-place : goal.decreases-loop-place
decreases-loop-place l = l.place
