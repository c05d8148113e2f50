use Rattle.std.proofs.Common.{◌≡◌, ℕ, ◌+◌, ◌-◌, ◌≤◌, List, length, take}
use Rattle.std.specs.Prelude.{Bool}
use Rattle.pdb_listings.specs.Sizes.{bytes_where, new_where, old_where}
use Rattle.pdb_listings.proofs.changes.changes_of.Given as goal

-- the changes have the bytes of what was taken of both lists
abbrev pub invariant-loop-i : goal.invariant-loop-i
invariant-loop-i l = record {
  within_old : l.i ≤ length l.old;
  within_new : l.j ≤ length l.new;
  old : (test : List ℕ → Bool) → old_where test l.changes.items ≡ bytes_where test (take l.i l.old);
  new : (test : List ℕ → Bool) → new_where test l.changes.items ≡ bytes_where test (take l.j l.new);
}

-- what is left of both
abbrev pub decreases-loop-i : goal.decreases-loop-i
decreases-loop-i l = (length l.old - l.i) + (length l.new - l.j)
