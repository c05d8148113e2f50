use Rattle.std.proofs.Common.{◌≡◌, ℕ, ◌+◌, List, take}
use Rattle.std.specs.Prelude.{Bool}
use Rattle.pdb_listings.specs.Sizes.{bytes_where, new_where, old_where}
use Rattle.pdb_listings.proofs.changes.append_gone.Given as goal

-- the changes have the bytes of the sizes so far
abbrev pub invariant-loop-size : goal.invariant-loop-size
invariant-loop-size l = record {
  these : (test : List ℕ → Bool) → old_where test l.changes.items
      ≡ old_where test l.fn.changes.items + bytes_where test (take l.size-index l.old);
  others : (test : List ℕ → Bool) → new_where test l.changes.items ≡ new_where test l.fn.changes.items;
}
