-- What is cached in a list of maps when one of the maps changes.
use Rattle.std.proofs.Common.{◌≡◌, ℕ, zero, suc, ◌<◌, List, [], ◌∷◌, length, get_or, Some, false}
use Rattle.std.proofs.Common.{refl, arith}
use Rattle.std.specs.Prelude.{◌&&◌, ◌==◌, cond, slice_get, slice_set}
use Rattle.std.specs.Ordering.{nat_cmp}
use Rattle.std.specs.BTreeMap.{BTreeMap, Updates, get, is_at}
use Rattle.std.specs.Vec.{with_item}
use Rattle.std.proofs.lemmas.Bool.Decides.{nat_tests}
use Rattle.pdb_names.specs.declared.by_module.ByModule.{ByModule}
use Rattle.pdb_names.specs.ByModule.{kept_among, kept_at}
use Rattle.pdb_names.specs.CachedNames.{IsKept, IsSameKept}

here : {V : Type 0} (k n : ℕ) (value : V) (old map : BTreeMap ℕ V)
    → get nat_cmp map n ≡ cond (is_at (nat_cmp k) n) (Some value) (get nat_cmp old n)
    → get nat_cmp map n ≡ cond (n == k) (Some value) (get nat_cmp old n)
here k n value old map is = grind (arith, nat_tests)

-- when numbers are equal, by whether they are 0
pub past_zero : (m : ℕ) → (suc m == 0) ≡ false
past_zero m = grind (arith, nat_tests)

pub before_suc : (i : ℕ) → (0 == suc i) ≡ false
before_suc i = grind (arith, nat_tests)

pub both_suc : (m i : ℕ) → (suc m == suc i) ≡ (m == i)
both_suc m i = grind (arith, nat_tests)

set_keeps : {V : Type 0} (maps : List (BTreeMap ℕ V)) (i k : ℕ) (value : V) (old map : BTreeMap ℕ V)
    → i < length maps → old ≡ get_or maps i old → Updates nat_cmp old map k (Some value) → (m n : ℕ)
    → kept_among (slice_get (slice_set maps i map) m) n
    ≡ cond (m == i && n == k) (Some value) (kept_among (slice_get maps m) n)
set_keeps [] i k value old map lt is updates m n = absurd (omega arith)
set_keeps (one ∷ maps) zero k value old map lt is updates zero n =
    rw (← is) (here k n value old map (updates.0 n))
set_keeps (one ∷ maps) zero k value old map lt is updates (suc m) n = rw (past_zero m) refl
set_keeps (one ∷ maps) (suc i) k value old map lt is updates zero n = rw (before_suc i) refl
set_keeps (one ∷ maps) (suc i) k value old map lt is updates (suc m) n =
    rw (both_suc m i) (set_keeps maps i k value old map (omega arith) is updates m n)

-- where the map of a module that is reached gets a value under a number, that is cached there, and
-- all else is as before
pub map_keeps : {V : Type 0} (before reached : ByModule V) (module_index i k : ℕ) (value : V)
    (old map : BTreeMap ℕ V) → IsSameKept (kept_at before) (kept_at reached) → i ≡ module_index
    → module_index < length reached.modules.items
    → old ≡ get_or reached.modules.items i old → Updates nat_cmp old map k (Some value)
    → IsKept (kept_at before) (kept_at record { modules = with_item reached.modules i map })
    module_index k value
map_keeps before reached module_index i k value old map same at lt is updates = record {
  each = λ m n.
      rw (← same.each m n, ← at)
      (set_keeps reached.modules.items i k value old map (omega arith) is updates m n);
}
