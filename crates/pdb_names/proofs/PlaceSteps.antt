-- What is cached in lists of places when one of the places changes.
use Rattle.std.proofs.Common.{◌≡◌, ℕ, zero, suc, ◌<◌, List, [], ◌∷◌, length, get_or, Some, refl}
use Rattle.std.proofs.Common.{arith}
use Rattle.std.specs.Prelude.{◌&&◌, ◌==◌, Option, cond, slice_get, slice_set}
use Rattle.std.specs.Global.{Vec}
use Rattle.std.specs.Vec.{with_item}
use Rattle.pdb_names.specs.declared.by_number.ByNumber.{ByNumber}
use Rattle.pdb_names.specs.ByNumber.{IsPut, IsSamePlaces, kept_among, kept_at}
use Rattle.pdb_names.specs.CachedNames.{IsKept, IsSameKept}
use Rattle.pdb_names.proofs.MapSteps.{past_zero, before_suc, both_suc}

set_same : {V : Type 0} (modules : List (Vec (Option V))) (i : ℕ) (old places : Vec (Option V))
    → old ≡ get_or modules i old → IsSamePlaces old.items places.items → (m n : ℕ)
    → kept_among (slice_get (slice_set modules i places) m) n ≡ kept_among (slice_get modules m) n
set_same [] i old places is same m n = refl
set_same (one ∷ modules) zero old places is same zero n = rw (← is) (same.each n)
set_same (one ∷ modules) zero old places is same (suc m) n = refl
set_same (one ∷ modules) (suc i) old places is same zero n = refl
set_same (one ∷ modules) (suc i) old places is same (suc m) n =
    set_same modules i old places is same m n

set_keeps : {V : Type 0} (modules : List (Vec (Option V))) (i k : ℕ) (value : V)
    (old places : Vec (Option V)) → i < length modules → old ≡ get_or modules i old
    → IsPut old.items places.items k value → (m n : ℕ)
    → kept_among (slice_get (slice_set modules i places) m) n
    ≡ cond (m == i && n == k) (Some value) (kept_among (slice_get modules m) n)
set_keeps [] i k value old places lt is put m n = absurd (omega arith)
set_keeps (one ∷ modules) zero k value old places lt is put zero n = rw (← is) (put.each n)
set_keeps (one ∷ modules) zero k value old places lt is put (suc m) n = rw (past_zero m) refl
set_keeps (one ∷ modules) (suc i) k value old places lt is put zero n = rw (before_suc i) refl
set_keeps (one ∷ modules) (suc i) k value old places lt is put (suc m) n =
    rw (both_suc m i) (set_keeps modules i k value old places (omega arith) is put m n)

-- where a module's places hold equal values, so does the whole cache
pub module_same : {V : Type 0} (before reached : ByNumber V) (module_index i : ℕ)
    (old places : Vec (Option V)) → IsSameKept (kept_at before) (kept_at reached) → i ≡ module_index
    → old ≡ get_or reached.modules.items i old → IsSamePlaces old.items places.items
    → IsSameKept (kept_at before) (kept_at record { modules = with_item reached.modules i places })
module_same before reached module_index i old places same at is kept = record {
  each = λ m n.
      rw (← same.each m n) (set_same reached.modules.items i old places is kept m n);
}

-- where a value is put at a number among a module's places, it is cached there, and all else is as
-- before
pub module_keeps : {V : Type 0} (before reached : ByNumber V) (module_index i k : ℕ) (value : V)
    (old places : Vec (Option V)) → IsSameKept (kept_at before) (kept_at reached) → i ≡ module_index
    → module_index < length reached.modules.items
    → old ≡ get_or reached.modules.items i old → IsPut old.items places.items k value
    → IsKept (kept_at before) (kept_at record { modules = with_item reached.modules i places })
    module_index k value
module_keeps before reached module_index i k value old places same at lt is put = record {
  each = λ m n.
      rw (← same.each m n, ← at)
      (set_keeps reached.modules.items i k value old places (omega arith) is put m n);
}
