-- The distance to the next of numbers in ascending order.
use Rattle.std.proofs.Common.{◌≡◌, ℕ, zero, suc, ◌<◌, ◌≤◌, List, [], ◌∷◌, length, get_or}
use Rattle.std.proofs.Common.{map, Some, refl, sym, ap, subst, ◌∙◌, arith}
use Rattle.std.specs.List.{slice_get}
use Rattle.std.specs.List.Sorted.{IsNonDecreasing}
use Rattle.std.proofs.lemmas.List.{map-id}
use Rattle.pdb_addresses.proofs.RunSteps.{past, passed}
use Rattle.pdb_addresses.specs.SectionRun.{nearer, up_to_next}
use Rattle.pdb_pieces.specs.Halving.{Ascend, IsSplit}

-- ---- the first number past a place is the next

-- after a number past the place none is nearer
none_nearer : (n : ℕ) (ns : List ℕ) (place far : ℕ) → Ascend n ns → place < n
    → nearer place n (up_to_next ns place far) ≡ nearer place n far
none_nearer n [] place far h lt = refl
none_nearer n (m ∷ ns) place far h lt =
    let rest = none_nearer m ns place far h.1 (omega (arith, h.0)) in
    let near = past place n (up_to_next (m ∷ ns) place far) lt in
    let next = past place m (up_to_next ns place far) (omega (arith, h.0)) in
    let first = past place n far lt in
    let second = past place m far (omega (arith, h.0)) in
    near ∙ (omega (arith, h.0)) ∙ sym first

-- a number fewer
fewer : (n : ℕ) (ns : List ℕ) (place count : ℕ) → IsSplit (n ∷ ns) place (suc count)
    → IsSplit ns place count
fewer n ns place count at = record {
  bound = omega (arith, at.bound);
  before = λ i m l e. at.before (suc i) m (omega arith) e;
  after = λ i m l e. at.after (suc i) m (omega arith) e;
}

-- the first number past the place
pub first_past : (low : ℕ) (ns : List ℕ) (place far count n : ℕ) → Ascend low ns
    → IsSplit ns place count → slice_get ns count ≡ Some n
    → nearer place n far ≡ up_to_next ns place far
first_past low [] place far count n h at is = cc
first_past low (m ∷ ns) place far zero n h at is =
    let same : m ≡ n = cc in
    let lt = at.after 0 m (omega arith) refl in
    ap (λ k. nearer place k far) (sym same) ∙ sym (none_nearer m ns place far h.1 lt)
first_past low (m ∷ ns) place far (suc count) n h at is =
    first_past m ns place far count n h.1 (fewer m ns place count at) is
    ∙ sym (passed place m (up_to_next ns place far) (at.before 0 m (omega arith) refl))

-- no number lies past the place
pub none_past : (ns : List ℕ) (place far count : ℕ) → IsSplit ns place count → length ns ≤ count
    → far ≡ up_to_next ns place far
none_past [] place far count at le = refl
none_past (m ∷ ns) place far zero at le = absurd (omega arith)
none_past (m ∷ ns) place far (suc count) at le =
    none_past ns place far count (fewer m ns place count at) (omega arith)
    ∙ sym (passed place m (up_to_next ns place far) (at.before 0 m (omega arith) refl))

-- ---- numbers that were sorted

ascend_from : (low : ℕ) (ns : List ℕ) → ((i d : ℕ) → i < length ns → low ≤ get_or ns i d)
    → IsNonDecreasing ns → Ascend low ns
ascend_from low [] least rise = tt
ascend_from low (n ∷ ns) least rise = (
  least 0 0 (omega arith),
  ascend_from n ns (λ i d lt. rise 0 (suc i) d (omega arith) (omega arith))
      (λ i j d le lt. rise (suc i) (suc j) d (omega arith) (omega arith)),
)

-- numbers that don't fall ascend
pub sorted_ascend : (ns : List ℕ) → IsNonDecreasing ns → Ascend 0 (map (λ n. n) ns)
sorted_ascend ns rise =
    subst (Ascend 0) (sym (map-id ns)) (ascend_from 0 ns (λ i d lt. omega arith) rise)
