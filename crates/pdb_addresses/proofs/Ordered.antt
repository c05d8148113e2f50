-- Whether a map is ordered, as it is computed and as it is said.
use Rattle.std.proofs.Common.{◌≡◌, ℕ, zero, suc, ◌<◌, ◌≤◌, Bool, true, false, List, [], ◌∷◌, length}
use Rattle.std.proofs.Common.{get_or, Option, None, Some, refl, sym, ◌∙◌, arith}
use Rattle.std.proofs.lemmas.Bool.{le-leb, leb-true}
use Rattle.std.specs.Bool.{Decides}
use Rattle.std.specs.Cmp.{first_so, second_so}
use Rattle.std.specs.Prelude.{nat_le}
use Rattle.pdb_addresses.specs.declared.omap.OMAPRecord.{OMAPRecord}
use Rattle.pdb_addresses.specs.Addresses.{Map, IsInOrder, IsOrdered, is_in_order, is_ordered}
use Rattle.pdb_addresses.specs.Omap.{source, AreSourcesInOrder, rise_from, are_sources_in_order}

-- sources that rise from a number on lie no lower
low : (n : ℕ) (records : List OMAPRecord) (i : ℕ) (d : OMAPRecord) → rise_from n records ≡ true
    → i < length records → n ≤ source (get_or records i d)
low n [] i d up lt = absurd (omega arith)
low n (r ∷ records) zero d up lt = leb-true n r.source_address
    (first_so (nat_le n r.source_address) (rise_from r.source_address records) up)
low n (r ∷ records) (suc i) d up lt =
    let here = leb-true n r.source_address
    (first_so (nat_le n r.source_address) (rise_from r.source_address records) up) in
    let later = low r.source_address records i d
    (second_so (nat_le n r.source_address) (rise_from r.source_address records) up)
    (omega arith) in
    omega arith

-- and none lies below the one before it
risen : (n : ℕ) (records : List OMAPRecord) → rise_from n records ≡ true
    → (i j : ℕ) (d : OMAPRecord) → i ≤ j → j < length records
    → source (get_or records i d) ≤ source (get_or records j d)
risen n [] up i j d le lt = absurd (omega arith)
risen n (r ∷ records) up zero zero d le lt = omega arith
risen n (r ∷ records) up zero (suc j) d le lt =
    low r.source_address records j d
    (second_so (nat_le n r.source_address) (rise_from r.source_address records) up) (omega arith)
risen n (r ∷ records) up (suc i) zero d le lt = absurd (omega arith)
risen n (r ∷ records) up (suc i) (suc j) d le lt =
    risen r.source_address records
    (second_so (nat_le n r.source_address) (rise_from r.source_address records) up) i j d
    (omega arith) (omega arith)

rises : (n : ℕ) (records : List OMAPRecord)
    → ((d : OMAPRecord) → 0 < length records → n ≤ source (get_or records 0 d))
    → AreSourcesInOrder records → rise_from n records ≡ true
rises n [] first order = refl
rises n (r ∷ records) first order =
    rw (le-leb n r.source_address (first r (omega arith)))
    (rises r.source_address records (λ d lt. order 0 1 d (omega arith) (omega arith))
    (λ i j d le lt. order (suc i) (suc j) d (omega arith) (omega arith)))

-- the test of a map's order decides whether it is in order
pub sources_decided : (records : List OMAPRecord)
    → Decides (are_sources_in_order records) (AreSourcesInOrder records)
sources_decided records =
    (λ e. risen 0 records e, λ order. rises 0 records (λ d lt. omega arith) order)

map_decided : (omap : Option (List OMAPRecord)) → Decides (is_in_order omap) (IsInOrder omap)
map_decided None = (λ e. tt, λ order. refl)
map_decided (Some records) = sources_decided records

-- what is computed is true exactly where the map is ordered
pub ordered_decided : (m : Map) → Decides (is_ordered m) (IsOrdered m)
ordered_decided m = (
  λ e. record {
    to_internal = (map_decided m.to_internal).0
        (first_so (is_in_order m.to_internal) (is_in_order m.to_image) e);
    to_image = (map_decided m.to_image).0
        (second_so (is_in_order m.to_internal) (is_in_order m.to_image) e);
  },
  λ order. rw
      ((map_decided m.to_internal).1 order.to_internal, (map_decided m.to_image).1 order.to_image)
      refl,
)

-- so asking for one direction, and then for the other, decides it
pub first_decides : (m : Map) (first : Bool) → first ≡ is_in_order m.to_internal → first ≡ false
    → Decides first (IsOrdered m)
first_decides m first e none =
    (λ f. absurd cc, λ order. e ∙ (map_decided m.to_internal).1 order.to_internal)

-- where the first direction is in order, the second decides whether both are
pub second_decides : (m : Map) (first second : Bool) → first ≡ is_in_order m.to_internal
    → first ≡ true → second ≡ is_in_order m.to_image → Decides second (IsOrdered m)
second_decides m first second e so g = (
  λ f. record {
    to_internal = (map_decided m.to_internal).0 (sym e ∙ so);
    to_image = (map_decided m.to_image).0 (sym g ∙ f);
  },
  λ order. g ∙ (map_decided m.to_image).1 order.to_image,
)
