-- The last record with source at most an address.
use Rattle.std.proofs.Common.{◌≡◌, ◌≢◌, ℕ, zero, suc, ◌+◌, ◌-◌, ◌<◌, ◌≤◌, Bool, true, false, cond}
use Rattle.std.proofs.Common.{leb, List, [], ◌∷◌, length, get_or, refl, sym, ap, ◌∙◌, arith}
use Rattle.std.specs.Prelude.{Option, None, option_and_then}
use Rattle.std.specs.List.Sorted.{IsPartitionPoint}
use Rattle.std.proofs.lemmas.Option.{slice_get-get_or}
use Rattle.std.specs.List.{AllAdjacentBelow}
use Rattle.std.proofs.lemmas.List.{get_or_default}
use Rattle.std.proofs.lemmas.List.Sorted.{all_adjacent_more, IsNonDecreasingBy-from_all_adjacent}
use Rattle.std.proofs.lemmas.Bool.{le-leb, lt-leb, leb-true, leb-false, ne_eqb}
use Rattle.pdb_addresses.proofs.Ordered.{sources_decided}
use Rattle.pdb_addresses.specs.declared.omap.OMAPRecord.{OMAPRecord}
use Rattle.pdb_addresses.specs.Omap.{source, are_sources_in_order, record_number, record_at}
use Rattle.pdb_addresses.specs.Omap.{last_number, sent_by, sent}

-- a record for places where a list has none
abbrev pub no_record : OMAPRecord
no_record = record { source_address = 0; target_address = 0 }

first_counts : (n : ℕ) → 0 < record_number 1 n
first_counts zero = omega arith
first_counts (suc n) = omega arith

later_counts : (first n i : ℕ) → i < n → suc i < record_number first n
later_counts first zero i lt = absurd (omega arith)
later_counts first (suc n) i lt = omega arith

none_later : (n : ℕ) → n ≤ 0 → record_number 0 n ≤ 0
none_later zero le = omega arith
none_later (suc n) le = absurd (omega arith)

few_later : (first n m : ℕ) → first ≤ 1 → m ≤ n → record_number first m ≤ suc n
few_later first n zero one le = omega arith
few_later first n (suc m) one le = omega arith

at_most_one : (b : Bool) → cond b 1 0 ≤ 1
at_most_one true = omega arith
at_most_one false = omega arith

-- a record with source at most the address is no later than the last one
pub number_reaches : (records : List OMAPRecord) (a i : ℕ) (d : OMAPRecord) → i < length records
    → source (get_or records i d) ≤ a → i < last_number records a
number_reaches [] a i d lt le = absurd (omega arith)
number_reaches (r ∷ records) a zero d lt le =
    rw (le-leb r.source_address a le) (first_counts (last_number records a))
number_reaches (r ∷ records) a (suc i) d lt le =
    later_counts (cond (leb r.source_address a) 1 0) (last_number records a) i
    (number_reaches records a i d (omega arith) le)

-- where all records from a place on have their sources past the address, the last one lies before
-- it
pub number_stops : (records : List OMAPRecord) (a n : ℕ) (d : OMAPRecord)
    → ((j : ℕ) → n ≤ j → j < length records → a < source (get_or records j d))
    → last_number records a ≤ n
number_stops [] a n d past = omega arith
number_stops (r ∷ records) a zero d past =
    rw (lt-leb r.source_address a (past 0 (omega arith) (omega arith)))
    (none_later (last_number records a)
    (number_stops records a 0 d (λ j le lt. past (suc j) (omega arith) (omega arith))))
number_stops (r ∷ records) a (suc n) d past =
    few_later (cond (leb r.source_address a) 1 0) n (last_number records a)
    (at_most_one (leb r.source_address a))
    (number_stops records a n d (λ j le lt. past (suc j) (omega arith) (omega arith)))

-- a place with no source past the address before it, and none at most it from there on
pub number_is : (records : List OMAPRecord) (a i : ℕ) → i ≤ length records
    → IsPartitionPoint (λ r. leb (source r) a ≡ true) (λ r. leb (source r) a ≡ false) records i
    → i ≡ last_number records a
number_is records a zero le at =
    let most = number_stops records a 0 no_record
    (λ j le lt. leb-false (source (get_or records j no_record)) a (at.1 j no_record le lt)) in
    omega arith
number_is records a (suc i) le at =
    let most = number_stops records a (suc i) no_record
    (λ j le lt. leb-false (source (get_or records j no_record)) a (at.1 j no_record le lt)) in
    let least = number_reaches records a i no_record (omega arith)
    (leb-true (source (get_or records i no_record)) a
    (at.0 i no_record (omega arith) (omega arith))) in
    omega arith

-- ---- where a map sends an address

-- where an address goes by the record with that index
abbrev pub goes : List OMAPRecord → ℕ → ℕ → Option ℕ
goes records a n = option_and_then (sent_by a) (record_at records n)

-- by number 0 it goes nowhere
pub no_first : (records : List OMAPRecord) (a n : ℕ) → n ≡ 0 → goes records a n ≡ None
no_first records a n none = rw none refl

-- by any other number it goes by the record before that place
pub record_before : (records : List OMAPRecord) (a n : ℕ) (d : OMAPRecord) → n ≢ 0
    → n ≤ length records → goes records a n ≡ sent_by a (get_or records (n - 1) d)
record_before records a n d some le =
    rw (ne_eqb n 0 some, slice_get-get_or records (n - 1) d (omega arith)) refl

-- where no source lies at or below the address, the map sends it nowhere
pub sent_nowhere : (records : List OMAPRecord) (a n : ℕ) → n ≡ last_number records a → n ≡ 0
    → sent records a ≡ None
sent_nowhere records a n is none = ap (goes records a) (sym is) ∙ no_first records a n none

-- else the last record with such a source sends it
pub sent_somewhere : (records : List OMAPRecord) (a n : ℕ) (d : OMAPRecord)
    → n ≡ last_number records a → n ≢ 0 → n ≤ length records
    → sent records a ≡ sent_by a (get_or records (n - 1) d)
sent_somewhere records a n d is some le = ap (goes records a) (sym is)
    ∙ record_before records a n d some le

-- ---- the order of the sources

-- no source before a place lies below the one before it
pub record IsInOrderTo (records : List OMAPRecord) (i : ℕ) : Type 0 where
  pub some : 1 ≤ i
  pub each : AllAdjacentBelow (λ x y. source x ≤ source y) records i

-- one source is in order
pub in_order_start : (records : List OMAPRecord) → IsInOrderTo records 1
in_order_start records = record { some = omega arith; each = λ k d lt. absurd (omega arith) }

-- one source more that isn't below the one before it is still in order
pub in_order_more : (records : List OMAPRecord) (i : ℕ) (d : OMAPRecord) → i < length records
    → source (get_or records (i - 1) d) ≤ source (get_or records i d) → IsInOrderTo records i
    → IsInOrderTo records (i + 1)
in_order_more records i d lt le so_far = record {
  some = omega arith;
  each = all_adjacent_more records (λ x y. source x ≤ source y) i so_far.some so_far.each
      (λ e. rw (get_or_default records (i - 1) e d (omega arith), get_or_default records i e d lt)
      le);
}

-- all sources in order: the test says so
pub in_order_done : (records : List OMAPRecord) (i : ℕ) → length records ≤ i → IsInOrderTo records i
    → true ≡ are_sources_in_order records
in_order_done records i past so_far =
    sym
    ((sources_decided records).1
    (IsNonDecreasingBy-from_all_adjacent source records (λ k d lt. so_far.each k d (omega arith))))

false_unless : (b : Bool) → (b ≡ true → ⊥) → false ≡ b
false_unless false none = refl
false_unless true none = absurd (none refl)

-- a source below the one before it: the test says so
pub falls : (records : List OMAPRecord) (i : ℕ) (d : OMAPRecord) → i < length records
    → source (get_or records i d) < source (get_or records (i - 1) d)
    → false ≡ are_sources_in_order records
falls records i d lt below = false_unless (are_sources_in_order records)
    (λ e. let le = (sources_decided records).0 e (i - 1) i d (omega arith) lt in
    absurd (omega arith))
