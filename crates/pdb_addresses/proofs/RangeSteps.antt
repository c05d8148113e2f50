-- Steps of the walk over a map.
use Rattle.std.proofs.Common.{◌≡◌, ℕ, ◌+◌, ◌-◌, ◌^◌, ◌<◌, ◌≤◌, inl, inr, List, [], length, get_or}
use Rattle.std.proofs.Common.{refl, sym, ap, ◌∙◌, subst, arith}
use Rattle.std.specs.Prelude.{Option, None, Some, option_map, option_and_then, slice_get}
use Rattle.std.specs.List.{AllWithin}
use Rattle.std.proofs.lemmas.Option.{slice_get-get_or, slice_get_past}
use Rattle.std.proofs.lemmas.List.{get_or_default}
use Rattle.std.proofs.lemmas.Bool.{lt-ltb, le-ltb, eq-eqb, ne_eqb, cases_lt, cases_eq}
use Rattle.pdb_addresses.specs.declared.omap.OMAPRecord.{OMAPRecord}
use Rattle.pdb_addresses.specs.Addresses.{IsInOrder}
use Rattle.pdb_addresses.specs.Omap.{AreSourcesInOrder, source, last_number, sent_by}
use Rattle.pdb_addresses.specs.Ranges.{below, kept, number_for, runs, runs_by}
use Rattle.pdb_addresses.specs.Cursor.{IsAtIn, IsAt, left_of, source_before, run_between}
use Rattle.pdb_addresses.specs.Cursor.{run_in_front}
use Rattle.pdb_addresses.proofs.OmapLemmas.{no_record, number_stops, number_reaches, goes, no_first}
use Rattle.pdb_addresses.proofs.OmapLemmas.{record_before}
use Rattle.pdb_addresses.proofs.RunLemmas.{HeadIsNot, going, along, head_is_not}

-- ---- one address, and addresses after it, by one record

along_sum : (big top s k : ℕ) → top ≤ big → option_and_then (below top) (below big (s + k))
    ≡ going top (below big s) k
along_sum big top s k le = elim (cases_lt s big) [
  | inr past ↦ rw (le-ltb s big past, le-ltb (s + k) big (omega arith)) refl
  | inl low ↦ elim (cases_lt (s + k) big) [
    | inl far ↦ rw (lt-ltb s big low, lt-ltb (s + k) big far) refl
    | inr past ↦
        rw (lt-ltb s big low, le-ltb (s + k) big past, le-ltb (s + k) top (omega arith)) refl
  ]
]

-- addresses that go by one record go on one by one
pub along_record : (r : OMAPRecord) (a k : ℕ) → source r ≤ a
    → option_and_then (below (2 ^ 32 - 1)) (sent_by (a + k) r) ≡ going (2 ^ 32 - 1) (sent_by a r) k
along_record r a k le = elim (cases_eq r.target_address 0) [
  | inl e ↦ rw (eq-eqb r.target_address 0 e) refl
  | inr other ↦
      let away : a + k - r.source_address ≡ a - r.source_address + k = omega arith in
      let sum : r.target_address + (a - r.source_address + k)
      ≡ r.target_address + (a - r.source_address) + k = omega arith in
      rw (ne_eqb r.target_address 0 other, away, sum)
      (along_sum (2 ^ 32) (2 ^ 32 - 1) (r.target_address + (a - r.source_address)) k
      (omega arith))
]

along_number : (records : List OMAPRecord) (n a k : ℕ) → n ≤ length records
    → AllWithin (λ r. source r ≤ a) records 0 n
    → option_and_then (below (2 ^ 32 - 1)) (goes records (a + k) n)
    ≡ going (2 ^ 32 - 1) (goes records a n) k
along_number records n a k le before = elim (cases_eq n 0) [
  | inl none ↦ rw (no_first records (a + k) n none, no_first records a n none) refl
  | inr some ↦
      rw (
        record_before records (a + k) n no_record some le,
        record_before records a n no_record some le,
      )
      (along_record (get_or records (n - 1) no_record) a k
      (before (n - 1) no_record (omega arith) (omega arith)))
]

-- ---- the record of an address

pub number_at : (records : List OMAPRecord) (a n : ℕ) → n ≤ length records
    → AllWithin (λ r. source r ≤ a) records 0 n
    → ((j : ℕ) → n ≤ j → j < length records → a < source (get_or records j no_record))
    → last_number records a ≡ n
number_at records a n le before behind = elim (cases_eq n 0) [
  | inl none ↦ let most = number_stops records a n no_record behind in omega arith
  | inr some ↦
      let most = number_stops records a n no_record behind in
      let least = number_reaches records a (n - 1) no_record (omega arith)
      (before (n - 1) no_record (omega arith) (omega arith)) in
      omega arith
]

-- what the addresses from a cursor's on and before stop become, where no source lies between
segment : (records : List OMAPRecord) (n a stop end : ℕ) → IsAtIn records n a → a ≤ stop
    → stop ≤ end
    → ((j : ℕ) → n ≤ j → j < length records → stop ≤ source (get_or records j no_record))
    → HeadIsNot n (runs (Some records) stop end)
    → runs (Some records) a end ≡ run_in_front n (run_between (Some records) n a stop)
    (runs (Some records) stop end)
segment records n a stop end at le le' behind other =
    let f = number_for (Some records) in
    let g = kept (Some records) in
    let count : end - a ≡ stop - a + (end - stop) = omega arith in
    let there : a + (stop - a) ≡ stop = omega arith in
    let low : (k : ℕ) → AllWithin (λ r. source r ≤ a + k) records 0 n = λ k j d p q. let b =
    at.before j d p q in omega arith in
    let numbers : (k : ℕ) → k < stop - a → f (a + k) ≡ n =
    λ k lt. number_at records (a + k) n at.within (low k)
    (λ j p q. let b = behind j p q in omega arith) in
    let becoming : (k : ℕ) → k < stop - a → g (a + k) ≡ going (2 ^ 32 - 1) (goes records a n) k =
    λ k lt. rw (numbers k lt) (along_number records n a k at.within at.before) in
    ap (runs_by f g a) count
    ∙ subst (λ x. runs_by f g a (stop - a + (end - stop))
    ≡ run_in_front n (run_between (Some records) n a stop) (runs_by f g x (end - stop))) there
    (along f g (2 ^ 32 - 1) n (end - stop) (stop - a) a (goes records a n) numbers becoming
    (subst (λ x. HeadIsNot n (runs_by f g x (end - stop))) (sym there) other))

-- ---- the next source

pub source_found : (records : List OMAPRecord) (n end s : ℕ) → source_before (Some records) n end
    ≡ Some s → (n < length records) × (source (get_or records n no_record) ≡ s) × (s < end)
source_found records n end s e = elim (cases_lt n (length records)) [
  | inl there ↦
      let r = get_or records n no_record in
      let e' : below end (source r) ≡ Some s =
      subst (λ o. option_and_then (below end) (option_map source o) ≡ Some s)
      (slice_get-get_or records n no_record there) e in
      elim (cases_lt (source r) end) [
        | inl low ↦
            let some : below end (source r) ≡ Some (source r) =
            rw (lt-ltb (source r) end low) refl in
            let same : source r ≡ s = cc in
            (there, same, subst (λ x. x < end) same low)
        | inr past ↦ let none : below end (source r) ≡ None =
            rw (le-ltb (source r) end past) refl in absurd cc
      ]
  | inr past ↦
      let none : slice_get records n ≡ None = slice_get_past records n past in
      let e' : option_and_then (below end) (option_map source None) ≡ Some s =
      subst (λ o. option_and_then (below end) (option_map source o) ≡ Some s) none e in
      absurd cc
]

pub sources_past : (records : List OMAPRecord) (n end : ℕ) → AreSourcesInOrder records
    → source_before (Some records) n end ≡ None
    → (j : ℕ) → n ≤ j → j < length records → end ≤ source (get_or records j no_record)
sources_past records n end order e j le lt =
    let r = get_or records n no_record in
    let there : n < length records = omega arith in
    let rise : source r ≤ source (get_or records j no_record) = order n j no_record le lt in
    let e' : below end (source r) ≡ None =
    subst (λ o. option_and_then (below end) (option_map source o) ≡ None)
    (slice_get-get_or records n no_record there) e in
    elim (cases_lt (source r) end) [
      | inl low ↦ let some : below end (source r) ≡ Some (source r) =
          rw (lt-ltb (source r) end low) refl in absurd cc
      | inr past ↦ omega arith
    ]

nothing_behind : (number : ℕ → ℕ) (becomes : ℕ → Option ℕ) (a : ℕ)
    → runs_by number becomes a (a - a) ≡ []
unfolding runs_by
nothing_behind number becomes a = let e : a - a ≡ 0 = omega arith in rw e refl

-- a range that has ended becomes no run
pub nothing_left : (omap : Option (List OMAPRecord)) (a end : ℕ) → end ≤ a → runs omap a end ≡ []
unfolding runs_by
nothing_left omap a end past = let e : end - a ≡ 0 = omega arith in rw e refl

-- ---- a step of the walk

-- up to the next source addresses become one run by the record in force
pub up_to_source : (omap : Option (List OMAPRecord)) (n a end s : ℕ) → IsInOrder omap
    → IsAt omap n a → source_before omap n end ≡ Some s
    → runs omap a end ≡ run_in_front n (run_between omap n a s) (runs omap s end)
up_to_source None n a end s order at e = absurd cc
up_to_source (Some records) n a end s order at e =
    let found = source_found records n end s e in
    let le : a ≤ s = subst (λ x. a ≤ x) found.1 (at.behind n no_record (omega arith) found.0) in
    segment records n a s end at le (omega arith)
    (λ j p q. subst (λ x. x ≤ source (get_or records j no_record)) found.1
    (order n j no_record p q))
    (head_is_not (number_for (Some records)) (kept (Some records)) n (end - s) s
    (λ k lt same. let more = number_reaches records (s + k) n no_record found.0
    (subst (λ x. x ≤ s + k) (sym found.1) (omega arith)) in omega arith))

-- at the next source the cursor stands one record further
pub at_source : (omap : Option (List OMAPRecord)) (n a end s : ℕ) → IsInOrder omap → IsAt omap n a
    → source_before omap n end ≡ Some s → IsAt omap (n + 1) s
at_source None n a end s order at e = absurd cc
at_source (Some records) n a end s order at e =
    let found = source_found records n end s e in
    record {
      within = omega arith;
      before = λ k d p q. subst (λ x. source (get_or records k d) ≤ x) found.1
          (subst (λ y. source (get_or records k d) ≤ source y)
          (get_or_default records n d no_record found.0) (order k n d (omega arith) found.0));
      behind = λ k d p q. subst (λ x. x ≤ source (get_or records k d)) found.1
          (subst (λ y. source y ≤ source (get_or records k d))
          (get_or_default records n d no_record found.0) (order n k d (omega arith) q));
    }

-- the walk to the next source makes what is left less
pub on_to_source : (omap : Option (List OMAPRecord)) (n a end s : ℕ) → IsAt omap n a
    → source_before omap n end ≡ Some s
    → (a ≤ s) × (s < end) × (left_of omap (n + 1) < left_of omap n)
on_to_source None n a end s at e = absurd cc
on_to_source (Some records) n a end s at e =
    let found = source_found records n end s e in
    (subst (λ x. a ≤ x) found.1 (at.behind n no_record (omega arith) found.0), found.2, omega arith)

-- where no source lies before the end, addresses up to the end become one run
pub up_to_end : (omap : Option (List OMAPRecord)) (n a end : ℕ) → IsInOrder omap → IsAt omap n a
    → a < end → source_before omap n end ≡ None
    → runs omap a end ≡ run_in_front n (run_between omap n a end) (runs omap end end)
up_to_end (Some records) n a end order at lt e =
    segment records n a end end at (omega arith) (omega arith) (sources_past records n end order e)
    (subst (HeadIsNot n)
    (sym (nothing_behind (number_for (Some records)) (kept (Some records)) end)) tt)
up_to_end None n a end order at lt e =
    let f = number_for None in
    let g = kept None in
    let count : end - a ≡ end - a + (end - end) = omega arith in
    let there : a + (end - a) ≡ end = omega arith in
    ap (runs_by f g a) count
    ∙ subst (λ x. runs_by f g a (end - a + (end - end))
    ≡ run_in_front n (run_between None n a end) (runs_by f g x (end - end))) there
    (along f g (2 ^ 32 - 1) n (end - end) (end - a) a (Some a) (λ k l. sym at) (λ k l. refl)
    (subst (λ x. HeadIsNot n (runs_by f g x (end - end))) (sym there)
    (subst (HeadIsNot n) (sym (nothing_behind f g end)) tt)))

-- where no source lies before the end, the cursor stays at its record
pub at_end : (omap : Option (List OMAPRecord)) (n a end : ℕ) → IsInOrder omap → IsAt omap n a
    → a < end → source_before omap n end ≡ None → IsAt omap n end
at_end None n a end order at lt e = at
at_end (Some records) n a end order at lt e = record {
  within = at.within;
  before = λ k d p q. let b = at.before k d p q in omega arith;
  behind = λ k d p q. subst (λ y. end ≤ source y) (get_or_default records k no_record d q)
      (sources_past records n end order e k p q);
}

-- ---- where the walk begins

-- a number that parts the sources at an address is where a walk begins
pub starts : (records : List OMAPRecord) (n a : ℕ) → n ≤ length records
    → AllWithin (λ r. source r ≤ a) records 0 n
    → AllWithin (λ r. a < source r) records n (length records) → IsAtIn records n a
starts records n a le low high =
    record { within = le; before = low; behind = λ k d p q. let h = high k d p q in omega arith }
