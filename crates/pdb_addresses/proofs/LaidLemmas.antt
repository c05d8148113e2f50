-- Runs laid end to end are what their addresses become one by one.
use Rattle.std.proofs.Common.{◌≡◌, ◌≢◌, ℕ, zero, suc, ◌+◌, ◌-◌, ◌^◌, ◌<◌, ◌≤◌, inl, inr, List, []}
use Rattle.std.proofs.Common.{◌∷◌, length, get_or, cond, leb, refl, sym, ap, ◌∙◌, subst, arith}
use Rattle.std.specs.Prelude.{Option, None, Some, option_and_then}
use Rattle.std.proofs.lemmas.Bool.{lt-ltb, le-ltb, le-leb, lt-leb, eq-eqb, ne_eqb, cases_lt}
use Rattle.std.proofs.lemmas.Bool.{cases_eq}
use Rattle.pdb_addresses.specs.declared.omap.OMAPRecord.{OMAPRecord}
use Rattle.pdb_addresses.specs.PartedRuns.{laid_out, with_first, each_for_itself, one_by_one}
use Rattle.pdb_addresses.specs.PartedRuns.{ArePartedFrom, AreParted}
use Rattle.pdb_addresses.specs.Omap.{source, record_number, last_number, sent_by}
use Rattle.pdb_addresses.specs.Ranges.{TranslatedRun, below, kept, number_for, with_address}
use Rattle.pdb_addresses.specs.Ranges.{runs_by, runs}
use Rattle.pdb_addresses.proofs.OmapLemmas.{no_record, goes, no_first, record_before}
use Rattle.pdb_addresses.proofs.RangeSteps.{along_record}
use Rattle.pdb_addresses.proofs.RunLemmas.{going}

-- ---- runs of any numbers

some_is_not_none : {X : Type 0} (o : Option ℕ) (n : ℕ) → o ≡ Some n → o ≡ None → X
some_is_not_none o n e f = absurd cc

one_more : (number : ℕ) (o : Option ℕ) (inner : List TranslatedRun)
    → ((r : TranslatedRun) (others : List TranslatedRun) (x : ℕ) → inner ≡ r ∷ others → o ≡ Some x
    → number ≡ r.number → (r.start ≡ x + 1) × (r.start < r.end))
    → laid_out (with_address number o inner) ≡ with_first o (laid_out inner)
one_more number None inner next = refl
one_more number (Some x) [] next = let e : x + 1 - x ≡ 1 = omega arith in rw e refl
one_more number (Some x) (r ∷ others) next = elim (cases_eq number r.number) [
  | inl same ↦
      let at = next r others x refl refl same in
      let e : r.end - x ≡ suc (r.end - r.start) = let a = at.0 in let b = at.1 in omega arith in
      rw (eq-eqb number r.number same, e, at.0) refl
  | inr other ↦
      let e : x + 1 - x ≡ 1 = omega arith in
      rw (ne_eqb number r.number other, e) refl
]

parted_more : (number : ℕ) (o : Option ℕ) (inner : List TranslatedRun) → AreParted inner
    → AreParted (with_address number o inner)
parted_more number None inner parted = parted
parted_more number (Some x) [] parted = tt
parted_more number (Some x) (r ∷ others) parted = elim (cases_eq number r.number) [
  | inl same ↦ rw (eq-eqb number r.number same)
      (subst (λ n. ArePartedFrom n others) (sym same) parted)
  | inr other ↦ rw (ne_eqb number r.number other) (other, parted)
]

module _ (number : ℕ → ℕ) (becomes : ℕ → Option ℕ) where
  pub parted : (n a : ℕ) → AreParted (runs_by number becomes a n)
  unfolding runs_by
  parted zero a = tt
  parted (suc n) a = parted_more (number a) (becomes a) (runs_by number becomes (a + 1) n)
      (parted n (a + 1))

  -- where the first run begins
  record Head (a : ℕ) (r : TranslatedRun) : Type 0 where
    away : ℕ
    by : number (a + away) ≡ r.number
    first : becomes (a + away) ≡ Some r.start
    before : (j : ℕ) → j < away → becomes (a + j) ≡ None
    some : r.start < r.end

  -- an address after one that became something, by the same record, became the next number
  abbrev pub GoesOn : Type 0
  GoesOn = (a k x y : ℕ) → becomes a ≡ Some x → number (a + 1 + k) ≡ number a
      → becomes (a + 1 + k) ≡ Some y → becomes (a + 1) ≡ Some (x + 1)

  module _ (on : GoesOn) where
    next_of : (a x : ℕ) (r : TranslatedRun) → Head (a + 1) r → becomes a ≡ Some x
        → number a ≡ r.number → (r.start ≡ x + 1) × (r.start < r.end)
    next_of a x r h e same =
        let next : becomes (a + 1) ≡ Some (x + 1) =
        on a h.away x r.start e (h.by ∙ sym same) h.first in
        let zero_on : a + 1 + 0 ≡ a + 1 = omega arith in
        elim (cases_eq h.away 0) [
          | inl none ↦
              let there : becomes (a + 1) ≡ Some r.start =
              subst (λ i. becomes i ≡ Some r.start) zero_on
              (subst (λ k. becomes (a + 1 + k) ≡ Some r.start) none h.first) in
              let equal : r.start ≡ x + 1 = cc in
              (equal, h.some)
          | inr some ↦ some_is_not_none (becomes (a + 1)) (x + 1) next
              (subst (λ i. becomes i ≡ None) zero_on (h.before 0 (omega arith)))
        ]

    before_more : (a away : ℕ) → becomes a ≡ None
        → ((j : ℕ) → j < away → becomes (a + 1 + j) ≡ None) → (j : ℕ) → j < suc away
        → becomes (a + j) ≡ None
    before_more a away is none zero lt = let at : a + 0 ≡ a = omega arith in ap becomes at ∙ is
    before_more a away is none (suc j) lt = let g : a + suc j ≡ a + 1 + j = omega arith in
        ap becomes g ∙ none j (omega arith)

    head_step : (a : ℕ) (o : Option ℕ) (inner : List TranslatedRun) (r : TranslatedRun)
        (others : List TranslatedRun) → becomes a ≡ o
        → ((s : TranslatedRun) (more : List TranslatedRun) → inner ≡ s ∷ more → Head (a + 1) s)
        → with_address (number a) o inner ≡ r ∷ others → Head a r
    head_step a None inner r others is heads e =
        let h = heads r others e in
        record {
          away = suc h.away;
          by = let g : a + suc h.away ≡ a + 1 + h.away = omega arith in rw g h.by;
          first = let g : a + suc h.away ≡ a + 1 + h.away = omega arith in rw g h.first;
          before = before_more a (h.away) is h.before;
          some = h.some;
        }
    head_step a (Some x) [] r others is heads e =
        let same : record { number = number a; start = x; end = x + 1 } ≡ r = cc in
        let at : a + 0 ≡ a = omega arith in
        subst (Head a) same
        (record {
          away = 0;
          by = ap number at;
          first = ap becomes at
              ∙ is;
          before = λ j lt. absurd (omega arith);
          some = omega arith;
        })
    head_step a (Some x) (s ∷ more) r others is heads e =
        let at : a + 0 ≡ a = omega arith in
        elim (cases_eq (number a) s.number) [
          | inl alike ↦
              let next = next_of a x s (heads s more refl) is alike in
              let merged : with_address (number a) (Some x) (s ∷ more)
              ≡ record { number = number a; start = x; end = s.end } ∷ more =
              rw (eq-eqb (number a) s.number alike) refl in
              let same : record { number = number a; start = x; end = s.end } ≡ r = cc in
              subst (Head a) same
              (record {
                away = 0;
                by = ap number at;
                first = ap becomes at
                    ∙ is;
                before = λ j lt. absurd (omega arith);
                some = let p = next.0 in let q =
                    next.1 in omega arith;
              })
          | inr other ↦
              let apart : with_address (number a) (Some x) (s ∷ more)
              ≡ record { number = number a; start = x; end = x + 1 } ∷ s ∷ more =
              rw (ne_eqb (number a) s.number other) refl in
              let same : record { number = number a; start = x; end = x + 1 } ≡ r = cc in
              subst (Head a) same
              (record {
                away = 0;
                by = ap number at;
                first = ap becomes at
                    ∙ is;
                before = λ j lt. absurd (omega arith);
                some = omega arith;
              })
        ]

    head_of : (n a : ℕ) (r : TranslatedRun) (others : List TranslatedRun)
        → runs_by number becomes a n ≡ r ∷ others → Head a r
    unfolding runs_by
    head_of zero a r others e = absurd cc
    head_of (suc n) a r others e = head_step a (becomes a) (runs_by number becomes (a + 1) n) r
        others refl (head_of n (a + 1)) e

    pub laid : (n a : ℕ) → laid_out (runs_by number becomes a n) ≡ each_for_itself becomes a n
    unfolding runs_by each_for_itself
    laid zero a = refl
    laid (suc n) a =
        one_more (number a) (becomes a) (runs_by number becomes (a + 1) n)
        (λ r others x inner e same. next_of a x r (head_of n (a + 1) r others inner) e same)
        ∙ ap (with_first (becomes a)) (laid n (a + 1))

-- ---- the numbers of records, however the sources lie

few : (first m : ℕ) → m ≡ 0 → record_number first m ≡ first
few first zero e = refl
few first (suc m) e = absurd (omega arith)

many : (first m : ℕ) → m ≢ 0 → record_number first m ≡ suc m
many first zero some = absurd (some refl)
many first (suc m) some = refl

abbrev first_of : OMAPRecord → ℕ → ℕ
first_of r a = cond (leb r.source_address a) 1 0

-- the last record with source at most an address is there, and its source is
number_holds : (records : List OMAPRecord) (a n : ℕ) (d : OMAPRecord)
    → last_number records a ≡ suc n → (n < length records) × (source (get_or records n d) ≤ a)
number_holds [] a n d e = absurd (omega arith)
number_holds (r ∷ records) a n d e =
    let m = last_number records a in
    let first = first_of r a in
    elim (cases_eq m 0) [
      | inl none ↦
          let e' : first ≡ suc n = sym (few first m none) ∙ e in
          elim (cases_lt a r.source_address) [
            | inl past ↦ let z : first ≡ 0 = rw (lt-leb r.source_address a past) refl in
                absurd (omega arith)
            | inr low ↦
                let one : first ≡ 1 = rw (le-leb r.source_address a low) refl in
                let z : 0 ≡ n = omega arith in
                (omega arith, subst (λ i. source (get_or (r ∷ records) i d) ≤ a) z low)
          ]
      | inr some ↦
          let e' : suc m ≡ suc n = sym (many first m some) ∙ e in
          let before : m ≡ suc (m - 1) = omega arith in
          let h = number_holds records a (m - 1) d before in
          let z : suc (m - 1) ≡ n = omega arith in
          (let p = h.0 in omega arith, subst (λ i. source (get_or (r ∷ records) i d) ≤ a) z h.1)
    ]

number_rises : (records : List OMAPRecord) (a b : ℕ) → a ≤ b
    → last_number records a ≤ last_number records b
number_rises [] a b le = omega arith
number_rises (r ∷ records) a b le =
    let m = last_number records a in
    let m' = last_number records b in
    let rise : m ≤ m' = number_rises records a b le in
    let first = first_of r a in
    let first' = first_of r b in
    let firsts : (first ≤ first') × (first ≤ 1) = elim (cases_lt a r.source_address) [
      | inl past ↦ let z : first ≡ 0 = rw (lt-leb r.source_address a past) refl in
          (omega arith, omega arith)
      | inr low ↦ let z : first ≡ 1 = rw (le-leb r.source_address a low) refl in let z' : first'
          ≡ 1 = rw (le-leb r.source_address b (omega arith)) refl in (omega arith, omega arith)
    ] in
    elim (cases_eq m 0) [
      | inl none ↦ elim (cases_eq m' 0) [
        | inl none' ↦ rw (few first m none, few first' m' none') firsts.0
        | inr some' ↦ rw (few first m none, many first' m' some') (let p = firsts.1 in omega arith)
      ]
      | inr some ↦ rw (many first m some, many first' m' (λ z. omega arith)) (omega arith)
    ]

-- ---- the addresses of a map

going_on : (top k x y : ℕ) (start : Option ℕ) → option_and_then (below top) start ≡ Some x
    → going top start (1 + k) ≡ Some y → going top start 1 ≡ Some (x + 1)
going_on top k x y None e f = absurd cc
going_on top k x y (Some s) e f = elim (cases_lt s top) [
  | inr past ↦ some_is_not_none (below top s) x e (rw (le-ltb s top past) refl)
  | inl low ↦
      let here : below top s ≡ Some s = rw (lt-ltb s top low) refl in
      let same : s ≡ x = cc in
      elim (cases_lt (s + (1 + k)) top) [
        | inr past ↦ some_is_not_none (below top (s + (1 + k))) y f
            (rw (le-ltb (s + (1 + k)) top past) refl)
        | inl far ↦ rw (lt-ltb (s + 1) top (omega arith)) (ap (λ n. Some (n + 1)) same)
      ]
]

goes_on_none : GoesOn (number_for None) (kept None)
goes_on_none a k x y e same f =
    let g : a + 1 + k ≡ a + (1 + k) = omega arith in
    going_on (2 ^ 32 - 1) k x y (Some a) e (subst (λ i. kept None i ≡ Some y) g f)

-- what an address becomes by the record with an index that isn't 0, and what those after it become
kept_by : (records : List OMAPRecord) (a k n : ℕ) → last_number records a ≡ suc n
    → last_number records (a + k) ≡ suc n
    → kept (Some records) (a + k) ≡ going (2 ^ 32 - 1) (sent_by a (get_or records n no_record)) k
kept_by records a k n at there =
    let h = number_holds records a n no_record at in
    let back : suc n - 1 ≡ n = omega arith in
    let by : goes records (a + k) (suc n) ≡ sent_by (a + k) (get_or records n no_record) =
    subst (λ i. goes records (a + k) (suc n) ≡ sent_by (a + k) (get_or records i no_record)) back
    (record_before records (a + k) (suc n) no_record (λ z. omega arith)
    (let p = h.0 in omega arith)) in
    ap (λ i. option_and_then (below (2 ^ 32 - 1)) (goes records (a + k) i)) there
    ∙ ap (option_and_then (below (2 ^ 32 - 1))) by
    ∙ along_record (get_or records n no_record) a k h.1

goes_on_some : (records : List OMAPRecord)
    → GoesOn (number_for (Some records)) (kept (Some records))
goes_on_some records a k x y e same f =
    let n = last_number records a in
    let top = 2 ^ 32 - 1 in
    elim (cases_eq n 0) [
      | inl none ↦ some_is_not_none (kept (Some records) a) x e
          (ap (option_and_then (below top)) (no_first records a n none))
      | inr some ↦
          let number : n ≡ suc (n - 1) = omega arith in
          let r = get_or records (n - 1) no_record in
          let g : a + 1 + k ≡ a + (1 + k) = omega arith in
          let at : a + 0 ≡ a = omega arith in
          let up = number_rises records a (a + 1) (omega arith) in
          let down = number_rises records (a + 1) (a + 1 + k) (omega arith) in
          let same_next : last_number records (a + 1) ≡ suc (n - 1) = omega arith in
          let far : last_number records (a + (1 + k)) ≡ suc (n - 1) =
          ap (last_number records) (sym g) ∙ same ∙ number in
          let here : option_and_then (below top) (sent_by a r) ≡ Some x =
          sym
          (ap (option_and_then (below top))
          (record_before records a n no_record some
          (let h = number_holds records a (n - 1) no_record number in let p = h.0 in
          omega arith))) ∙ e in
          kept_by records a 1 (n - 1) number same_next
          ∙ going_on top k x y (sent_by a r) here
          (sym (kept_by records a (1 + k) (n - 1) number far)
          ∙ ap (kept (Some records)) (sym g) ∙ f)
    ]

pub goes_on : (omap : Option (List OMAPRecord)) → GoesOn (number_for omap) (kept omap)
goes_on None = goes_on_none
goes_on (Some records) = goes_on_some records

-- the runs of a range, laid end to end, are what its addresses become one by one
pub laid_end_to_end : (omap : Option (List OMAPRecord)) (start end : ℕ)
    → laid_out (runs omap start end) ≡ one_by_one omap start end
laid_end_to_end omap start end = laid (number_for omap) (kept omap) (goes_on omap)
    (end - start) start

-- no two neighbours among the runs of a range came by one record
pub runs_parted : (omap : Option (List OMAPRecord)) (start end : ℕ)
    → AreParted (runs omap start end)
runs_parted omap start end = parted (number_for omap) (kept omap) (end - start) start
