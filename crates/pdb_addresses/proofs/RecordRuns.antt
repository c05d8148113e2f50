-- Over how many addresses an address's record counts, and what they become.
use Rattle.std.proofs.Common.{◌≡◌, ◌≢◌, ℕ, ◌+◌, ◌-◌, ◌^◌, ◌<◌, ◌≤◌, Bool, true, cond, inl, inr, List}
use Rattle.std.proofs.Common.{length, get_or, refl, sym, ap, ◌∙◌, subst, arith, not}
use Rattle.std.specs.Prelude.{Option, None, Some}
use Rattle.std.specs.List.{AllWithin}
use Rattle.std.specs.Option.{unwrap_or}
use Rattle.std.proofs.lemmas.Bool.{lt-ltb, le-ltb, eq-eqb, ne_eqb, cases_lt, cases_eq}
use Rattle.pdb_addresses.specs.declared.omap.OMAPRecord.{OMAPRecord}
use Rattle.pdb_addresses.specs.Addresses.{IsInOrder}
use Rattle.pdb_addresses.specs.Cursor.{IsAtIn, IsAt, source_before, sent_along, sent_by_number}
use Rattle.pdb_addresses.specs.Numbers.{in_32_bits}
use Rattle.pdb_addresses.specs.Omap.{source, last_number, sent_by, translated}
use Rattle.pdb_addresses.specs.PlaceRun.{begins_record}
use Rattle.pdb_addresses.specs.Ranges.{number_for}
use Rattle.pdb_addresses.proofs.OmapLemmas.{no_record, number_reaches, goes, no_first, record_before}
use Rattle.pdb_addresses.proofs.RangeSteps.{number_at, source_found, sources_past}

-- ---- where a record's addresses end

-- addresses from one on and before another go by one record, and that one by another, if it lies
-- before an end
pub record IsRecordEnd (omap : Option (List OMAPRecord)) (a stop end : ℕ) : Type 0 where
  pub past : a < stop
  pub within : stop ≤ end
  pub same : (k : ℕ) → k < stop - a → number_for omap (a + k) ≡ number_for omap a
  pub other : stop < end → number_for omap (stop - 1) ≢ number_for omap stop

-- where no source lies between, addresses go by one record
one_record : (records : List OMAPRecord) (n a stop k : ℕ) → IsAtIn records n a
    → n ≡ last_number records a
    → ((j : ℕ) → n ≤ j → j < length records → stop ≤ source (get_or records j no_record))
    → k < stop - a → last_number records (a + k) ≡ last_number records a
one_record records n a stop k at is behind lt =
    let low : AllWithin (λ r. source r ≤ a + k) records 0 n =
    λ j d p q. let b = at.before j d p q in omega arith in
    let far : (j : ℕ) → n ≤ j → j < length records → a + k < source (get_or records j no_record) =
    λ j p q. let b = behind j p q in omega arith in
    number_at records (a + k) n at.within low far ∙ is

up_to_end : (records : List OMAPRecord) (n a end : ℕ) → IsInOrder (Some records)
    → IsAtIn records n a → n ≡ last_number records a → a < end
    → source_before (Some records) n end ≡ None → IsRecordEnd (Some records) a end end
up_to_end records n a end order at is lt e = record {
  past = lt;
  within = omega arith;
  same = λ k less. one_record records n a end k at is (sources_past records n end order e) less;
  other = λ less. absurd (omega arith);
}

up_to_source : (records : List OMAPRecord) (n a end s : ℕ) → IsInOrder (Some records)
    → IsAtIn records n a → n ≡ last_number records a
    → source_before (Some records) n end ≡ Some s → IsRecordEnd (Some records) a s end
up_to_source records n a end s order at is e =
    let found = source_found records n end s e in
    let low : a < s = elim (cases_lt a s) [
      | inl less ↦ less
      | inr past ↦
          let more = number_reaches records a n no_record found.0
          (subst (λ x. x ≤ a) (sym found.1) past) in
          absurd (omega arith)
    ] in
    let behind : (j : ℕ) → n ≤ j → j < length records → s ≤ source (get_or records j no_record) =
    λ j p q. subst (λ x. x ≤ source (get_or records j no_record)) found.1
    (order n j no_record p q) in
    let same : (k : ℕ) → k < s - a → last_number records (a + k) ≡ last_number records a =
    λ k less. one_record records n a s k at is behind less in
    record {
      past = low;
      within = omega (arith, found.2);
      same = same;
      other = λ less equal.
          let more = number_reaches records s n no_record found.0
          (subst (λ x. x ≤ s) (sym found.1) (omega arith)) in
          let before : s - 1 ≡ a + (s - 1 - a) = omega (arith, low) in
          let one : last_number records (s - 1) ≡ last_number records a =
          ap (last_number records) before ∙ same (s - 1 - a) (omega (arith, low)) in
          omega (arith, more, one, is, equal);
    }

ended : (omap : Option (List OMAPRecord)) (n a end : ℕ) (o : Option ℕ) → IsInOrder omap
    → IsAt omap n a → n ≡ number_for omap a → a < end → source_before omap n end ≡ o
    → IsRecordEnd omap a (unwrap_or o end) end
ended None n a end None order at is lt e = record {
  past = lt;
  within = omega arith;
  same = λ k less. refl;
  other = λ less. absurd (omega arith);
}
ended None n a end (Some s) order at is lt e = absurd cc
ended (Some records) n a end None order at is lt e = up_to_end records n a end order at is lt e
ended (Some records) n a end (Some s) order at is lt e =
    up_to_source records n a end s order at is e

-- the next record's source, or the end
pub record_end : (omap : Option (List OMAPRecord)) (n a stop end : ℕ) → IsInOrder omap
    → IsAt omap n a → n ≡ number_for omap a → a < end
    → stop ≡ unwrap_or (source_before omap n end) end → IsRecordEnd omap a stop end
record_end omap n a stop end order at is lt e =
    subst (λ (s : ℕ). IsRecordEnd omap a s end) (sym e)
    (ended omap n a end (source_before omap n end) order at is lt refl)

-- another record begins there
pub other_begins : (omap : Option (List OMAPRecord)) (a stop count end : ℕ)
    → IsRecordEnd omap a stop end → count ≡ stop - a → a + count < end
    → begins_record omap (a + count) ≡ true
other_begins omap a stop count end ended is lt =
    let past = ended.past in
    let at : stop ≡ a + count = omega (arith, past, is) in
    subst (λ (s : ℕ). begins_record omap s ≡ true) at
    (ap not (ne_eqb (number_for omap (stop - 1)) (number_for omap stop)
    (ended.other (omega (arith, at, lt)))))

-- ---- what a record's addresses become

sum_along : (s k : ℕ) → in_32_bits (s + k) ≡ sent_along (in_32_bits s) k
sum_along s k = elim (cases_lt s (2 ^ 32)) [
  | inr past ↦ rw (le-ltb s (2 ^ 32) past, le-ltb (s + k) (2 ^ 32) (omega arith)) refl
  | inl low ↦ rw (lt-ltb s (2 ^ 32) low) refl
]

-- addresses that go by one record become one number after the other, up to 0xffffffff
along_record : (r : OMAPRecord) (a k : ℕ) → source r ≤ a
    → sent_by (a + k) r ≡ sent_along (sent_by a r) k
along_record r a k le = elim (cases_eq r.target_address 0) [
  | inl e ↦ rw (eq-eqb r.target_address 0 e) refl
  | inr other ↦
      let away : a + k - r.source_address ≡ a - r.source_address + k = omega arith in
      let sum : r.target_address + (a - r.source_address + k)
      ≡ r.target_address + (a - r.source_address) + k = omega arith in
      rw (ne_eqb r.target_address 0 other, away, sum)
      (sum_along (r.target_address + (a - r.source_address)) k)
]

along_number : (records : List OMAPRecord) (n a k : ℕ) → IsAtIn records n a
    → goes records (a + k) n ≡ sent_along (goes records a n) k
along_number records n a k at = elim (cases_eq n 0) [
  | inl none ↦ rw (no_first records (a + k) n none, no_first records a n none) refl
  | inr some ↦
      rw (
        record_before records (a + k) n no_record some at.within,
        record_before records a n no_record some at.within,
      )
      (along_record (get_or records (n - 1) no_record) a k
      (at.before (n - 1) no_record (omega arith) (omega (arith, some))))
]

-- what addresses become that go by the record of the first one
pub becomes_along : (omap : Option (List OMAPRecord)) (n a stop end k : ℕ) (first : Option ℕ)
    → IsAt omap n a → n ≡ number_for omap a → IsRecordEnd omap a stop end → end ≤ 2 ^ 32
    → first ≡ sent_by_number omap n a → k < stop - a
    → translated omap (a + k) ≡ sent_along first k
becomes_along None n a stop end k first at is ended low sent lt =
    let within = ended.within in
    let below : a + k < 2 ^ 32 = omega (arith, within, low, lt) in
    sym (ap (λ (o : Option ℕ). sent_along o k) sent
    ∙ ap (λ (b : Bool). let o : Option ℕ = cond b (Some (a + k)) None in o)
    (lt-ltb (a + k) (2 ^ 32) below))
becomes_along (Some records) n a stop end k first at is ended low sent lt =
    ap (goes records (a + k)) (ended.same k lt ∙ sym is)
    ∙ along_number records n a k at
    ∙ sym (ap (λ (o : Option ℕ). sent_along o k) sent)
