-- Between starts and ends of rows of inline sites the inlined calls over a place stay.
use Rattle.std.proofs.Common.{◌≡◌, ◌≢◌, ℕ, zero, suc, ◌+◌, ◌^◌, Bool, true, false}
use Rattle.std.proofs.Common.{◌&&◌, ◌||◌, inl, inr, leb, ltb, min, List, [], ◌∷◌, ◌++◌, refl, sym, ap, ◌∙◌}
use Rattle.std.proofs.Common.{subst, arith}
use Rattle.std.specs.Prelude.{Option, None, Some, ◌==◌, if◌then◌else◌, slice_get, unwrap_or}
use Rattle.std.specs.Prelude.{option_map}
use Rattle.std.specs.List.{find, flat_map, list_any}
use Rattle.std.proofs.lemmas.Bool.{cases_lt, le-ltb, lt-ltb}
use Rattle.std.proofs.lemmas.Bool.Decides.{nat_tests}
use Rattle.pdb_addresses.specs.declared.internal_section_offset.PdbInternalSectionOffset.{
  PdbInternalSectionOffset,
}
use Rattle.pdb_frames.proofs.FileStays.{AreClear}
use Rattle.pdb_frames.proofs.RunLaw.{IsClear, differ, front_clear, leb_step, left_false, on, one_on}
use Rattle.pdb_frames.proofs.RunLaw.{rest_clear, right_false, zero_on}
use Rattle.pdb_lines.specs.InlinedRows.{covers}
use Rattle.pdb_module_data.specs.Forest.{Site}
use Rattle.pdb_module_data.specs.InlinePieces.{cuts_of, kept_rows, row_cuts, rows_of_sites}
use Rattle.pdb_module_data.specs.InlinedCalls.{call_by, calls_of, calls_over, chain_at}
use Rattle.pdb_module_data.specs.InlinedCalls.{deeper, deepest, deepest_from, has_length, is_over}
use Rattle.pdb_module_data.specs.declared.call_rows.CallRow.{CallRow}
use Rattle.pdb_module_data.specs.declared.inlined_calls.InlinedCall.{InlinedCall}
use Rattle.pdb_subsections.specs.declared.line_info.LineInfo.{LineInfo}
use Rattle.pdb_symbol_records.specs.Forms.{InlineSiteForm}

-- ---- one place on

neither : (a b : Bool) → a ≡ false → b ≡ false → (a || b) ≡ false
neither a b h i = (cc)

both_clear : (bs cs : List ℕ) (x : ℕ) → IsClear bs x → IsClear cs x → IsClear (bs ++ cs) x
both_clear [] cs x h i = i
both_clear (b ∷ bs) cs x h i =
    let others = list_any (λ bound. x == bound) bs in
    neither (x == b) (list_any (λ bound. x == bound) (bs ++ cs)) (left_false (x == b) others h)
    (both_clear bs cs x (right_false (x == b) others h) i)

-- cuts of rows before others
cuts_clear : (rows others : List CallRow) (x : ℕ) → IsClear (cuts_of (rows ++ others)) x
    → IsClear (cuts_of rows) x × IsClear (cuts_of others) x
cuts_clear [] others x h = (refl, h)
cuts_clear (row ∷ rows) others x h =
    let first = row_cuts row in
    let rest = cuts_clear rows others x (rest_clear first (cuts_of (rows ++ others)) x h) in (
      both_clear first (cuts_of rows) x (front_clear first (cuts_of (rows ++ others)) x h) rest.0,
      rest.1,
    )

and_false : (a : Bool) → (a && false) ≡ false
and_false true = refl
and_false false = refl

-- two ends, of which the lesser isn't passed
ends_step : (end last x : ℕ) → x + 1 ≢ min end last
    → (ltb (x + 1) end && ltb (x + 1) last) ≡ (ltb x end && ltb x last)
ends_step end last x other = elim (cases_lt x end) [
  | inl low ↦ elim (cases_lt x last) [
    | inl before ↦
        rw (
          lt-ltb (x + 1) end (omega arith),
          lt-ltb (x + 1) last (omega arith),
          lt-ltb x end low,
          lt-ltb x last before,
        ) refl
    | inr after ↦
        rw (le-ltb (x + 1) last (omega arith), le-ltb x last after, lt-ltb x end low)
        (and_false (ltb (x + 1) end))
  ]
  | inr high ↦ rw (le-ltb (x + 1) end (omega arith), le-ltb x end high) refl
]

and_grouped : (a b c : Bool) → ((a && b) && c) ≡ (a && (b && c))
and_grouped true b c = refl
and_grouped false b c = refl

span_step : (same : Bool) (start end last x : ℕ) → IsClear (start ∷ min end last ∷ []) (x + 1)
    → (((same && leb start (x + 1)) && ltb (x + 1) end) && ltb (x + 1) last)
    ≡ (((same && leb start x) && ltb x end) && ltb x last)
span_step same start end last x h =
    let least = min end last in
    let later = right_false (x + 1 == start) ((x + 1 == least) || false) h in
    let e = leb_step start x
    (differ (x + 1) start (left_false (x + 1 == start) ((x + 1 == least) || false) h)) in
    let f = ends_step end last x (differ (x + 1) least (left_false (x + 1 == least) false later)) in
    and_grouped (same && leb start (x + 1)) (ltb (x + 1) end) (ltb (x + 1) last)
    ∙ ap (λ (b : Bool). (same && leb start (x + 1)) && b) f
    ∙ ap (λ (b : Bool). (same && b) && (ltb x end && ltb x last)) e
    ∙ sym (and_grouped (same && leb start x) (ltb x end) (ltb x last))

-- a row without length covers nothing
covers_nothing : (row : LineInfo) (place : PdbInternalSectionOffset) → has_length row ≡ false
    → covers row place ≡ false
covers_nothing row place e = grind (arith, nat_tests)

-- what is stored of a row that covers anything
abbrev kept_one : LineInfo → CallRow
kept_one row = record {
  offset = row.offset;
  length = unwrap_or row.length 0;
  file_index = row.file_index;
  line_start = row.line_start;
}

-- what is stored of a row, with what is stored of others
abbrev kept_with : LineInfo → Bool → List CallRow → List CallRow
kept_with row long others = (if long then kept_one row ∷ [] else []) ++ others

row_step : (row : LineInfo) (p : PdbInternalSectionOffset) (others : List CallRow) (long : Bool)
    → has_length row ≡ long → IsClear (cuts_of (kept_with row long others)) (p.offset + 1)
    → (covers row (on p 1) ≡ covers row p) × IsClear (cuts_of others) (p.offset + 1)
row_step row p others true is h =
    let start = row.offset.offset in
    let end = start + unwrap_or row.length 0 in
    let own = start ∷ min end (2 ^ 32) ∷ [] in (
      span_step (row.offset.section == p.section) start end (2 ^ 32) p.offset
          (front_clear own (cuts_of others) (p.offset + 1) h),
      rest_clear own (cuts_of others) (p.offset + 1) h,
    )
row_step row p others false is h =
    (covers_nothing row (on p 1) is ∙ sym (covers_nothing row p is), h)

any_step : (rows : List LineInfo) (p : PdbInternalSectionOffset)
    → IsClear (cuts_of (kept_rows rows)) (p.offset + 1)
    → list_any (λ row. covers row (on p 1)) rows ≡ list_any (λ row. covers row p) rows
any_step [] p h = refl
any_step (row ∷ rows) p h =
    let first = row_step row p (kept_rows rows) (has_length row) refl h in
    let others = any_step rows p first.1 in
    ap (λ (b : Bool). b || list_any (λ row. covers row (on p 1)) rows) first.0
    ∙ ap (λ (b : Bool). covers row p || b) others

find_step : (rows : List LineInfo) (p : PdbInternalSectionOffset)
    → IsClear (cuts_of (kept_rows rows)) (p.offset + 1)
    → find (λ row. covers row (on p 1)) rows ≡ find (λ row. covers row p) rows
find_step [] p h = refl
find_step (row ∷ rows) p h =
    let first = row_step row p (kept_rows rows) (has_length row) refl h in
    let others = find_step rows p first.1 in
    ap (λ (b : Bool). if b then Some row else find (λ row. covers row (on p 1)) rows) first.0
    ∙ ap (λ (o : Option LineInfo). if covers row p then Some row else o) others

-- ---- sites
module _ (rows : InlineSiteForm → List LineInfo) where
  deepest_step : (number : ℕ) (sites : List Site) (p : PdbInternalSectionOffset)
      → IsClear (cuts_of (rows_of_sites rows sites)) (p.offset + 1)
      → deepest_from rows (on p 1) number sites ≡ deepest_from rows p number sites
  deepest_step number [] p h = refl
  deepest_step number (site ∷ sites) p h =
      let clear =
      cuts_clear (kept_rows (rows site.call)) (rows_of_sites rows sites) (p.offset + 1) h in
      let first = any_step (rows site.call) p clear.0 in
      let others = deepest_step (number + 1) sites p clear.1 in
      ap (λ (b : Bool). deeper (if b then Some (number, site.depth) else None)
      (deepest_from rows (on p 1) (number + 1) sites)) first
      ∙ ap (λ (o : Option (ℕ × ℕ)).
      deeper (if is_over rows p site then Some (number, site.depth) else None) o) others

  call_step : (sites : List Site) (n : ℕ) (p : PdbInternalSectionOffset)
      → IsClear (cuts_of (rows_of_sites rows sites)) (p.offset + 1)
      → calls_of rows (on p 1) (slice_get sites n) ≡ calls_of rows p (slice_get sites n)
  call_step [] zero p h = refl
  call_step [] (suc n) p h = refl
  call_step (site ∷ sites) zero p h =
      let clear =
      cuts_clear (kept_rows (rows site.call)) (rows_of_sites rows sites) (p.offset + 1) h in
      ap (λ (o : Option LineInfo).
      call_by site.call.inlinee o (find has_length (rows site.call)) ∷ [])
      (find_step (rows site.call) p clear.0)
  call_step (site ∷ sites) (suc n) p h =
      let clear =
      cuts_clear (kept_rows (rows site.call)) (rows_of_sites rows sites) (p.offset + 1) h in
      call_step sites n p clear.1

  all_alike : (f g : ℕ → List InlinedCall) → ((n : ℕ) → f n ≡ g n) → (numbers : List ℕ)
      → flat_map f numbers ≡ flat_map g numbers
  all_alike f g same [] = refl
  all_alike f g same (n ∷ numbers) =
      ap (λ (calls : List InlinedCall). calls ++ flat_map f numbers) (same n)
      ∙ ap (λ (calls : List InlinedCall). g n ++ calls) (all_alike f g same numbers)

  calls_step : (sites : List Site) (p : PdbInternalSectionOffset)
      → IsClear (cuts_of (rows_of_sites rows sites)) (p.offset + 1)
      → calls_over rows sites (on p 1) ≡ calls_over rows sites p
  calls_step sites p h =
      let over = λ (n : ℕ). calls_of rows p (slice_get sites n) in
      all_alike (λ n. calls_of rows (on p 1) (slice_get sites n)) over
      (λ n. call_step sites n p h) (chain_at sites (deepest rows sites (on p 1)))
      ∙ ap (λ (o : Option (ℕ × ℕ)).
      flat_map over (chain_at sites (option_map (λ (found : ℕ × ℕ). found.0) o)))
      (deepest_step 0 sites p h)

  -- between starts and ends of rows of sites the calls stay
  pub calls_stay : (sites : List Site) (p : PdbInternalSectionOffset) (k : ℕ)
      → AreClear (cuts_of (rows_of_sites rows sites)) p.offset k
      → calls_over rows sites (on p k) ≡ calls_over rows sites p
  calls_stay sites p zero clear = ap (calls_over rows sites) (zero_on p)
  calls_stay sites p (suc k) clear =
      let e : p.offset + suc k ≡ p.offset + k + 1 = omega arith in
      let last = clear (suc k) (omega arith) (omega arith) in
      let here = subst (λ (y : ℕ). IsClear (cuts_of (rows_of_sites rows sites)) y) e last in
      ap (calls_over rows sites) (one_on p k) ∙ calls_step sites (on p k) here
      ∙ calls_stay sites p k (λ j low high. clear j low (omega arith))
