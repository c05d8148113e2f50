-- The last subsection at or before a place, where subsections are in order.
use Rattle.std.proofs.Common.{◌≡◌, ◌≢◌, ℕ, zero, suc, ◌+◌, ◌-◌, ◌<◌, ◌≤◌, List, [], ◌∷◌, length}
use Rattle.std.proofs.Common.{take, drop, get_or, None, Some, refl, sym, subst, ◌∙◌, arith}
use Rattle.std.specs.List.{AllWithin}
use Rattle.std.proofs.lemmas.Bool.{le-leb, lt-leb, eq-eqb, ne_eqb}
use Rattle.std.proofs.lemmas.List.{drop_more, drop-take}
use Rattle.pdb_addresses.specs.declared.internal_section_offset.PdbInternalSectionOffset.{
  PdbInternalSectionOffset,
}
use Rattle.pdb_lines.specs.LinesSubsections.{LinesSubsection, Program, rank, place_rank}
use Rattle.pdb_lines.specs.LineRows.{last_subsection_at, subsections_for, subsection_numbered}

-- the first n subsections begin at or before a place, and the others after it
pub record Parts (at : ℕ) (subsections : List LinesSubsection) (n : ℕ) : Type 0 where
  pub low : AllWithin (λ r. rank r ≤ at) subsections 0 n
  pub high : AllWithin (λ r. at < rank r) subsections n (length subsections)

parts_behind : (at n : ℕ) (r : LinesSubsection) (subsections : List LinesSubsection)
    → Parts at (r ∷ subsections) (suc n) → Parts at subsections n
parts_behind at n r subsections parts = record {
  low = λ j d le lt. parts.low (suc j) d (omega arith) (omega (arith, lt));
  high = λ j d le lt. parts.high (suc j) d (omega (arith, le)) (omega (arith, lt));
}

none_behind : (at : ℕ) (r : LinesSubsection) (subsections : List LinesSubsection)
    → Parts at (r ∷ subsections) 0 → Parts at subsections 0
none_behind at r subsections parts = record {
  low = λ j d le lt. absurd (omega (arith, lt));
  high = λ j d le lt. parts.high (suc j) d (omega arith) (omega (arith, lt));
}

none_before : (at : ℕ) (subsections : List LinesSubsection) → Parts at subsections 0
    → last_subsection_at at subsections ≡ None
none_before at [] parts = refl
none_before at (r ∷ subsections) parts =
    rw (
      none_before at subsections (none_behind at r subsections parts),
      lt-leb (rank r) at (parts.high 0 r (omega arith) (omega arith)),
    ) refl

last_before : (at n : ℕ) (subsections : List LinesSubsection) (d : LinesSubsection)
    → suc n ≤ length subsections → Parts at subsections (suc n)
    → last_subsection_at at subsections ≡ Some (get_or subsections n d)
last_before at n [] d le parts = absurd (omega (arith, le))
last_before at zero (r ∷ subsections) d le parts =
    rw (
      none_before at subsections (parts_behind at 0 r subsections parts),
      le-leb (rank r) at (parts.low 0 r (omega arith) (omega arith)),
    ) refl
last_before at (suc n) (r ∷ subsections) d le parts =
    rw (last_before at n subsections d (omega (arith, le))
    (parts_behind at (suc n) r subsections parts)) refl

abbrev rank_of : PdbInternalSectionOffset → ℕ
rank_of place = place_rank place.section place.offset

-- where no subsection begins at or before the place, it has none, and 0 is the number of none
pub no_subsection : (p : Program) (place : PdbInternalSectionOffset) (at n : ℕ) → at ≡ rank_of place
    → n ≡ 0 → AllWithin (λ r. rank r ≤ at) p.subsections 0 n
    → AllWithin (λ r. at < rank r) p.subsections n (length p.subsections)
    → subsection_numbered p 0 ≡ subsections_for p place
no_subsection p place at n is none low high =
    let parts : Parts at p.subsections n = record { low = low; high = high } in
    rw (← is, none_before at p.subsections (rw none at parts)) refl

the_subsection : (p : Program) (at n : ℕ) (d : LinesSubsection) → n ≢ 0 → n ≤ length p.subsections
    → AllWithin (λ r. rank r ≤ at) p.subsections 0 n
    → AllWithin (λ r. at < rank r) p.subsections n (length p.subsections)
    → last_subsection_at at p.subsections ≡ Some (get_or p.subsections (n - 1) d)
the_subsection p at n d some le low high =
    let e : n ≡ suc (n - 1) = omega (arith, some) in
    let parts : Parts at p.subsections n = record { low = low; high = high } in
    last_before at (n - 1) p.subsections d (omega (arith, some, le)) (rw e at parts)

-- where the last one is in another section, it has none
pub other_section : (p : Program) (place : PdbInternalSectionOffset) (at n : ℕ)
    (d : LinesSubsection) → at ≡ rank_of place → n ≢ 0 → n ≤ length p.subsections
    → AllWithin (λ r. rank r ≤ at) p.subsections 0 n
    → AllWithin (λ r. at < rank r) p.subsections n (length p.subsections)
    → (get_or p.subsections (n - 1) d).section ≢ place.section
    → subsection_numbered p 0 ≡ subsections_for p place
other_section p place at n d is some le low high other =
    rw (
      ← is,
      the_subsection p at n d some le low high,
      ne_eqb (get_or p.subsections (n - 1) d).section place.section other,
    ) refl

last_of_first : (subsections : List LinesSubsection) (n : ℕ) → n ≢ 0
    → drop (n - 1) (take n subsections) ≡ take 1 (drop (n - 1) subsections)
last_of_first subsections n some =
    let e : n - 1 + 1 ≡ n = omega (arith, some) in
    subst (λ k. drop (n - 1) (take k subsections) ≡ take 1 (drop (n - 1) subsections)) e
    (drop-take (n - 1) 1 subsections)

-- else the last one is the place's
pub one_subsection : (p : Program) (place : PdbInternalSectionOffset) (at n : ℕ)
    (d : LinesSubsection) → at ≡ rank_of place → n ≢ 0 → n ≤ length p.subsections
    → AllWithin (λ r. rank r ≤ at) p.subsections 0 n
    → AllWithin (λ r. at < rank r) p.subsections n (length p.subsections)
    → (get_or p.subsections (n - 1) d).section ≡ place.section
    → subsection_numbered p n ≡ subsections_for p place
one_subsection p place at n d is some le low high same =
    rw (
      ← is,
      the_subsection p at n d some le low high,
      last_of_first p.subsections n some,
      drop_more p.subsections (n - 1) d (omega (arith, some, le)),
      eq-eqb (get_or p.subsections (n - 1) d).section place.section same,
    ) refl

-- the subsection of a number in their row
pub in_row : (p : Program) (place : PdbInternalSectionOffset) (n : ℕ) → n ≢ 0
    → subsection_numbered p n ≡ subsections_for p place
    → take (n - (n - 1)) (drop (n - 1) p.subsections) ≡ subsections_for p place
in_row p place n some is =
    let e : n - (n - 1) ≡ 1 = omega (arith, some) in
    rw e (sym (last_of_first p.subsections n some) ∙ is)
