-- Spans of places, where places are numbers, and which of many stands at a place.
use Rattle.std.specs.Prelude.{◌≡◌, ℕ, ◌+◌, ◌*◌, ◌<◌, ◌≤◌, Option, Some, None, List, [], ◌∷◌}
use Rattle.std.specs.Prelude.{if◌then◌else◌, ◌&&◌, nat_lt, nat_le, length, drop, map, slice_get}
use Rattle.std.specs.Prelude.{slice_range, ◌++◌}
use Rattle.std.specs.Option.{option_map}
use Rattle.pdb_addresses.specs.declared.internal_section_offset.PdbInternalSectionOffset.{
  PdbInternalSectionOffset,
}
use Rattle.pdb_pieces.specs.declared.span.Mark.{Mark}
use Rattle.pdb_pieces.specs.declared.span.Span.{Span}

-- a place in a section as a number: 2 ^ 33 numbers for each section, so that a span that begins in
-- one ends before the next
abbrev pub place_number : PdbInternalSectionOffset → ℕ
place_number place = place.section * 8589934592 + place.offset

-- the mark of a span, at the places that it covers
abbrev pub mark_over : Span → ℕ → Option Mark
mark_over s p = if nat_le s.start p && nat_lt p s.end then Some s.mark else None

-- the one of greater rank, of equals the first
abbrev pub better : Option Mark → Option Mark → Option Mark
better None b = b
better (Some a) None = Some a
better (Some a) (Some b) = if nat_lt a.rank b.rank then Some b else Some a

-- the mark of the span of greatest rank over a place, of equals the first
abbrev pub best : List Span → ℕ → Option Mark
best [] p = None
best (s ∷ rest) p = better (mark_over s p) (best rest p)

-- spans in ascending order, none empty and no two over one place, all within the bounds
abbrev pub ArePieces : ℕ → ℕ → List Span → Type 0
ArePieces low high [] = low ≤ high
ArePieces low high (s ∷ rest) = (low ≤ s.start) × (s.start < s.end) × ArePieces s.end high rest

-- none of the spans is empty
abbrev pub AreWide : List Span → Type 0
AreWide [] = Unit {0}
AreWide (s ∷ rest) = (s.start < s.end) × AreWide rest

-- the spans from one index on and before another are runs, one after another, that end at these
-- indices; each run is made of pieces
abbrev pub AreRuns : List Span → ℕ → List ℕ → ℕ → Type 0
AreRuns spans from [] to = from ≡ to
AreRuns spans from (end ∷ ends) to = (from ≤ end) × (end ≤ length spans)
    × ArePieces 0 18446744073709551615 (slice_range spans from end) × AreRuns spans end ends to

-- pieces were added that stand at each place with the better of the marks of both lists
pub record AddsBetter (before after left right : List Span) : Type 0 where
  pub added : List Span
  pub is : after ≡ before ++ added
  pub pieces : ArePieces 0 18446744073709551615 added
  pub best : (p : ℕ) → best added p ≡ better (best left p) (best right p)

-- the first of the spans that are left ends past `from`, and these spans are pieces
abbrev pub IsRest : ℕ → ℕ → List Span → Type 0
IsRest from high [] = Unit {0}
IsRest from high (s ∷ rest) = (from < s.end) × (s.start < s.end) × ArePieces s.end high rest

-- at `from` and past it only the spans from place i on count
pub record IsAhead (spans : List Span) (i from high : ℕ) : Type 0 where
  pub in_range : i ≤ length spans
  pub rest : IsRest from high (drop i spans)
  pub same : (p : ℕ) → from ≤ p → best spans p ≡ best (drop i spans) p

-- the spans stand with one mark from `from` on and before `to`
abbrev pub StandsWith : List Span → ℕ → ℕ → Option Mark → Type 0
StandsWith spans from to mark = (p : ℕ) → from ≤ p → p < to → best spans p ≡ mark

-- the first of the spans ends at `to` or past it
abbrev pub FirstReaches : ℕ → List Span → Type 0
FirstReaches to [] = Unit {0}
FirstReaches to (s ∷ rest) = to ≤ s.end

-- the piece numbered i holds the place p
pub record PieceHolds (pieces : List Span) (p i : ℕ) : Type 0 where
  pub piece : Span
  pub is : slice_get pieces i ≡ Some piece
  pub from : piece.start ≤ p
  pub before : p < piece.end

-- the starts of spans
abbrev pub starts_of : List Span → List ℕ
starts_of spans = map (λ s. s.start) spans

-- the mark of the piece with that number
abbrev pub mark_at : List Span → Option ℕ → Option Mark
mark_at pieces None = None
mark_at pieces (Some i) = option_map (λ s. s.mark) (slice_get pieces i)

-- the span covers the place
pub record IsOver (s : Span) (p : ℕ) : Type 0 where
  pub from : s.start ≤ p
  pub before : p < s.end

-- the mark is of a span over the place, no span over it has a greater rank, and no span before that
-- one has its rank
pub record IsGreatest (spans : List Span) (p : ℕ) (m : Mark) : Type 0 where
  pub number : ℕ
  pub span : Span
  pub is : slice_get spans number ≡ Some span
  pub over : IsOver span p
  pub mark : span.mark ≡ m
  pub greatest : (j : ℕ) (t : Span) → slice_get spans j ≡ Some t → IsOver t p → t.mark.rank ≤ m.rank
  pub first : (j : ℕ) (t : Span) → j < number → slice_get spans j ≡ Some t → IsOver t p
      → t.mark.rank < m.rank
