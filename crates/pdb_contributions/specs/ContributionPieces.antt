-- The search of contributions: by pieces of places, with the number of the one that holds each, and
-- by sorted bounds, or among contributions that lie apart.
use Rattle.std.specs.Prelude.{◌≡◌, ℕ, ◌+◌, ◌^◌, ◌<◌, ◌≤◌, List, [], ◌∷◌, slice_get, Option, None}
use Rattle.std.specs.Prelude.{Some, option_and_then}
use Rattle.pdb_addresses.specs.declared.internal_section_offset.PdbInternalSectionOffset.{
  PdbInternalSectionOffset,
}
use Rattle.pdb_pieces.specs.declared.span.Span.{Span}
use Rattle.pdb_pieces.specs.Spans.{best, place_number}
use Rattle.pdb_contributions.specs.declared.contribution.ModuleSectionContribution.{
  ModuleSectionContribution,
}
use Rattle.pdb_contributions.specs.declared.held.SearchTables.{SearchTables}
use Rattle.pdb_contributions.specs.BoundNumbers.{AreContributionBounds}
use Rattle.pdb_contributions.specs.MergedContributions.{holder}

-- the place at which a contribution begins, as a number
abbrev pub start_number : ModuleSectionContribution → ℕ
start_number c = place_number (record { section = c.section_index; offset = c.start_offset })

-- the place at which a contribution ends, as a number
abbrev pub end_number : ModuleSectionContribution → ℕ
end_number c = place_number (record { section = c.section_index; offset = c.end_offset })

-- the span that a contribution holds; all spans have one rank, so that the first counts
abbrev pub contribution_span : ℕ → ModuleSectionContribution → Span
contribution_span number c =
    record {
      start = start_number c;
      end = end_number c;
      mark = record { rank = 0; value = number };
    }

-- the spans that contributions hold, of which the first has this number
abbrev pub contribution_spans : ℕ → List ModuleSectionContribution → List Span
contribution_spans number [] = []
contribution_spans number (c ∷ others) = contribution_span number c
    ∷ contribution_spans (number + 1) others

-- start and end have 32 bits
abbrev pub IsShort : ModuleSectionContribution → Type 0
IsShort c = (c.start_offset < 2 ^ 32) × (c.end_offset < 2 ^ 32)

-- start and end of each contribution have 32 bits
abbrev pub AreShort : List ModuleSectionContribution → Type 0
AreShort [] = Unit {0}
AreShort (c ∷ others) = IsShort c × AreShort others

-- at each place of a section stands the number of the contribution that holds it
pub record StandFor (pieces : List Span) (contributions : List ModuleSectionContribution) :
    Type 0 where
  pub each : (place : PdbInternalSectionOffset) → place.offset < 2 ^ 32
      → option_and_then (λ m. slice_get contributions m.value) (best pieces (place_number place))
      ≡ holder contributions place

-- contributions in ascending order by their places, none before `low`, each of which begins where
-- the one before it ends or after that; no contribution ends before it begins
abbrev pub AreApart : ℕ → List ModuleSectionContribution → Type 0
AreApart low [] = Unit {0}
AreApart low (c ∷ others) = (low ≤ start_number c) × (start_number c ≤ end_number c)
    × AreApart (end_number c) others

-- pieces stand for contributions, and bounds are their starts and ends; without these tables the
-- contributions are short and lie apart
abbrev pub AreSearchable : List ModuleSectionContribution → Option SearchTables → Type 0
AreSearchable contributions None = AreApart 0 contributions × AreShort contributions
AreSearchable contributions (Some tables) = StandFor tables.pieces contributions
    × AreContributionBounds contributions tables.bounds
