-- Pieces of places for the inline sites of a procedure: at each place the number of the deepest
-- site over it; and the stored rows of the sites.
use Rattle.std.specs.Prelude.{◌≡◌, ℕ, ◌+◌, ◌-◌, ◌^◌, ◌<◌, ◌≤◌, Bool, ◌&&◌, ◌==◌, nat_le, nat_lt}
use Rattle.std.specs.Prelude.{List, [], ◌∷◌, ◌++◌, map, length, take, drop, slice_index, unwrap_or}
use Rattle.std.specs.Prelude.{Option, None, Some, option_map, if◌then◌else◌}
use Rattle.std.specs.Prelude.{◌≢◌, min, option_and_then, slice_get}
use Rattle.std.specs.BTreeMap.{BTreeMap, get}
use Rattle.std.specs.List.{find, flat_map}
use Rattle.std.specs.Ordering.{nat_cmp}
use Rattle.pdb_container.specs.declared.index.IdIndex.{IdIndex}
use Rattle.pdb_addresses.specs.declared.internal_section_offset.PdbInternalSectionOffset.{
  PdbInternalSectionOffset,
}
use Rattle.pdb_subsections.specs.declared.line_info.LineInfo.{LineInfo}
use Rattle.pdb_symbol_records.specs.Forms.{InlineSiteForm}
use Rattle.pdb_pieces.specs.declared.span.Span.{Span}
use Rattle.pdb_pieces.specs.Spans.{best, place_number}
use Rattle.pdb_module_data.specs.declared.call_rows.CallRow.{CallRow}
use Rattle.pdb_module_data.specs.declared.inlined_calls.CodeSpan.{CodeSpan}
use Rattle.pdb_module_data.specs.declared.inlined_calls.InlinedCall.{InlinedCall}
use Rattle.pdb_module_data.specs.Forest.{Site}
use Rattle.pdb_module_data.specs.InlinedCalls.{deepest, has_length, RowsOfCalls}

-- the stored row: all that an answer needs, if the row covers anything
abbrev pub kept_of : LineInfo → List CallRow
kept_of row =
    if has_length row
    then record {
      offset = row.offset;
      length = unwrap_or row.length 0;
      file_index = row.file_index;
      line_start = row.line_start;
    } ∷ []
    else []

-- the stored rows
abbrev pub kept_rows : List LineInfo → List CallRow
kept_rows rows = flat_map kept_of rows

-- the stored rows of sites, one after another
abbrev pub rows_of_sites : (InlineSiteForm → List LineInfo) → List Site → List CallRow
rows_of_sites rows sites = flat_map (λ site. kept_rows (rows site.call)) sites

-- the starts of the stored rows of each site, of which the first starts at a number; and the end of
-- the last site's rows
abbrev pub starts_of_sites : (InlineSiteForm → List LineInfo) → ℕ → List Site → List ℕ
starts_of_sites rows from [] = from ∷ []
starts_of_sites rows from (site ∷ sites) =
    from ∷ starts_of_sites rows (from + length (kept_rows (rows site.call))) sites

-- a fact of sites and of the rows of calls, if these are their stored rows and starts
abbrev pub IfStored : List CallRow → List ℕ → List Site → (RowsOfCalls → List Site → Type 0)
    → Type 0
IfStored rows starts sites Fact =
    (lines : RowsOfCalls) → rows ≡ rows_of_sites lines sites
    → starts ≡ starts_of_sites lines 0 sites → Fact lines sites

-- the rows from a number on and before another one
abbrev pub rows_between : List CallRow → ℕ → ℕ → List CallRow
rows_between rows from to = take (to - from) (drop from rows)

-- the rows of the site with a number, from the starts of the rows of each site
abbrev pub rows_at : List CallRow → List ℕ → ℕ → List CallRow
rows_at rows starts number =
    rows_between rows (slice_index starts number) (slice_index starts (number + 1))

-- the start of a row, and its end: at 2^32 at the latest
abbrev pub row_cuts : CallRow → List ℕ
row_cuts row =
    (row.offset).offset ∷ min ((row.offset).offset + row.length) (2 ^ 32) ∷ []

-- the starts and ends of rows
abbrev pub cuts_of : List CallRow → List ℕ
cuts_of rows = flat_map row_cuts rows

-- for so many sites there are starts that ascend among so many rows, and one more for the end
pub record AreCut (sites : ℕ) (starts : List ℕ) (rows : ℕ) : Type 0 where
  pub many : length starts ≡ sites + 1
  pub ascend : (k : ℕ) → k < sites → slice_index starts k ≤ slice_index starts (k + 1)
  pub bound : (k : ℕ) → k < sites → slice_index starts (k + 1) ≤ rows

-- the span that a row of the site with a number covers, ranked by the site's depth
abbrev pub site_row_span : ℕ → ℕ → CallRow → Span
site_row_span number depth row = record {
  start = place_number row.offset;
  end = place_number row.offset + row.length;
  mark = record { rank = depth; value = number };
}

-- the spans that sites cover by their rows, of which the first has this number
abbrev pub site_spans : (InlineSiteForm → List LineInfo) → ℕ → List Site → List Span
site_spans rows number [] = []
site_spans rows number (site ∷ sites) =
    map (site_row_span number site.depth) (kept_rows (rows site.call))
    ++ site_spans rows (number + 1) sites

-- these are the spans that sites cover by their rows
abbrev pub AreSpansOf : List Span → RowsOfCalls → List Site → Type 0
AreSpansOf spans rows sites = spans ≡ site_spans rows 0 sites

-- a row's start and length have 32 bits
abbrev pub IsShortRow : CallRow → Type 0
IsShortRow row = ((row.offset).offset < 2 ^ 32) × (row.length < 2 ^ 32)

-- the start and length of each row have 32 bits
abbrev pub AreShortRows : List CallRow → Type 0
AreShortRows [] = Unit {0}
AreShortRows (row ∷ rows) = IsShortRow row × AreShortRows rows

-- the start and length of each row of each site have 32 bits
abbrev pub AreShortSites : (InlineSiteForm → List LineInfo) → List Site → Type 0
AreShortSites rows [] = Unit {0}
AreShortSites rows (site ∷ sites) =
    AreShortRows (kept_rows (rows site.call)) × AreShortSites rows sites

-- whether a row covers a place: it covers its start and so many bytes below 2^32
abbrev pub covers_kept : PdbInternalSectionOffset → CallRow → Bool
covers_kept place row =
    ((row.offset).section == place.section) && nat_le (row.offset).offset place.offset
    && nat_lt place.offset ((row.offset).offset + row.length) && nat_lt place.offset (2 ^ 32)

-- rows in ascending order by their places, none before `low`, each of which begins where the one
-- before it ends or after that
abbrev pub AreApart : ℕ → List CallRow → Type 0
AreApart low [] = Unit {0}
AreApart low (row ∷ rows) =
    (low ≤ place_number row.offset) × AreApart (place_number row.offset + row.length) rows

-- the spans that rows cover, of which the first has this number, all of one rank
abbrev pub row_spans : ℕ → List CallRow → List Span
row_spans number [] = []
row_spans number (row ∷ rows) = site_row_span number 0 row ∷ row_spans (number + 1) rows

-- at each place of a section stands the number of the first row over it
pub record StandForFirst (pieces : List Span) (rows : List CallRow) : Type 0 where
  pub each : (place : PdbInternalSectionOffset) → place.offset < 2 ^ 32
      → option_and_then (λ m. slice_get rows m.value) (best pieces (place_number place))
      ≡ find (covers_kept place) rows

-- pieces stand for rows; without pieces the rows lie apart
abbrev pub AreFound : List CallRow → Option (List Span) → Type 0
AreFound rows None = AreApart 0 rows
AreFound rows (Some pieces) = StandForFirst pieces rows

-- for so many sites: under the number of each stand pieces for its rows, unless these lie apart
pub record AreAllFound (sites : ℕ) (rows : List CallRow) (starts : List ℕ)
    (pieces : BTreeMap ℕ (List Span)) : Type 0 where
  pub each : (k : ℕ) → k < sites
      → AreFound (rows_at rows starts k) (get nat_cmp pieces k)

-- pieces for rows, unless these lie apart, are added under a number that had none
pub record AddsFound (old new : BTreeMap ℕ (List Span)) (number : ℕ) (rows : List CallRow)
    : Type 0 where
  pub own : get nat_cmp old number ≡ None → AreFound rows (get nat_cmp new number)
  pub others : (k : ℕ) → k ≢ number → get nat_cmp new k ≡ get nat_cmp old k

-- a row's code, from the stored row
abbrev pub kept_code : CallRow → CodeSpan
kept_code row = record { offset = row.offset; length = row.length }

-- a call by the row that is over a place, or else by its first row
abbrev pub call_by_kept : IdIndex → Option CallRow → List CallRow → InlinedCall
call_by_kept id (Some row) rows = record {
  inlinee = id;
  file = Some row.file_index;
  line = Some row.line_start;
  row = Some (kept_code row);
}
call_by_kept id None [] = record { inlinee = id; file = None; line = None; row = None }
call_by_kept id None (first ∷ rows) =
    record { inlinee = id; file = Some first.file_index; line = None; row = None }

-- the sites of a procedure, their stored rows, the starts of the rows of each site, and pieces for
-- a search among them, unless they are few
pub record Ranges : Type 0 where
  pub sites : List Site
  pub rows : List CallRow
  pub starts : List ℕ
  pub pieces : Option (List Span)

-- by the rows of calls, at each place of a section stands the number of the deepest site over it
pub record HaveDeepest (rows : InlineSiteForm → List LineInfo) (sites : List Site)
    (pieces : List Span) : Type 0 where
  pub each : (place : PdbInternalSectionOffset) → place.offset < 2 ^ 32
      → option_map (λ m. m.value) (best pieces (place_number place)) ≡ deepest rows sites place

-- pieces have the deepest sites; without pieces sites and rows are gone over
abbrev pub StandForDeepest : (InlineSiteForm → List LineInfo) → List Site → Option (List Span)
    → Type 0
StandForDeepest rows sites None = Unit {0}
StandForDeepest rows sites (Some pieces) = HaveDeepest rows sites pieces

-- By the rows of calls, pieces have the deepest sites if there are pieces, and the stored rows are
-- those of each site.
pub record StandForSites (rows : InlineSiteForm → List LineInfo) (ranges : Ranges) : Type 0 where
  pub pieces : StandForDeepest rows ranges.sites ranges.pieces
  pub kept : ranges.rows ≡ rows_of_sites rows ranges.sites
  pub starts : ranges.starts ≡ starts_of_sites rows 0 ranges.sites
