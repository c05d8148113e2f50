-- The numbers of the deepest sites at places, by what the rows of sites cover.
use Rattle.std.proofs.Common.{◌≡◌, ℕ, ◌+◌, ◌^◌, ◌<◌, Bool, true, false, List, [], ◌∷◌, map, refl, ap, subst, ◌∙◌, arith}
use Rattle.std.specs.Prelude.{Option, None, Some, nat_lt, ◌||◌, option_map, if◌then◌else◌}
use Rattle.std.specs.List.{list_any}
use Rattle.std.proofs.lemmas.Bool.Decides.{nat_tests}
use Rattle.pdb_addresses.specs.declared.internal_section_offset.PdbInternalSectionOffset.{PdbInternalSectionOffset}
use Rattle.pdb_subsections.specs.declared.line_info.LineInfo.{LineInfo}
use Rattle.pdb_symbol_records.specs.Forms.{InlineSiteForm}
use Rattle.pdb_lines.specs.InlinedRows.{covers}
use Rattle.pdb_pieces.specs.declared.span.Mark.{Mark}
use Rattle.pdb_pieces.specs.declared.span.Span.{Span}
use Rattle.pdb_pieces.specs.Spans.{best, better, mark_over, place_number}
use Rattle.pdb_pieces.proofs.Covers.{best-append}
use Rattle.pdb_module_data.specs.Forest.{Site}
use Rattle.pdb_module_data.specs.InlinedCalls.{is_over, deeper, deepest_from}
use Rattle.pdb_module_data.specs.declared.call_rows.CallRow.{CallRow}
use Rattle.pdb_module_data.specs.InlinePieces.{kept_rows, rows_of_sites, starts_of_sites, site_row_span, site_spans, covers_kept, IsShortRow, AreShortRows, AreShortSites, HaveDeepest, StandForDeepest, StandForSites}
use Rattle.pdb_module_data.proofs.KeptRows.{any_kept}

-- a site that was found, by its number and depth, as a mark
abbrev as_mark : ℕ × ℕ → Mark
as_mark found = record { rank = found.1; value = found.0 }

-- a row's span is over the places that it covers
pub span_over : (n d : ℕ) (row : CallRow) (place : PdbInternalSectionOffset) → IsShortRow row → place.offset < 2 ^ 32
    → mark_over (site_row_span n d row) (place_number place) ≡ (if covers_kept place row then Some record { rank = d; value = n } else None)
span_over n d row place short small = grind (arith, nat_tests)

one_of_rows : (m : Mark) (a b : Bool) → better (if a then Some m else None) (if b then Some m else None) ≡ (if a || b then Some m else None)
one_of_rows m false b = refl
one_of_rows m true false = refl
one_of_rows m true true = grind (arith, nat_tests)

-- the spans of rows have the site's mark where one of them covers the place
kept_over : (n d : ℕ) (rows : List CallRow) (place : PdbInternalSectionOffset) → AreShortRows rows → place.offset < 2 ^ 32
    → best (map (site_row_span n d) rows) (place_number place) ≡ (if list_any (covers_kept place) rows then Some record { rank = d; value = n } else None)
kept_over n d [] place short small = refl
kept_over n d (row ∷ rows) place short small =
    rw (span_over n d row place short.0 small, kept_over n d rows place short.1 small) (one_of_rows record { rank = d; value = n } (covers_kept place row) (list_any (covers_kept place) rows))

rows_over : (n d : ℕ) (rows : List LineInfo) (place : PdbInternalSectionOffset) → AreShortRows (kept_rows rows) → place.offset < 2 ^ 32
    → best (map (site_row_span n d) (kept_rows rows)) (place_number place) ≡ (if list_any (λ row. covers row place) rows then Some record { rank = d; value = n } else None)
rows_over n d rows place short small = kept_over n d (kept_rows rows) place short small ∙ ap (λ b. if b then Some record { rank = d; value = n } else None) (any_kept rows place)

as_mark_if : (n d : ℕ) (b : Bool) → (if b then Some record { rank = d; value = n } else None) ≡ option_map as_mark (if b then Some (n, d) else None)
as_mark_if n d true = refl
as_mark_if n d false = refl

as_mark_of_two : (a b : ℕ × ℕ) (c : Bool) → (if c then Some (as_mark b) else Some (as_mark a)) ≡ option_map as_mark (if c then Some b else Some a)
as_mark_of_two a b true = refl
as_mark_of_two a b false = refl

-- the deeper one has the better mark
better_deeper : (x y : Option (ℕ × ℕ)) → better (option_map as_mark x) (option_map as_mark y) ≡ option_map as_mark (deeper x y)
better_deeper None y = refl
better_deeper (Some a) None = refl
better_deeper (Some a) (Some b) = as_mark_of_two a b (nat_lt a.1 b.1)

module _ (rows : InlineSiteForm → List LineInfo) (place : PdbInternalSectionOffset) (small : place.offset < 2 ^ 32) where
  -- the spans of sites have the mark of the deepest one
  sites_over : (n : ℕ) (sites : List Site) → AreShortSites rows sites → best (site_spans rows n sites) (place_number place) ≡ option_map as_mark (deepest_from rows place n sites)
  sites_over n [] short = refl
  sites_over n (site ∷ sites) short =
      best-append (map (site_row_span n site.depth) (kept_rows (rows site.call))) (site_spans rows (n + 1) sites) (place_number place)
      ∙ rw (rows_over n site.depth (rows site.call) place short.0 small, sites_over (n + 1) sites short.1, as_mark_if n site.depth (is_over rows place site))
      (better_deeper (if is_over rows place site then Some (n, site.depth) else None) (deepest_from rows place (n + 1) sites))

by_number : (o : Option (ℕ × ℕ)) → option_map (λ (m : Mark). m.value) (option_map as_mark o) ≡ option_map (λ (f : ℕ × ℕ). f.0) o
by_number None = refl
by_number (Some f) = refl

-- pieces that stand with the best of what sites cover have the deepest of these
have_deepest : (rows : InlineSiteForm → List LineInfo) (sites : List Site) (pieces : List Span) → AreShortSites rows sites → ((p : ℕ) → best pieces p ≡ best (site_spans rows 0 sites) p) → HaveDeepest rows sites pieces
have_deepest rows sites pieces short same =
    record { each = λ place small. ap (option_map (λ (m : Mark). m.value)) (same (place_number place) ∙ sites_over rows place small 0 sites short) ∙ by_number (deepest_from rows place 0 sites) }

-- the same by the spans that pieces were cut from
pub stand_for_deepest : (rows : InlineSiteForm → List LineInfo) (sites : List Site) (spans ordered pieces : List Span) → AreShortSites rows sites → spans ≡ site_spans rows 0 sites → ordered ≡ spans → ((p : ℕ) → best pieces p ≡ best ordered p) → HaveDeepest rows sites pieces
stand_for_deepest rows sites spans ordered pieces short f g same = have_deepest rows sites pieces short (λ p. same p ∙ ap (λ ys. best ys p) (g ∙ f))

-- what was read of the sites stands for these
pub stand_as_read : (rows : InlineSiteForm → List LineInfo) (sites read : List Site) (kept : List CallRow) (starts : List ℕ) (pieces : Option (List Span)) → read ≡ sites → kept ≡ rows_of_sites rows read → starts ≡ starts_of_sites rows 0 read
    → StandForDeepest rows read pieces → StandForSites rows record { sites = sites; rows = kept; starts = starts; pieces = pieces }
stand_as_read rows sites read kept starts pieces e alike cut stand =
    subst (λ s. StandForSites rows record { sites = s; rows = kept; starts = starts; pieces = pieces }) e record { pieces = stand; kept = alike; starts = cut }
