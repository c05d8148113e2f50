-- Sites and what is stored of their rows, gone over one site at a time.
use Rattle.std.proofs.Common.{◌≡◌, ℕ, ◌+◌, List, [], ◌∷◌, ◌++◌, length, map, drop, Option, None, Some, refl, sym, ap, ◌∙◌, append_assoc, arith}
use Rattle.std.specs.Prelude.{slice_get, if◌then◌else◌}
use Rattle.std.specs.List.{list_any}
use Rattle.std.proofs.lemmas.List.{drop_more, drop_all}
use Rattle.std.proofs.lemmas.Option.{slice_get_within, get_or_from_slice_get}
use Rattle.pdb_symbol_records.specs.Forms.{InlineSiteForm}
use Rattle.pdb_subsections.specs.declared.line_info.LineInfo.{LineInfo}
use Rattle.pdb_addresses.specs.declared.internal_section_offset.PdbInternalSectionOffset.{PdbInternalSectionOffset}
use Rattle.pdb_pieces.specs.declared.span.Span.{Span}
use Rattle.pdb_module_data.specs.declared.brief_sites.BriefSite.{BriefSite}
use Rattle.pdb_module_data.specs.declared.call_rows.CallRow.{CallRow}
use Rattle.pdb_module_data.specs.BriefSites.{brief_of}
use Rattle.pdb_module_data.specs.Forest.{Site}
use Rattle.pdb_module_data.specs.InlinedCalls.{is_over, deeper, deepest_from}
use Rattle.pdb_module_data.specs.InlinePieces.{kept_rows, covers_kept, site_row_span, site_spans, AreShortRows, AreShortSites}
use Rattle.pdb_module_data.proofs.BriefSteps.{many_briefs}
use Rattle.pdb_module_data.proofs.KeptRows.{any_kept}

-- the sites from one on: that one, and those after it
sites_on : (sites : List Site) (k : ℕ) (site : Site) → slice_get sites k ≡ Some site → drop k sites ≡ site ∷ drop (k + 1) sites
sites_on sites k site e = drop_more sites k site (slice_get_within sites k site e) ∙ ap (λ s. s ∷ drop (k + 1) sites) (get_or_from_slice_get sites k site site e)

-- ---- the deepest site

-- past the last site none is over a place
pub none_past : (lines : InlineSiteForm → List LineInfo) (place : PdbInternalSectionOffset) (briefs : List BriefSite) (sites : List Site) → briefs ≡ map brief_of sites → None ≡ deepest_from lines place (length briefs) (drop (length briefs) sites)
none_past lines place briefs sites is =
    let many = many_briefs briefs sites is in
    rw (drop_all (length briefs) sites (omega arith)) refl

-- the deepest of the sites from one on, by that of those after it and what is stored of its rows
pub deepest_here : (lines : InlineSiteForm → List LineInfo) (place : PdbInternalSectionOffset) (sites : List Site) (k depth : ℕ) (site : Site) (kept : List CallRow) (found : Option (ℕ × ℕ)) → slice_get sites k ≡ Some site → depth ≡ site.depth → kept ≡ kept_rows (lines site.call)
    → found ≡ deepest_from lines place (k + 1) (drop (k + 1) sites)
    → deeper (if list_any (covers_kept place) kept then Some (k, depth) else None) found ≡ deepest_from lines place k (drop k sites)
deepest_here lines place sites k depth site kept found e d r f =
    let over : list_any (covers_kept place) kept ≡ is_over lines place site = ap (list_any (covers_kept place)) r ∙ any_kept (lines site.call) place in
    rw (sites_on sites k site e, over, d, f) refl

-- ---- what sites cover

-- what a site covers comes before what those after it do
pub spans_more : (lines : InlineSiteForm → List LineInfo) (sites : List Site) (k depth : ℕ) (site : Site) (kept : List CallRow) (old new all : List Span) → slice_get sites k ≡ Some site → depth ≡ site.depth → kept ≡ kept_rows (lines site.call)
    → new ≡ old ++ map (site_row_span k depth) kept → old ++ site_spans lines k (drop k sites) ≡ all → new ++ site_spans lines (k + 1) (drop (k + 1) sites) ≡ all
spans_more lines sites k depth site kept old new all e d r n h =
    let rest = site_spans lines (k + 1) (drop (k + 1) sites) in
    let own : new ≡ old ++ map (site_row_span k site.depth) (kept_rows (lines site.call)) = n ∙ ap (λ x. old ++ map (site_row_span k x) kept) d ∙ ap (λ x. old ++ map (site_row_span k site.depth) x) r in
    ap (λ x. x ++ rest) own ∙ append_assoc old (map (site_row_span k site.depth) (kept_rows (lines site.call))) rest ∙ sym (ap (λ x. old ++ site_spans lines k x) (sites_on sites k site e)) ∙ h

-- with a site's rows those of the sites from it on are short
pub short_more : (lines : InlineSiteForm → List LineInfo) (sites : List Site) (k : ℕ) (site : Site) (kept : List CallRow) → slice_get sites k ≡ Some site → kept ≡ kept_rows (lines site.call) → AreShortRows kept
    → AreShortSites lines (drop (k + 1) sites) → AreShortSites lines (drop k sites)
short_more lines sites k site kept e r short h = rw (sites_on sites k site e) (rw (← r) short, h)
