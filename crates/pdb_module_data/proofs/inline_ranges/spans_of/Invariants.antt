use Rattle.std.proofs.Common.{◌≡◌, ◌++◌, List, drop}
use Rattle.pdb_subsections.specs.declared.line_info.LineInfo.{LineInfo}
use Rattle.pdb_symbol_records.specs.Forms.{InlineSiteForm}
use Rattle.pdb_module_data.specs.InlinePieces.{rows_of_sites, starts_of_sites, site_spans, AreShortSites}
use Rattle.pdb_module_data.proofs.inline_ranges.spans_of.Given as goal

-- with what the sites left add, the spans are what they must be; if those left are short, all are
abbrev pub invariant-loop-number : goal.invariant-loop-number
invariant-loop-number l =
    (lines : InlineSiteForm → List LineInfo) → l.rows ≡ rows_of_sites lines l.sites → l.starts ≡ starts_of_sites lines 0 l.sites
    → (l.spans.items ++ site_spans lines l.number (drop l.number l.sites) ≡ site_spans lines 0 l.sites) × (AreShortSites lines (drop l.number l.sites) → AreShortSites lines l.sites)
