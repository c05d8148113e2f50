use Rattle.std.proofs.Common.{◌≡◌, ◌++◌, map, drop}
use Rattle.pdb_module_data.specs.InlinePieces.{site_row_span, AreShortRows}
use Rattle.pdb_module_data.proofs.call_rows.push_spans.Given as goal

-- with what the rows left add, the spans are what they must be; if those left are short, all are
abbrev pub invariant-loop-row : goal.invariant-loop-row
invariant-loop-row l =
    (l.spans.items ++ map (site_row_span l.number l.depth) (drop l.row-index l.rows) ≡ l.fn.spans.items ++ map (site_row_span l.number l.depth) l.rows) × (AreShortRows (drop l.row-index l.rows) → AreShortRows l.rows)
