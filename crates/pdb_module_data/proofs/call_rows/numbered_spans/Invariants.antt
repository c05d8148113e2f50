use Rattle.std.proofs.Common.{◌≡◌, ◌++◌, drop}
use Rattle.pdb_module_data.specs.InlinePieces.{row_spans, AreShortRows}
use Rattle.pdb_module_data.proofs.call_rows.numbered_spans.Given as goal

-- with what the rows left add, the spans are what they must be; if those left are short, all are
abbrev pub invariant-loop-number : goal.invariant-loop-number
invariant-loop-number l =
    (l.spans.items ++ row_spans l.number (drop l.number l.rows) ≡ row_spans 0 l.rows) × (AreShortRows (drop l.number l.rows) → AreShortRows l.rows)
