use Rattle.std.proofs.Common.{◌≡◌, ◌++◌, drop}
use Rattle.pdb_module_data.specs.ProcedurePieces.{procedure_spans, AreShort}
use Rattle.pdb_module_data.proofs.procedure_list.procedure_spans.Given as goal

-- with what the procedures left add, the spans are what they must be;
-- and if those left are short, all are
abbrev pub invariant-loop-number : goal.invariant-loop-number
invariant-loop-number l = (l.spans.items ++ procedure_spans l.number (drop l.number l.procedures) ≡ procedure_spans 0 l.procedures) × (AreShort (drop l.number l.procedures) → AreShort l.procedures)
