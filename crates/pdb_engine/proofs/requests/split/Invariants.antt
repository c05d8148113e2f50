use Rattle.std.proofs.Common.{◌≡◌, take}
use Rattle.pdb_engine.specs.InputLines.{kept_lines, kept_rest}
use Rattle.pdb_engine.specs.Requests.{lines_of, AreUnanswered}
use Rattle.pdb_engine.proofs.requests.split.Given as goal

-- the requests are the lines that the bytes so far end
abbrev pub invariant-loop-byte : goal.invariant-loop-byte
invariant-loop-byte g l = record {
  lines : lines_of g.L.LineStart.kept l.requests.items ≡ kept_lines g.L.LineStart.limit (g.L.LineStart.kept l.fn.start) (take l.byte-index l.bytes);
  rest : g.L.LineStart.kept l.start ≡ kept_rest g.L.LineStart.limit (g.L.LineStart.kept l.fn.start) (take l.byte-index l.bytes);
  unanswered : AreUnanswered l.requests.items;
}
