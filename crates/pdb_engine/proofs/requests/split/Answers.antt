use Rattle.std.proofs.Common.{ap, ◌∙◌}
use Rattle.std.proofs.lemmas.List.{take_all}
use Rattle.pdb_engine.specs.InputLines.{kept_lines, kept_rest}
use Rattle.pdb_engine.proofs.LineLemmas.{rest_more}
use Rattle.pdb_engine.proofs.RequestSteps.{lines_more}
use Rattle.pdb_engine.proofs.requests.split.Goals as goal

pub loop-byte-preserved : goal.loop-byte-preserved
loop-byte-preserved g c = record {
  lines = lines_more _ _ _ _ _ _ c.loop-byte.byte-index c.loop-byte-test.true c.loop-byte.invariant.lines c.loop-byte.invariant.rest c.in_ok-split_byte.ensures.lines;
  rest = rest_more _ _ _ _ _ c.loop-byte.byte-index c.loop-byte-test.true c.loop-byte.invariant.rest c.in_ok-split_byte.ensures.rest;
  unanswered = c.in_ok-split_byte.ensures.unanswered c.loop-byte.invariant.unanswered;
}

pub returns-clause-lines : goal.returns-clause-lines
returns-clause-lines g c = c.loop-byte.invariant.lines ∙ ap (kept_lines g.L.LineStart.limit (g.L.LineStart.kept c.args.start.now)) (take_all _ c.args.bytes.now c.loop-byte-test.false)

pub returns-clause-rest : goal.returns-clause-rest
returns-clause-rest g c = c.loop-byte.invariant.rest ∙ ap (kept_rest g.L.LineStart.limit (g.L.LineStart.kept c.args.start.now)) (take_all _ c.args.bytes.now c.loop-byte-test.false)
