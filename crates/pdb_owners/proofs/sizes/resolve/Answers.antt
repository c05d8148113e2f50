use Rattle.std.proofs.Common.{length, ap, ◌∙◌, arith}
use Rattle.pdb_owners.proofs.ResolveLemmas.{resolving_more, answer_as}
use Rattle.pdb_owners.proofs.sizes.resolve.Goals as goal

pub loop-key-preserved : goal.loop-key-preserved
loop-key-preserved g c =
    let keyed = g.R.Runs.keyed c.args.runs.now in
    let i = c.loop-key.invariant in
    record {
      resolving = resolving_more keyed.answer_of c.args.keys.now c.next.new.self c.loop-key.key-iterator c.in-Some.key.now c.in-Some.count.now c.in_ok-answer.answer c.loop-key.counts c.add_answer.new.self
          c.in-Some.ensures.steps i.resolving (answer_as keyed (g.R.Runs.keyed c.loop-key.runs) c.in-Some.key.now c.in_ok-answer.answer i.same c.in_ok-answer.ensures.answer) c.in_ok-add_answer.ensures;
      lookups = c.in_ok-answer.ensures.lookups ∙ i.lookups;
      answered =
          let one = c.in_ok-answer.ensures.answered in
          let left = ap length c.in-Some.ensures.steps in
          let before = i.answered in
          omega (arith, one, left, before);
      same = c.answer_of.ensures.same ∙ i.same;
    }
