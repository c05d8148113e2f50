use Rattle.pdb_image.specs.Rules.{done}
use Rattle.pdb_image.proofs.Steps.{rules_given}
use Rattle.pdb_image.proofs.rules.Rules.above.Goals as goal

pub returns : goal.returns
returns c =
    let steps = done c.args.offset c.args.codes.now in
    let same = c.steps_at-steps.ensures.steps in
    rules_given steps c.steps_at-steps.result c.frame-frame.result c.cfa_rule.result
    c.return_rule.result c.saved_rules.result same (c.frame-frame.ensures.frame steps same)
    c.cfa_rule.ensures c.return_rule.ensures c.saved_rules.ensures
