use Rattle.std.proofs.Common.{sym, ◌∙◌}
use Rattle.pdb_image.specs.Rules.{rule}
use Rattle.pdb_image.specs.declared.rules.Register.TheVariants.{Cfa}
use Rattle.pdb_image.proofs.Offsets.{some_rule_changed}
use Rattle.pdb_image.proofs.records.has_changes.Goals as goal

pub returns-then-is_some : goal.returns-then-is_some
returns-then-is_some c = some_rule_changed (rule c.args.old.now) (rule c.args.new.now) c.args.names.now c.loop-name.name-index Cfa
    c.rule.result c.rule-in-loop-name.result c.changed.result c.loop-name-test.true c.rule.ensures c.rule-in-loop-name.ensures
    c.changed.ensures (sym c.is_some.ensures ∙ c.if-is_some.true) c.loop-name.invariant
