-- With one more export, and with none left.
use Rattle.std.proofs.Common.{arith, subst}
use Rattle.std.proofs.lemmas.Grind.{common_steps}
use Rattle.pdb_resolving.proofs.FirstExports.{all_gone_over, kept_further}
use Rattle.pdb_resolving.specs.KeptTables.{AreFirst}
use Rattle.pdb_resolving.proofs.module_exports.first_exports.Goals as goal

pub loop-export-preserved : goal.loop-export-preserved
loop-export-preserved c = record {
  each = λ local.
      kept_further c.loop-export.yielded c.in-Some.export c.loop-export.firsts c.indices-local.result.0 c.or_insert.result.now local _ c.loop-export.invariant
      (cc) (grind (arith, common_steps)) (grind (arith, common_steps));
}

pub returns : goal.returns
returns c =
    let all = all_gone_over c.args.exports.now c.into_iter-export-iterator.result c.loop-export.export-iterator c.loop-export.yielded (cc) c.loop-export.yielded_by c.in-None.ensures.steps.0 in
    subst (λ exports. AreFirst exports c.loop-export.firsts) all c.loop-export.invariant
