use Rattle.std.proofs.Common.{rules, ◌≡◌}
use Rattle.pdb_addr2line.specs.ModulesAt.{modules_between}
use Rattle.pdb_addr2line.proofs.HolderSteps.{gathered}
use Rattle.pdb_addr2line.proofs.context.Context.modules_between.Goals as goal

pub returns-clause-holders : goal.returns-clause-holders
returns-clause-holders g c =
    let exact : c.in_ok-modules.modules.items ≡ modules_between c.args.self.now.parts c.args.start c.args.end = search rules in
    gathered c.args.self.now.parts c.args.start c.args.end c.in_ok-modules.modules.items exact
