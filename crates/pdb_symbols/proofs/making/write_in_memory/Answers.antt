use Rattle.std.proofs.Common.{false}
use Rattle.pdb_symbols.proofs.FileRoads.{says}
use Rattle.pdb_symbols.proofs.MakingSteps.{ends_as}
use Rattle.pdb_symbols.proofs.making.write_in_memory.Goals as goal

pub returns-in-Ok-clause-writes : goal.returns-in-Ok-clause-writes
returns-in-Ok-clause-writes g c =
    ends_as false c.args.options.now.demangle _ _ _ _ _ _ _ _ c.write_made.result
    c.in-Ok.ensures.ok c.write_made.ensures.ok c.write_made.ensures.part
    c.write_made.ensures.fails

pub returns-in-Ok-clause-says : goal.returns-in-Ok-clause-says
returns-in-Ok-clause-says g c =
    says false c.args.options.now.demangle _ _ _ _ _ c.write_made.result
    (returns-in-Ok-clause-writes g c)
