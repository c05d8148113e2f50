use Rattle.std.proofs.Common.{arith}
use Rattle.pdb_contributions.proofs.PublicSteps.{ends_past}
use Rattle.pdb_contributions.proofs.public_entries.push_section_ends.Goals as goal

pub returns-in_default : goal.returns-in_default
returns-in_default c = ends_past _ _ c.args.sections.now c.loop-index.index
    (omega (arith, c.in_default.ensures)) c.loop-index.invariant
