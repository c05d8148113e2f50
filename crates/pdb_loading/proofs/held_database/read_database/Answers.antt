use Rattle.std.proofs.Common.{◌∙◌, ap, arith}
use Rattle.pdb_symbols_modules.specs.Streams.{streams}
use Rattle.pdb_loading.proofs.HeldSteps.{own_if}
use Rattle.pdb_loading.proofs.held_database.read_database.Goals as goal

pub returns-clause-own : goal.returns-clause-own
returns-clause-own g c =
    own_if c.read_after_tables.result _ _ _ _ _ (ap streams (c.read_tables.ensures.same ∙ c.debug_information.ensures.same)) (omega (arith, c.debug_information.ensures.counts, c.read_tables.ensures.counts)) c.read_after_tables.ensures.own
