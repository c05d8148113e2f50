use Rattle.std.proofs.Common.{refl}
use Rattle.pdb_symbols_modules.specs.Streams.{streams}
use Rattle.pdb_loading.proofs.HeldSteps.{list_ends, own_listed}
use Rattle.pdb_loading.proofs.held_database.hold_after_tables.Goals as goal

pub invariant_of-result : goal.invariant_of-result
invariant_of-result c = list_ends c.args.debug_information tt c.in_ok-names.ensures.whole_list

pub returns-clause-own : goal.returns-clause-own
returns-clause-own c =
    own_listed (streams c.args.pdb) c.args.debug_information _ refl c.requires c.in_ok-names.ensures.whole_list c.in_ok-names.ensures.modules c.in_ok-names.ensures.names
