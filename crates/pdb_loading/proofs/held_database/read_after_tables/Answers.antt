use Rattle.std.proofs.Common.{arith, refl}
use Rattle.pdb_symbols_modules.specs.Streams.{streams}
use Rattle.pdb_loading.proofs.HeldSteps.{list_ends, own_held}
use Rattle.pdb_loading.proofs.held_database.read_after_tables.Goals as goal

pub invariant_of-result : goal.invariant_of-result
invariant_of-result g c = list_ends c.args.debug_information tt c.in_ok-module_infos.ensures.whole_list

pub returns-clause-own : goal.returns-clause-own
returns-clause-own g c =
    let infos = rw (← c.new.ensures) at c.in_ok-module_infos.ensures.kept in
    let names = rw c.read_module_infos.ensures.same at c.in_ok-names.ensures.exact in
    own_held (streams (g.S.Source.bytes c.args.pdb.now)) c.args.debug_information tt _ (g.S.Source.failures c.args.pdb.now) (g.S.Source.failures c.args.pdb.now)
    (g.S.Source.failures c.read_module_infos.new.pdb) (g.S.Source.failures c.read_names.new.pdb) refl c.requires c.in_ok-module_infos.ensures.whole_list (omega arith)
    c.read_module_infos.ensures.counts c.read_names.ensures.counts infos names
