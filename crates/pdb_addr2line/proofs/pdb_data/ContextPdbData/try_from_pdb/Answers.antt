use Rattle.pdb_symbols_modules.specs.Streams.{streams}
use Rattle.pdb_addr2line.proofs.Refusals.{own_if_loaded}
use Rattle.pdb_addr2line.proofs.pdb_data.ContextPdbData.try_from_pdb.Goals as goal

pub returns-clause-own : goal.returns-clause-own
returns-clause-own g c =
    own_if_loaded g.S.Source.bytes g.S.Source.failures c.args.pdb c.try_from_pdb_ref.new.pdb (streams (g.S.Source.bytes c.args.pdb)) c.try_from_pdb_ref.result
    c.try_from_pdb_ref.ensures.same c.try_from_pdb_ref.ensures.own
