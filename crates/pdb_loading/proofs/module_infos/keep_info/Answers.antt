use Rattle.std.proofs.Common.{sym}
use Rattle.std.proofs.lemmas.Map.Lookups.{exact_unsigned}
use Rattle.pdb_symbols_modules.specs.Streams.{streams}
use Rattle.pdb_loading.proofs.SharedStreams.{shared_again, shared_then}
use Rattle.pdb_loading.proofs.module_infos.keep_info.Goals as goal

pub returns-in-Some-clause-shared : goal.returns-in-Some-clause-shared
returns-in-Some-clause-shared g c =
    shared_again (streams (g.S.Source.bytes c.args.pdb.now)) c.args.entry.now (g.S.Source.failures c.args.pdb.now) c.stream-number.result.0 c.args.read.now c.in-Some.kept.now c.share_info.result
    c.stream-number.ensures (sym c.in-Some.ensures.value) c.share_info.ensures

pub returns-clause-shared : goal.returns-clause-shared
returns-clause-shared g c = λ before low are.
    shared_then (streams (g.S.Source.bytes c.args.pdb.now)) c.args.entry.now before (g.S.Source.failures c.args.pdb.now) (g.S.Source.failures c.read_info.new.pdb) c.args.read.now c.insert.new.self c.in_ok-first.first c.in_ok-info.info
    c.stream-number.result.0 exact_unsigned c.stream-number.ensures c.read_info.ensures.counts c.in_ok-first.ensures.exact c.in_ok-info.ensures c.in_ok-insert.ensures.updates low are
