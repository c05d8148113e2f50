use Rattle.std.specs.Prelude.{None}
use Rattle.pdb_symbols_modules.specs.Streams.{streams}
use Rattle.pdb_report.proofs.RangeSteps.{counted_places}
use Rattle.pdb_report.proofs.sizes.count_loaded.Goals as goal

-- the context counts as the file does
pub returns-in-Ok : goal.returns-in-Ok
returns-in-Ok g c =
    let file = c.args.symbolizer.now in
    let counted = g.A.Counted in
    counted_places counted.kind None file c.address_map.result.now
    (counted.keyed c.in-Ok.context).places c.args.start c.args.end c.in-Ok.context.lookups
    c.address_map.ensures.map
    (g.met.A.Counted.of_file file.order (streams file.bytes) c.in-Ok.context c.in-Ok.ensures.answers)
    c.in-Ok.ensures.unasked c.count_text.result c.count_text.ensures
