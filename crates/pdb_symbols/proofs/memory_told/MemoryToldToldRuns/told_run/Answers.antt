use Rattle.pdb_symbols_modules.specs.Streams.{streams}
use Rattle.pdb_symbols.proofs.ToldSteps.{breaks_begin, context_bound, context_told, none_told}
use Rattle.pdb_symbols.proofs.ToldSteps.{run_ends, run_told}
use Rattle.pdb_owners.specs.Databases.{on, place_of}
use Rattle.pdb_symbols.proofs.memory_told.MemoryToldToldRuns.told_run.Goals as goal

pub returns-in-None-clause-told : goal.returns-in-None-clause-told
returns-in-None-clause-told c =
    let t = c.args.self.now in
    λ known. none_told t.inlines 23 t.symbolizer.now.order (streams t.symbolizer.now.bytes)
    c.address_map-map.result.now c.args.address c.place_run-place.result.1
    c.place_run-place.result.0 c.address_map-map.ensures.map c.place_run-place.ensures.place
    c.in-None.is c.place_run-place.ensures.along

pub returns-in-None-clause-ends : goal.returns-in-None-clause-ends
returns-in-None-clause-ends c =
    let t = c.args.self.now in
    λ known lt. breaks_begin 23 t.symbolizer.now.order (streams t.symbolizer.now.bytes)
    c.address_map-map.result.now _ c.address_map-map.ensures.map (c.place_run-place.ensures.ends lt)

pub returns-in-Ok-clause-told : goal.returns-in-Ok-clause-told
returns-in-Ok-clause-told c =
    let t = c.args.self.now in
    let s = streams t.symbolizer.now.bytes in
    λ known. run_told t.inlines 23 t.symbolizer.now.order s c.address_map-map.result.now
    c.args.address c.place_run-place.result.1 c.in-Ok.run'.count c.place_run-place.result.0
    c.in-Some.place c.in-Ok.run'.told c.address_map-map.ensures.map c.place_run-place.ensures.place
    c.in-Some.is c.place_run-place.ensures.along c.in-Ok.ensures.within
    (λ k lt. context_told t.inlines 23 t.symbolizer.now.order s t.context
    (on (place_of c.in-Some.place) k) c.in-Ok.run'.told t.answers (c.in-Ok.ensures.told k lt))

pub returns-in-Ok-clause-ends : goal.returns-in-Ok-clause-ends
returns-in-Ok-clause-ends c =
    let t = c.args.self.now in
    let s = streams t.symbolizer.now.bytes in
    λ known. run_ends 23 t.symbolizer.now.order s c.address_map-map.result.now c.args.address
    c.args.end c.place_run-place.result.1 c.in-Ok.run'.count c.place_run-place.result.0
    c.in-Some.place c.address_map-map.ensures.map c.place_run-place.ensures.place c.in-Some.is
    c.place_run-place.ensures.along c.place_run-place.ensures.ends c.in-Ok.ensures.within
    (λ less. context_bound 23 t.symbolizer.now.order s t.context
    (on (place_of c.in-Some.place) c.in-Ok.run'.count) t.answers (c.in-Ok.ensures.ends less))
