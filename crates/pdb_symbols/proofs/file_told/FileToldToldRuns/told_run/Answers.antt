use Rattle.pdb_symbols.proofs.ToldSteps.{breaks_begin, if_ends, if_told, known_before, none_told}
use Rattle.pdb_symbols_modules.specs.Streams.{streams}
use Rattle.pdb_symbols.proofs.file_told.FileToldToldRuns.told_run.Goals as goal

pub returns-in-None-clause-told : goal.returns-in-None-clause-told
returns-in-None-clause-told g c =
    let f = c.args.self.now.symbolizer in
    λ known. none_told c.args.self.now.inlines f.flags f.order (streams f.contents)
    c.address_map-map.result.now c.args.address c.place_run-place.result.1
    c.place_run-place.result.0 (c.address_map-map.ensures.map known) c.place_run-place.ensures.place
    c.in-None.is c.place_run-place.ensures.along

pub returns-in-None-clause-ends : goal.returns-in-None-clause-ends
returns-in-None-clause-ends g c =
    let f = c.args.self.now.symbolizer in
    λ known lt. breaks_begin f.flags f.order (streams f.contents) c.address_map-map.result.now _
    (c.address_map-map.ensures.map known) (c.place_run-place.ensures.ends lt)

pub returns-clause-told : goal.returns-clause-told
returns-clause-told g c =
    let f = c.args.self.now.symbolizer in
    λ known. if_told c.told_read.result c.args.self.now.inlines f.flags f.order
    (streams f.contents) c.address_map-map.result.now c.args.address c.place_run-place.result.1
    c.place_run-place.result.0 c.in-Some.place
    (c.address_map-map.ensures.map (known_before f c.told_read.new.symbolizer
    c.told_read.ensures.contents c.told_read.ensures.grows known))
    c.place_run-place.ensures.place c.in-Some.is c.place_run-place.ensures.along
    c.told_read.ensures.within (c.told_read.ensures.told known)

pub returns-clause-ends : goal.returns-clause-ends
returns-clause-ends g c =
    let f = c.args.self.now.symbolizer in
    λ known. if_ends c.told_read.result f.flags f.order (streams f.contents)
    c.address_map-map.result.now c.args.address c.args.end c.place_run-place.result.1
    c.place_run-place.result.0 c.in-Some.place
    (c.address_map-map.ensures.map (known_before f c.told_read.new.symbolizer
    c.told_read.ensures.contents c.told_read.ensures.grows known))
    c.place_run-place.ensures.place c.in-Some.is c.place_run-place.ensures.along
    c.place_run-place.ensures.ends c.told_read.ensures.within (c.told_read.ensures.ends known)
