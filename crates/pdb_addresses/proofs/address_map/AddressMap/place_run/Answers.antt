use Rattle.std.proofs.Common.{rules, ◌+◌, ◌^◌, ◌<◌, ◌∙◌, arith, ap, sym}
use Rattle.pdb_addresses.specs.PlaceRun.{begins_record}
use Rattle.pdb_addresses.specs.SectionRun.{bounds}
use Rattle.pdb_addresses.proofs.PlaceRuns.{last_alone, moved, offsets_fit, places_along, reaches}
use Rattle.pdb_addresses.proofs.PlaceRuns.{run_breaks}
use Rattle.pdb_addresses.proofs.address_map.AddressMap.place_run.Goals as goal

pub returns-in-Some-default-clause-within : goal.returns-in-Some-default-clause-within
returns-in-Some-default-clause-within c =
    let low : c.in-Some-default.internal < 2 ^ 32 = search rules in
    let far = reaches (bounds c.args.self.now.internal) c.in-Some-default.internal
    c.record_run.result.1 c.max-below_last.result c.min.result c.section_run.result.1 low
    c.max-below_last.ensures c.min.ensures c.section_run.ensures.count in
    let few = far.in_record in omega (arith, few, c.record_run.ensures.within)

pub returns-in-Some-default-clause-fits : goal.returns-in-Some-default-clause-fits
returns-in-Some-default-clause-fits c =
    let low : c.in-Some-default.internal < 2 ^ 32 = search rules in
    let far = reaches (bounds c.args.self.now.internal) c.in-Some-default.internal
    c.record_run.result.1 c.max-below_last.result c.min.result c.section_run.result.1 low
    c.max-below_last.ensures c.min.ensures c.section_run.ensures.count in
    offsets_fit c.args.self.now c.in-Some-default.internal c.record_run.result.1
    c.section_run.result.1 c.section_run.result.0 far c.section_run.ensures.place

pub returns-in-Some-default-clause-along : goal.returns-in-Some-default-clause-along
returns-in-Some-default-clause-along c = λ k lt.
    let low : c.in-Some-default.internal < 2 ^ 32 = search rules in
    let far = reaches (bounds c.args.self.now.internal) c.in-Some-default.internal
    c.record_run.result.1 c.max-below_last.result c.min.result c.section_run.result.1 low
    c.max-below_last.ensures c.min.ensures c.section_run.ensures.count in
    let on = moved c.args.self.now _ c.args.address.0 c.record_run.result.1 c.record_run.result.0
    c.in-Some-default.internal c.to_internal.ensures c.in-Some-default.is-0
    c.record_run.ensures.along in
    places_along c.args.self.now c.args.address.0 c.in-Some-default.internal
    c.record_run.result.1 c.section_run.result.1 k on far c.section_run.ensures.along lt

pub returns-in-Some-default-clause-alone : goal.returns-in-Some-default-clause-alone
returns-in-Some-default-clause-alone c = λ several k lt.
    let low : c.in-Some-default.internal < 2 ^ 32 = search rules in
    let far = reaches (bounds c.args.self.now.internal) c.in-Some-default.internal
    c.record_run.result.1 c.max-below_last.result c.min.result c.section_run.result.1 low
    c.max-below_last.ensures c.min.ensures c.section_run.ensures.count in
    let on = moved c.args.self.now _ c.args.address.0 c.record_run.result.1 c.record_run.result.0
    c.in-Some-default.internal c.to_internal.ensures c.in-Some-default.is-0
    c.record_run.ensures.along in
    last_alone c.args.self.now c.args.address.0 c.in-Some-default.internal c.record_run.result.1
    c.section_run.result.1 k on far several lt

pub returns-in-Some-default-clause-ends : goal.returns-in-Some-default-clause-ends
returns-in-Some-default-clause-ends c = λ lt.
    let low : c.in-Some-default.internal < 2 ^ 32 = search rules in
    let on = moved c.args.self.now _ c.args.address.0 c.record_run.result.1 c.record_run.result.0
    c.in-Some-default.internal c.to_internal.ensures c.in-Some-default.is-0
    c.record_run.ensures.along in
    run_breaks c.args.self.now c.args.address.0 c.in-Some-default.internal c.record_run.result.1
    c.max-below_last.result c.min.result c.section_run.result.1 c.args.end.0 on
    (λ less. ap (λ o. begins_record o (c.args.address.0 + c.record_run.result.1))
    (sym c.to_internal.ensures) ∙ c.record_run.ensures.ends less) low c.max-below_last.ensures
    c.min.ensures c.section_run.ensures.count c.section_run.ensures.some lt
