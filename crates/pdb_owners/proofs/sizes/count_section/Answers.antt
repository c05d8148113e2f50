use Rattle.std.proofs.Common.{length, sym, ◌∙◌, arith}
use Rattle.pdb_addresses.specs.SectionRun.{bounds}
use Rattle.pdb_addresses.specs.Sections.{place}
use Rattle.pdb_owners.specs.Databases.{place_of}
use Rattle.pdb_owners.proofs.PlaceLemmas.{internal_back, internal_none, section_none, section_counted, section_within, offset_below, up_to_next-le, next_is_bound}
use Rattle.pdb_owners.proofs.sizes.count_section.Goals as goal

pub count_places-requires-clause-within : goal.count_places-requires-clause-within
count_places-requires-clause-within g c =
    let there = internal_back (place c.args.map.now.internal c.args.address.0) c.in-Some.place (sym c.in-Some.is ∙ c.section_run-place.ensures.place) in
    let low = offset_below c.args.map.now.internal c.args.address.0 (place_of c.in-Some.place) there in
    let most = up_to_next-le (bounds c.args.map.now.internal) c.args.address.0 c.args.limit in
    let count = c.section_run-place.ensures.count in
    omega (arith, low, most, count)

pub count_places-requires-clause-room : goal.count_places-requires-clause-room
count_places-requires-clause-room g c =
    let most = up_to_next-le (bounds c.args.map.now.internal) c.args.address.0 c.args.limit in
    let count = c.section_run-place.ensures.count in
    omega (arith, most, count)

pub returns-in-None-clause-within : goal.returns-in-None-clause-within
returns-in-None-clause-within g c =
    let most = up_to_next-le (bounds c.args.map.now.internal) c.args.address.0 c.args.limit in
    let count = c.section_run-place.ensures.count in
    omega (arith, most, count)

pub returns-in-None-clause-counted : goal.returns-in-None-clause-counted
returns-in-None-clause-counted g c =
    let none = internal_none (place c.args.map.now.internal c.args.address.0) (sym c.in-None.is ∙ c.section_run-place.ensures.place) in
    section_none (g.R.Runs.keyed c.args.runs.now).answer_of c.args.map.now.internal (g.R.Runs.keyed c.args.runs.now).places c.args.address.0 c.section_run-place.result.1 c.args.keys.now none c.section_run-place.ensures.along

pub returns-in-None-clause-ends : goal.returns-in-None-clause-ends
returns-in-None-clause-ends g c = λ lt. next_is_bound (bounds c.args.map.now.internal) c.args.address.0 c.args.limit c.section_run-place.result.1 c.section_run-place.ensures.count lt

pub returns-in_ok-count_places-in-Some-clause-within : goal.returns-in_ok-count_places-in-Some-clause-within
returns-in_ok-count_places-in-Some-clause-within g c =
    let most = up_to_next-le (bounds c.args.map.now.internal) c.args.address.0 c.args.limit in
    let count = c.section_run-place.ensures.count in
    omega (arith, most, count)

pub returns-in_ok-count_places-in-Some-clause-counted : goal.returns-in_ok-count_places-in-Some-clause-counted
returns-in_ok-count_places-in-Some-clause-counted g c =
    let there = internal_back (place c.args.map.now.internal c.args.address.0) c.in-Some.place (sym c.in-Some.is ∙ c.section_run-place.ensures.place) in
    section_counted (g.R.Runs.keyed c.args.runs.now).answer_of c.args.map.now.internal (g.R.Runs.keyed c.args.runs.now).places (place_of c.in-Some.place) c.args.address.0 c.section_run-place.result.1
    c.args.keys.now c.count_places.new.keys there c.section_run-place.ensures.along c.in_ok-count_places-in-Some.ensures.counted

pub returns-in_ok-count_places-in-Some-clause-lookups : goal.returns-in_ok-count_places-in-Some-clause-lookups
returns-in_ok-count_places-in-Some-clause-lookups g c =
    let there = internal_back (place c.args.map.now.internal c.args.address.0) c.in-Some.place (sym c.in-Some.is ∙ c.section_run-place.ensures.place) in
    section_within c.args.map.now.internal (g.R.Runs.keyed c.args.runs.now).places (place_of c.in-Some.place) c.args.address.0 c.section_run-place.result.1
    (g.R.Runs.lookups c.args.runs.now) (g.R.Runs.lookups c.count_places.new.runs) there c.section_run-place.ensures.along c.in_ok-count_places-in-Some.ensures.lookups

pub returns-in_ok-count_places-in-Some-clause-keys : goal.returns-in_ok-count_places-in-Some-clause-keys
returns-in_ok-count_places-in-Some-clause-keys g c =
    let there = internal_back (place c.args.map.now.internal c.args.address.0) c.in-Some.place (sym c.in-Some.is ∙ c.section_run-place.ensures.place) in
    section_within c.args.map.now.internal (g.R.Runs.keyed c.args.runs.now).places (place_of c.in-Some.place) c.args.address.0 c.section_run-place.result.1
    (length c.args.keys.now) (length c.count_places.new.keys) there c.section_run-place.ensures.along c.in_ok-count_places-in-Some.ensures.keys

pub returns-in_ok-count_places-in-Some-clause-ends : goal.returns-in_ok-count_places-in-Some-clause-ends
returns-in_ok-count_places-in-Some-clause-ends g c = λ lt. next_is_bound (bounds c.args.map.now.internal) c.args.address.0 c.args.limit c.section_run-place.result.1 c.section_run-place.ensures.count lt
