use Rattle.std.proofs.Common.{rules, ◌≡◌, ◌+◌, ◌-◌, ◌<◌, ◌≤◌, ◌∙◌, ap, sym, subst, length, get_or}
use Rattle.std.specs.Prelude.{option_map}
use Rattle.pdb_addresses.specs.declared.sections.ImageSectionHeader.{ImageSectionHeader}
use Rattle.pdb_addresses.specs.Places.{image_place}
use Rattle.pdb_addresses.specs.Sections.{place_in}
use Rattle.pdb_addresses.proofs.OrderSteps.{ends_rise, none_holds, begins_past, holds}
use Rattle.pdb_addresses.proofs.section_list.place_among.Goals as goal

pub passed-index-requires : goal.passed-index-requires
passed-index-requires c = ends_rise c.args.sections.now c.args.ends.now c.requires

pub returns-in_default : goal.returns-in_default
returns-in_default c =
    let e = c.passed-index.ensures in
    let past : length c.args.sections.now ≤ c.passed-index.result = search rules in
    ap (option_map image_place)
    (sym (none_holds c.args.sections.now c.args.ends.now c.args.address c.passed-index.result
    e.bound past (record { is = c.requires; low = e.low; high = e.high })))

pub returns-in-None : goal.returns-in-None
returns-in-None c =
    let found = c.in-Some.ensures.lookup in
    let e = c.passed-index.ensures in
    let lt : c.passed-index.result < length c.args.sections.now = search rules in
    let is : c.in-Some.section.now ≡ get_or c.args.sections.now c.passed-index.result
    c.in-Some.section.now = search rules in
    let below : c.args.address < c.in-Some.section.now.virtual_address = search rules in
    let past = subst (λ (s : ImageSectionHeader). c.args.address < s.virtual_address) is below in
    ap (option_map image_place)
    (sym (begins_past c.args.sections.now c.args.ends.now c.args.address c.passed-index.result
    c.in-Some.section.now lt past (record { is = c.requires; low = e.low; high = e.high })))

pub returns-in-Some-checked_sub : goal.returns-in-Some-checked_sub
returns-in-Some-checked_sub c =
    let found = c.in-Some.ensures.lookup in
    let e = c.passed-index.ensures in
    let lt : c.passed-index.result < length c.args.sections.now = search rules in
    let is : c.in-Some.section.now ≡ get_or c.args.sections.now c.passed-index.result
    c.in-Some.section.now = search rules in
    let offset = c.in-Some-checked_sub.ensures in
    let above = subst (λ (s : ImageSectionHeader). s.virtual_address ≤ c.args.address)
    is offset.0 in
    let it = holds c.args.sections.now c.args.ends.now c.args.address c.passed-index.result
    c.in-Some.section.now lt above (record { is = c.requires; low = e.low; high = e.high }) in
    let same : c.in-Some-checked_sub.offset ≡ c.args.address
    - (get_or c.args.sections.now c.passed-index.result c.in-Some.section.now).virtual_address =
    offset.1 ∙ ap (λ (s : ImageSectionHeader). c.args.address - s.virtual_address) is in
    c.numbered.ensures ∙ ap (option_map image_place)
    (ap (place_in (c.passed-index.result + 1)) same ∙ sym it)
