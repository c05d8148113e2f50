use Rattle.std.proofs.Common.{◌++◌, codes}
use Rattle.pdb_report.specs.JsonLine.{address_object, address_string, unreadable_member}
use Rattle.pdb_report.proofs.TextSteps.{after}
use Rattle.pdb_report.proofs.json.append_json_unreadable.Goals as goal

-- the pieces stand one after the other
pub returns : goal.returns
unfolding address_object
returns c =
    let old = c.args.output.now.items in
    let text1 = codes "{\"address\":" in
    let text2 = text1 ++ address_string c.args.address in
    let text3 = text2 ++ codes "," in
    let text4 = text3 ++ unreadable_member in
    after old text4 c.append-3.new.output.items (codes "}\n") c.append-4.new.output.items
    (after old text3 c.append-2.new.output.items unreadable_member c.append-3.new.output.items
    (after old text2 c.append_address_string.new.output.items (codes ",") c.append-2.new.output.items
    (after old text1 c.append.new.output.items (address_string c.args.address) c.append_address_string.new.output.items
    c.in_ok-append.ensures c.in_ok-append_address_string.ensures) c.in_ok-append-2.ensures)
    c.in_ok-append-3.ensures) c.in_ok-append-4.ensures
