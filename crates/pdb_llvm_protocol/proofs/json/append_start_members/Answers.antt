use Rattle.std.proofs.Common.{◌≡◌, ◌++◌, [], codes}
use Rattle.pdb_llvm_protocol.specs.Json.{key, start_members, string_member}
use Rattle.pdb_llvm_protocol.proofs.Lists.{after}
use Rattle.pdb_llvm_protocol.proofs.json.append_start_members.Goals as goal

-- the pieces stand one after the other
pub returns : goal.returns
unfolding start_members
returns c =
    let p = c.args.pretty in
    let d = c.args.depth in
    let old = c.args.output.now.items in
    let text1 = string_member p d (codes "StartAddress") [] in
    let step1 : c.append_string_member.new.output.items ≡ old ++ text1 = c.in_ok-append_string_member.ensures in
    let more2 : c.append.new.output.items ≡ c.append_string_member.new.output.items ++ codes "," =
    c.in_ok-append.ensures in
    let text2 = text1 ++ codes "," in
    let step2 : c.append.new.output.items ≡ old ++ text2 =
    after old text1 c.append_string_member.new.output.items (codes ",") c.append.new.output.items step1 more2 in
    let more3 : c.append_string_member-2.new.output.items ≡ c.append.new.output.items ++ string_member p d (codes "StartFileName") [] =
    c.in_ok-append_string_member-2.ensures in
    let text3 = text2 ++ string_member p d (codes "StartFileName") [] in
    let step3 : c.append_string_member-2.new.output.items ≡ old ++ text3 =
    after old text2 c.append.new.output.items (string_member p d (codes "StartFileName") []) c.append_string_member-2.new.output.items step2 more3 in
    let more4 : c.append-2.new.output.items ≡ c.append_string_member-2.new.output.items ++ codes "," =
    c.in_ok-append-2.ensures in
    let text4 = text3 ++ codes "," in
    let step4 : c.append-2.new.output.items ≡ old ++ text4 =
    after old text3 c.append_string_member-2.new.output.items (codes ",") c.append-2.new.output.items step3 more4 in
    let more5 : c.append_key.new.output.items ≡ c.append-2.new.output.items ++ key p d (codes "StartLine") =
    c.in_ok-append_key.ensures in
    let text5 = text4 ++ key p d (codes "StartLine") in
    let step5 : c.append_key.new.output.items ≡ old ++ text5 =
    after old text4 c.append-2.new.output.items (key p d (codes "StartLine")) c.append_key.new.output.items step4 more5 in
    let more6 : c.append-3.new.output.items ≡ c.append_key.new.output.items ++ codes "0" =
    c.in_ok-append-3.ensures in
    let text6 = text5 ++ codes "0" in
    let step6 : c.append-3.new.output.items ≡ old ++ text6 =
    after old text5 c.append_key.new.output.items (codes "0") c.append-3.new.output.items step5 more6 in
    step6
