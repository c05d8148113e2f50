use Rattle.std.proofs.Common.{◌≡◌, ◌++◌, ◌∙◌, ap, codes}
use Rattle.std.specs.Fmt.{decimal}
use Rattle.pdb_llvm_protocol.specs.Json.{key, place_members, string_member, text_or_none}
use Rattle.pdb_llvm_protocol.proofs.Lists.{after}
use Rattle.pdb_llvm_protocol.proofs.json.append_place_members.Goals as goal

-- the pieces stand one after the other
pub returns : goal.returns
unfolding place_members
returns c =
    let p = c.args.pretty in
    let d = c.args.depth in
    let old = c.args.output.now.items in
    let text1 = key p d (codes "Column") in
    let step1 : c.append_key.new.output.items ≡ old ++ text1 = c.in_ok-append_key.ensures in
    let column = decimal c.args.frame.now.column in
    let more_c : c.append_number.new.output.items ≡ c.append_key.new.output.items ++ column =
    c.in_ok-append_number.ensures
    ∙ ap (λ l. c.append_key.new.output.items ++ decimal l) c.column_of.ensures in
    let text_c = text1 ++ column in
    let step_c : c.append_number.new.output.items ≡ old ++ text_c =
    after old text1 c.append_key.new.output.items column c.append_number.new.output.items step1 more_c in
    let more2 : c.append.new.output.items ≡ c.append_number.new.output.items ++ codes "," =
    c.in_ok-append.ensures in
    let text2 = text_c ++ codes "," in
    let step2 : c.append.new.output.items ≡ old ++ text2 =
    after old text_c c.append_number.new.output.items (codes ",") c.append.new.output.items step_c more2 in
    let more3 : c.append_key-2.new.output.items ≡ c.append.new.output.items ++ key p d (codes "Discriminator") =
    c.in_ok-append_key-2.ensures in
    let text3 = text2 ++ key p d (codes "Discriminator") in
    let step3 : c.append_key-2.new.output.items ≡ old ++ text3 =
    after old text2 c.append.new.output.items (key p d (codes "Discriminator")) c.append_key-2.new.output.items step2 more3 in
    let more4 : c.append-2.new.output.items ≡ c.append_key-2.new.output.items ++ codes "0," =
    c.in_ok-append-2.ensures in
    let text4 = text3 ++ codes "0," in
    let step4 : c.append-2.new.output.items ≡ old ++ text4 =
    after old text3 c.append_key-2.new.output.items (codes "0,") c.append-2.new.output.items step3 more4 in
    let more5 : c.append_string_member.new.output.items ≡ c.append-2.new.output.items ++ string_member p d (codes "FileName") (text_or_none c.args.frame.now.file) =
    c.in_ok-append_string_member.ensures
    ∙ ap (λ l. c.append-2.new.output.items ++ string_member p d (codes "FileName") l) c.file_text.ensures in
    let text5 = text4 ++ string_member p d (codes "FileName") (text_or_none c.args.frame.now.file) in
    let step5 : c.append_string_member.new.output.items ≡ old ++ text5 =
    after old text4 c.append-2.new.output.items (string_member p d (codes "FileName") (text_or_none c.args.frame.now.file)) c.append_string_member.new.output.items step4 more5 in
    let more6 : c.append-3.new.output.items ≡ c.append_string_member.new.output.items ++ codes "," =
    c.in_ok-append-3.ensures in
    let text6 = text5 ++ codes "," in
    let step6 : c.append-3.new.output.items ≡ old ++ text6 =
    after old text5 c.append_string_member.new.output.items (codes ",") c.append-3.new.output.items step5 more6 in
    step6
