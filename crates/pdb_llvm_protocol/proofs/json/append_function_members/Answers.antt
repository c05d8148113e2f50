use Rattle.std.proofs.Common.{◌≡◌, ◌++◌, ◌∙◌, ap, codes}
use Rattle.std.specs.Fmt.{decimal}
use Rattle.pdb_llvm_protocol.specs.Json.{function_members, key, string_member, text_or_none}
use Rattle.pdb_llvm_protocol.proofs.Lists.{after}
use Rattle.pdb_llvm_protocol.proofs.json.append_function_members.Goals as goal

-- the pieces stand one after the other
pub returns : goal.returns
unfolding function_members
returns c =
    let p = c.args.pretty in
    let d = c.args.depth in
    let old = c.args.output.now.items in
    let text1 = string_member p d (codes "FunctionName") (text_or_none c.args.frame.now.function) in
    let step1 : c.append_string_member.new.output.items ≡ old ++ text1 = c.in_ok-append_string_member.ensures
    ∙ ap (λ l. old ++ string_member p d (codes "FunctionName") l) c.function_text.ensures in
    let more2 : c.append.new.output.items ≡ c.append_string_member.new.output.items ++ codes "," =
    c.in_ok-append.ensures in
    let text2 = text1 ++ codes "," in
    let step2 : c.append.new.output.items ≡ old ++ text2 =
    after old text1 c.append_string_member.new.output.items (codes ",") c.append.new.output.items step1 more2 in
    let more3 : c.append_key.new.output.items ≡ c.append.new.output.items ++ key p d (codes "Line") =
    c.in_ok-append_key.ensures in
    let text3 = text2 ++ key p d (codes "Line") in
    let step3 : c.append_key.new.output.items ≡ old ++ text3 =
    after old text2 c.append.new.output.items (key p d (codes "Line")) c.append_key.new.output.items step2 more3 in
    let more4 : c.append_number.new.output.items ≡ c.append_key.new.output.items ++ decimal c.args.frame.now.line =
    c.in_ok-append_number.ensures
    ∙ ap (λ l. c.append_key.new.output.items ++ decimal l) c.line_of.ensures in
    let text4 = text3 ++ decimal c.args.frame.now.line in
    let step4 : c.append_number.new.output.items ≡ old ++ text4 =
    after old text3 c.append_key.new.output.items (decimal c.args.frame.now.line) c.append_number.new.output.items step3 more4 in
    let more5 : c.append-2.new.output.items ≡ c.append_number.new.output.items ++ codes "," =
    c.in_ok-append-2.ensures in
    let text5 = text4 ++ codes "," in
    let step5 : c.append-2.new.output.items ≡ old ++ text5 =
    after old text4 c.append_number.new.output.items (codes ",") c.append-2.new.output.items step4 more5 in
    step5
