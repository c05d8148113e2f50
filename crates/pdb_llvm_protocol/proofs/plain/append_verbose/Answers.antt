use Rattle.std.proofs.Common.{rules, ◌≡◌, ◌++◌, ap, ◌∙◌, codes}
use Rattle.std.proofs.lemmas.Result.{on_ok_weaker}
use Rattle.std.specs.Fmt.{decimal}
use Rattle.pdb_owners.specs.Texts.{text_or}
use Rattle.pdb_llvm_protocol.specs.Plain.{number_line, verbose_text}
use Rattle.pdb_llvm_protocol.proofs.Lists.{after}
use Rattle.pdb_llvm_protocol.proofs.plain.append_verbose.Goals as goal

-- the pieces stand one after the other
pub returns : goal.returns
unfolding verbose_text
returns c =
    let old = c.args.output.now.items in
    let one = c.append.new.output.items in
    let two = c.extend_from_slice.new.self.items in
    let three = c.append-2.new.output.items in
    let four = c.append_number.new.output.items in
    let name = codes "  Filename: " in
    let file = text_or c.args.frame.now.file in
    let line = decimal c.args.frame.now.line in
    let named : one ≡ old ++ name = c.in_ok-append.ensures in
    let more2 : two ≡ one ++ file = search rules in
    let filed : two ≡ old ++ (name ++ file) = after old name one file two named more2 in
    let more3 : three ≡ two ++ codes "\n  Line: " = c.in_ok-append-2.ensures in
    let begun : three ≡ old ++ (name ++ file ++ codes "\n  Line: ") =
    after old (name ++ file) two (codes "\n  Line: ") three filed more3 in
    let line_is : c.frame.inside.line ≡ c.args.frame.now.line = search rules in
    let more4 : four ≡ three ++ line =
    c.in_ok-append_number.ensures ∙ ap (λ n. three ++ decimal n) line_is in
    let numbered : four ≡ old ++ (name ++ file ++ codes "\n  Line: " ++ line) =
    after old (name ++ file ++ codes "\n  Line: ") three line four begun more4 in
    let column_is : c.frame.inside.column ≡ c.args.frame.now.column = search rules in
    on_ok_weaker c.append_number_line.result
    (λ ended. after old (name ++ file ++ codes "\n  Line: " ++ line) four
    (number_line (codes "\n  Column: ") c.args.frame.now.column) c.append_number_line.new.output.items
    numbered (ended ∙ ap (λ n. four ++ number_line (codes "\n  Column: ") n) column_is))
    c.append_number_line.ensures
