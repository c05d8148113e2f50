use Rattle.std.proofs.Common.{◌++◌, codes, Ok, ap, ◌∙◌}
use Rattle.pdb_report.specs.AddressText.{answer_text, eight_digits}
use Rattle.pdb_report.proofs.TextSteps.{address_more}
use Rattle.pdb_report.proofs.texts.append_address.Goals as goal

pub returns : goal.returns
returns c =
    let more = answer_text (Ok c.args.answer.now) in
    c.in_ok-append_answer_lines.ensures
    ∙ ap (λ bs. bs ++ more) c.in_ok-append_address_line.ensures
    ∙ address_more (c.args.output.now.items)
    (codes "0x" ++ eight_digits c.args.address) more
