use Rattle.std.proofs.Common.{ap, ◌∙◌, ◌++◌, ℕ, List}
use Rattle.std.specs.String.{string_bytes}
use Rattle.pdb_symbol_files.specs.RecordTexts.{numbered_text}
use Rattle.pdb_symbol_files.proofs.NumberSteps.{record_more}
use Rattle.pdb_symbol_files.proofs.numbering.Numbering.append_records.Goals as goal

pub loop-number-preserved : goal.loop-number-preserved
loop-number-preserved c =
    record_more string_bytes c.self.inside.texts.keys c.args.word.now c.loop-number.number
    c.in-Some.text.now c.args.self.now (string_bytes c.loop-number.output)
    (string_bytes c.append_numbered.new.output) _ c.self.view_is c.in-Some.ensures.key
    (c.in_ok-append_numbered.ensures
    ∙ ap (λ (t : List ℕ). string_bytes c.loop-number.output
    ++ numbered_text c.args.word.now c.loop-number.number t) c.as_str.ensures.value)
    c.loop-number.invariant
