use Rattle.std.proofs.Common.{ap, ◌∙◌, ◌++◌, ◌-◌, string_bytes}
use Rattle.std.specs.List.{flat_map}
use Rattle.pdb_symbol_files.specs.Records.{Numbers}
use Rattle.pdb_symbol_files.specs.RecordTexts.{function_text, head_text, inline_text, line_text}
use Rattle.pdb_symbol_files.specs.PieceRecords.{depth_of, function_if, level_records, line_records}
use Rattle.pdb_symbol_files.specs.PieceRecords.{line_spans, numbers_after_inlines}
use Rattle.pdb_symbol_files.specs.Told.{end_of}
use Rattle.pdb_symbol_files.proofs.Adding.{function_written, group_text}
use Rattle.pdb_symbol_files.proofs.functions.append_function.Goals as goal

pub returns-clause-text : goal.returns-clause-text
returns-clause-text c =
    let pieces = c.args.pieces.now in
    let n = c.args.numbers.now in
    let first = c.in-Some-Some.first.now in
    let last = c.in-Some-Some.last.now in
    function_written (string_bytes c.args.output.now)
    (head_text first.address (end_of last - first.address) (first.told).function)
    (flat_map inline_text (level_records n 0 (depth_of pieces) pieces))
    (flat_map line_text (line_records (numbers_after_inlines n pieces).files (line_spans pieces)))
    (flat_map function_text (function_if n pieces)) (string_bytes c.append_head.new.output)
    (string_bytes c.append_inlines.new.output) (string_bytes c.append_lines.new.output)
    c.in_ok-append_head.ensures c.in_ok-append_inlines.ensures.text
    (c.in_ok-append_lines.ensures.text
    ∙ ap (λ (m : Numbers). string_bytes c.append_inlines.new.output
    ++ flat_map line_text (line_records m.files (line_spans pieces)))
    (c.numbers.view_is ∙ c.in_ok-append_inlines.ensures.numbers))
    (group_text pieces first last n c.in-Some-Some.ensures.value c.in-Some-Some.ensures'.value)
