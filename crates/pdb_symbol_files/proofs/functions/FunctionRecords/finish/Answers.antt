use Rattle.std.proofs.Common.{List, ◌∙◌, ap, string_bytes}
use Rattle.pdb_symbol_files.specs.PieceRecords.{AreOf, SoFar}
use Rattle.pdb_symbol_files.specs.Told.{Answer}
use Rattle.pdb_symbol_files.proofs.Adding.{few_numbers, functions_end, numbers_written}
use Rattle.pdb_symbol_files.proofs.functions.FunctionRecords.finish.Goals as goal

pub returns-clause-numbers : goal.returns-clause-numbers
returns-clause-numbers c =
    λ (answers : List Answer) (are : AreOf c.args.self answers).
    numbers_written c.args.self answers are c.numbers.inside.files c.numbers.inside.origins
    (string_bytes c.args.output.now) (string_bytes c.append_records.new.output)
    (string_bytes c.append_records-2.new.output)
    (c.numbers.view_is
    ∙ ap (λ (s : SoFar). s.numbers) (c.records.view_is ∙ c.in_ok-end_function.ensures))
    c.in_ok-append_records.ensures.text c.in_ok-append_records-2.ensures.text

pub returns-clause-functions : goal.returns-clause-functions
returns-clause-functions c =
    λ (answers : List Answer) (are : AreOf c.args.self answers).
    ap (λ (s : SoFar). s.text) (c.records.view_is ∙ c.in_ok-end_function.ensures)
    ∙ functions_end c.args.self answers are

pub returns-clause-few : goal.returns-clause-few
returns-clause-few c =
    λ (answers : List Answer) (are : AreOf c.args.self answers).
    few_numbers c.args.self answers are c.numbers.inside.files c.numbers.inside.origins
    (c.numbers.view_is
    ∙ ap (λ (s : SoFar). s.numbers) (c.records.view_is ∙ c.in_ok-end_function.ensures))
    c.in_ok-append_records.ensures.few c.in_ok-append_records-2.ensures.few
