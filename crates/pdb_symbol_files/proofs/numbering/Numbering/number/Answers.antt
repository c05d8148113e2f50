use Rattle.std.proofs.Common.{ℕ, List, ap, ◌∙◌}
use Rattle.std.specs.String.{string_bytes}
use Rattle.pdb_symbol_files.specs.Records.{number_of, used}
use Rattle.pdb_symbol_files.proofs.NumberSteps.{found_number, added_number, added_used}
use Rattle.pdb_symbol_files.proofs.numbering.Numbering.number.Goals as goal

pub returns-in-Some-clause-number : goal.returns-in-Some-clause-number
returns-in-Some-clause-number c =
    found_number string_bytes c.args.text.now c.self.inside.texts.keys c.in-Some.number
    c.in-Some.ensures.index
    ∙ ap (λ (xs : List (List ℕ)). number_of xs c.args.text.now) c.self.view_is

pub returns-clause-texts : goal.returns-clause-texts
returns-clause-texts c =
    added_used string_bytes c.args.text.now c.in_ok-text.text c.self.inside.texts.keys
    c.insert_full.new.self.keys c.in_ok-text.ensures.ok c.in_ok-number.ensures.keys
    ∙ ap (λ (xs : List (List ℕ)). used xs c.args.text.now) c.self.view_is

pub returns-clause-number : goal.returns-clause-number
returns-clause-number c =
    added_number string_bytes c.args.text.now c.in_ok-text.text c.self.inside.texts.keys
    c.in_ok-number.number c.in_ok-text.ensures.ok c.in_ok-number.ensures.index
    ∙ ap (λ (xs : List (List ℕ)). number_of xs c.args.text.now) c.self.view_is
