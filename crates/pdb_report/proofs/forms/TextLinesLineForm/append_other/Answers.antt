use Rattle.std.proofs.Common.{◌≡◌, ◌++◌, ℕ, List, subst}
use Rattle.std.specs.Prelude.{OnOk}
use Rattle.pdb_report.proofs.ToldSteps.{other_line}
use Rattle.pdb_report.proofs.forms.TextLinesLineForm.append_other.Goals as goal

-- a line that isn't an address has a text of its own
pub returns : goal.returns
returns c answers none =
    subst (λ (text : List ℕ). OnOk c.append_no_address.result (c.append_no_address.new.output.items ≡ c.args.output.now.items ++ text))
    (other_line answers c.args._line.now none) c.append_no_address.ensures
