use Rattle.std.proofs.Common.{◌≡◌, ◌++◌, ℕ, List, subst}
use Rattle.std.specs.Prelude.{OnOk}
use Rattle.pdb_report.proofs.ToldSteps.{found_line}
use Rattle.pdb_report.proofs.forms.TextLinesLineForm.append_found.Goals as goal

-- a line that is the address has the text of the address
pub returns : goal.returns
returns c answers line is found =
    subst (λ (text : List ℕ). OnOk c.append_found_text.result (c.append_found_text.new.output.items ≡ c.args.output.now.items ++ text))
    (found_line answers line c.args.address is) (c.append_found_text.ensures answers found)
