use Rattle.pdb_module_data.proofs.SubsectionRows.{same_rows}
use Rattle.pdb_module_data.proofs.laws.rows_of_a_subsection.Goals as goal

pub returns : goal.returns
returns c = same_rows
