use Rattle.pdb_owners.specs.FileAnswers.{file_cmp}
use Rattle.pdb_owners.specs.FileLaws.{file_total, file_exact}
use Rattle.pdb_owners.specs.FunctionOrder.{function_cmp}
use Rattle.pdb_owners.specs.OrderLaws.{function_total, function_exact}
use Rattle.pdb_owners.proofs.UniqueLemmas.{table_unique}
use Rattle.pdb_owners.proofs.laws.tables_are_determined.Goals as goal

pub returns : goal.returns
returns c' = record {
  functions = table_unique function_cmp function_total function_exact;
  files = table_unique file_cmp file_total file_exact;
}
