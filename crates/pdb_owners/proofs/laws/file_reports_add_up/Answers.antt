use Rattle.std.proofs.Common.{◌-◌, arith}
use Rattle.std.specs.Prelude.{is_some}
use Rattle.pdb_owners.specs.Answers.{is_answer}
use Rattle.pdb_owners.specs.Counts.{counted_at}
use Rattle.pdb_owners.specs.FileAnswers.{file_cmp}
use Rattle.pdb_owners.specs.FileLaws.{file_total, file_exact}
use Rattle.pdb_owners.specs.FunctionOrder.{function_cmp}
use Rattle.pdb_owners.specs.OrderLaws.{function_total, function_exact}
use Rattle.pdb_owners.proofs.HowMany.{how_many-split, how_many-not, how_many-beside}
use Rattle.pdb_owners.proofs.RangeSums.{table_fills, some_counted}
use Rattle.pdb_owners.proofs.laws.file_reports_add_up.Goals as goal

pub returns : goal.returns
returns c' = record {
  sum = λ m db s e text order r. table_fills file_cmp file_total file_exact (counted_at m db) s (e - s) r.table r.in_order r.each;
  joined = λ m db a b c x y z ab bc p q r f.
      let all = how_many-split (λ x. is_answer file_cmp f (counted_at m db x)) a b c ab bc in
      let first = p.each f in
      let second = q.each f in
      let both = r.each f in
      omega arith;
  functions = λ m db files s e x y order has p q.
      let functions = table_fills function_cmp function_total function_exact (counted_at m db) s (e - s) p.table p.in_order p.each in
      let all = table_fills file_cmp file_total file_exact (counted_at m files) s (e - s) q.table q.in_order q.each in
      let one = how_many-not (λ a. is_some (counted_at m db a)) (e - s) s in
      let other = how_many-not (λ a. is_some (counted_at m files a)) (e - s) s in
      let rest = how_many-beside (λ a. is_some (counted_at m db a)) (λ a. is_some (counted_at m files a)) (e - s) s (some_counted m db files has) in
      omega (arith, functions, all, one, other, rest);
}
