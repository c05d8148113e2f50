use Rattle.std.proofs.Common.{◌-◌}
use Rattle.pdb_owners.specs.Counts.{counted_at}
use Rattle.pdb_owners.specs.FunctionOrder.{function_cmp}
use Rattle.pdb_owners.specs.OrderLaws.{function_total, function_exact}
use Rattle.pdb_owners.proofs.RangeSums.{table_fills}
use Rattle.pdb_report.specs.Answer.{database_with}
use Rattle.pdb_report.proofs.SizeSums.{each_joined, none_joined}
use Rattle.pdb_report.proofs.laws.size_reports_add_up.Goals as goal

pub returns : goal.returns
returns c = record {
  sum = λ order s start end text ordered r.
      table_fills function_cmp function_total function_exact (counted_at r.map (database_with order s)) start
      (end - start) r.report.table r.report.in_order r.report.each;
  each = λ order s a b c x y z ab bc p q r f.
      each_joined function_cmp order s (database_with order s) p.map q.map r.map p.map_is q.map_is r.map_is a b c ab bc
      p.report.table q.report.table r.report.table f (p.report.each f) (q.report.each f)
      (r.report.each f);
  none = λ order s a b c x y z ab bc p q r.
      none_joined function_cmp order s (database_with order s) p.map q.map r.map p.map_is q.map_is r.map_is a b c ab bc;
}
