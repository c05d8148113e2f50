use Rattle.std.proofs.Common.{◌-◌, arith}
use Rattle.pdb_owners.specs.Counts.{counted_at}
use Rattle.pdb_owners.specs.FileAnswers.{file_cmp}
use Rattle.pdb_owners.specs.FileLaws.{file_total, file_exact}
use Rattle.pdb_owners.specs.FunctionOrder.{function_cmp}
use Rattle.pdb_owners.specs.OrderLaws.{function_total, function_exact}
use Rattle.pdb_owners.proofs.RangeSums.{table_fills}
use Rattle.pdb_report.specs.Answer.{database_with, files_with}
use Rattle.pdb_report.proofs.SizeSums.{by_map, each_joined, have_files, none_joined, one_map}
use Rattle.pdb_report.proofs.laws.file_reports_add_up.Goals as goal

pub returns : goal.returns
returns c = record {
  sum = λ order s start end text ordered r.
      table_fills file_cmp file_total file_exact (counted_at r.map (files_with order s)) start (end - start)
      r.report.table r.report.in_order r.report.each;
  each = λ order s a b c x y z ab bc p q r f.
      each_joined file_cmp order s (files_with order s) p.map q.map r.map p.map_is q.map_is r.map_is a b c ab bc
      p.report.table q.report.table r.report.table f (p.report.each f) (q.report.each f)
      (r.report.each f);
  none = λ order s a b c x y z ab bc p q r.
      none_joined file_cmp order s (files_with order s) p.map q.map r.map p.map_is q.map_is r.map_is a b c ab bc;
  functions = λ order s start end x y ordered p q.
      c.file_reports_add_up.ensures.functions p.map (database_with order s) (files_with order s) start end x y ordered
      (have_files order s) p.report
      (by_map q.map p.map (files_with order s) start end y (one_map order s q.map p.map q.map_is p.map_is) q.report);
  left_out = λ order s start end x y ordered p q.
      let more = c.file_reports_add_up.ensures.functions p.map (database_with order s) (files_with order s) start end x y
      ordered (have_files order s) p.report
      (by_map q.map p.map (files_with order s) start end y (one_map order s q.map p.map q.map_is p.map_is) q.report) in
      let functions = table_fills function_cmp function_total function_exact
      (counted_at p.map (database_with order s)) start (end - start) p.report.table p.report.in_order
      p.report.each in
      let all = table_fills file_cmp file_total file_exact (counted_at q.map (files_with order s)) start
      (end - start) q.report.table q.report.in_order q.report.each in
      omega (arith, more, functions, all);
}
