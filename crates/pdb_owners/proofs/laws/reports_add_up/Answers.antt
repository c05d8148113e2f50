use Rattle.std.proofs.Common.{◌-◌, arith}
use Rattle.pdb_owners.specs.Counts.{counted_at}
use Rattle.pdb_owners.specs.Answers.{is_answer}
use Rattle.pdb_owners.specs.FunctionOrder.{function_cmp}
use Rattle.pdb_owners.specs.OrderLaws.{function_total, function_exact}
use Rattle.pdb_owners.proofs.HowMany.{how_many-split}
use Rattle.pdb_owners.proofs.RangeSums.{table_fills}
use Rattle.pdb_owners.proofs.laws.reports_add_up.Goals as goal

pub returns : goal.returns
returns c' = record {
  sum = λ m db s e text order r. table_fills function_cmp function_total function_exact (counted_at m db) s (e - s) r.table r.in_order r.each;
  joined = λ m db a b c x y z ab bc p q r f.
      let all = how_many-split (λ x. is_answer function_cmp f (counted_at m db x)) a b c ab bc in
      let first = p.each f in
      let second = q.each f in
      let both = r.each f in
      omega arith;
}
