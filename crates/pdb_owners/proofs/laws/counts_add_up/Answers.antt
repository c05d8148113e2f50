use Rattle.std.proofs.Common.{not}
use Rattle.std.specs.Prelude.{is_some}
use Rattle.pdb_owners.specs.Counts.{counted_at}
use Rattle.pdb_owners.specs.Answers.{is_answer}
use Rattle.pdb_owners.specs.FunctionOrder.{function_cmp}
use Rattle.pdb_owners.proofs.HowMany.{how_many-split}
use Rattle.pdb_owners.proofs.laws.counts_add_up.Goals as goal

pub returns : goal.returns
returns c' = record {
  each = λ m db a b c f ab bc. how_many-split (λ x. is_answer function_cmp f (counted_at m db x)) a b c ab bc;
  none = λ m db a b c ab bc. how_many-split (λ x. not (is_some (counted_at m db x))) a b c ab bc;
}
