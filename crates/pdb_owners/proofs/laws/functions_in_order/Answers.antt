use Rattle.std.proofs.Common.{◌≡◌, true, subst}
use Rattle.pdb_owners.specs.Answers.{is_same}
use Rattle.pdb_owners.specs.FunctionOrder.{Function, function_cmp}
use Rattle.pdb_owners.specs.OrderLaws.{function_total, function_exact}
use Rattle.pdb_owners.proofs.Exact.{same_is, same_itself}
use Rattle.pdb_owners.proofs.laws.functions_in_order.Goals as goal

pub returns-clause-total : goal.returns-clause-total
returns-clause-total c = function_total

pub returns-clause-same : goal.returns-clause-same
returns-clause-same c = λ f g. (same_is function_cmp function_total function_exact f g, λ same. subst (λ (x : Function). is_same function_cmp f x ≡ true) same (same_itself function_cmp function_total function_exact f))
