use Rattle.std.specs.Prelude.{◌≡◌, length, option_map}
use Rattle.std.specs.BTreeMap.{get}
use Rattle.std.specs.Ordering.{nat_cmp}
use Rattle.pdb_lines.specs.Inlinee.{inlined_function}
use Rattle.pdb_module_data.specs.InlinedCalls.{inlinees_by_id}
use Rattle.pdb_module_data.proofs.InlineeSteps.{given_left}
use Rattle.pdb_module_data.proofs.inlinees.Inlinees.read.Given as goal

-- the functions that are stored, with those that are still to come, are all
abbrev pub invariant-loop-by_id : goal.invariant-loop-by_id
invariant-loop-by_id l = given_left (λ id. option_map inlined_function (get nat_cmp l.by_id id)) l.remaining ≡ inlinees_by_id l.fn.remaining

abbrev pub decreases-loop-by_id : goal.decreases-loop-by_id
decreases-loop-by_id l = length (l.remaining).items
