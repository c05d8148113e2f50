use Rattle.std.proofs.lemmas.Result.{err_from_is_err_and}
use Rattle.pdb_loading.proofs.HeldSteps.{list_there, list_refused}
use Rattle.pdb_loading.proofs.held_database.names_and_modules.Goals as goal

-- the list's fault is handed on
pub returns-in_err-entries-clause-whole_list : goal.returns-in_err-entries-clause-whole_list
returns-in_err-entries-clause-whole_list c =
    let p = err_from_is_err_and c.from_residual.result c.from_residual.ensures.1 in
    rw (p.1, p.2) (list_refused c.args.debug_information.now c.in_err-entries.field-0.0 (rw c.modules.ensures at c.in_err-entries.ensures))

pub returns-clause-whole_list : goal.returns-clause-whole_list
returns-clause-whole_list c = list_there c.args.debug_information.now c.in_ok-entries.entries.items (rw c.modules.ensures at c.in_ok-entries.ensures)
