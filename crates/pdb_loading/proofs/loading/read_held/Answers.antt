use Rattle.std.proofs.lemmas.Result.{err_from_is_err_and}
use Rattle.pdb_loading.proofs.LoadingSteps.{ordered_list_fails, is_held}
use Rattle.pdb_loading.proofs.loading.read_held.Goals as goal

-- a step that fails is the file's fault, whatever the order of the contributions
pub returns-in_err-held-clause-err : goal.returns-in_err-held-clause-err
returns-in_err-held-clause-err c = λ order.
    let p = err_from_is_err_and c.from_residual-in_err-held.result c.from_residual-in_err-held.ensures.1 in
    rw (p.1, p.2) (ordered_list_fails order c.args.pdb c.in_err-held.field-0.0 c.in_ok-debug_information.debug_information c.in_ok-debug_information.tables c.requires c.in_ok-debug_information.ensures.read c.in_err-held.ensures.loads)

pub returns-in_err-debug_information-clause-err : goal.returns-in_err-debug_information-clause-err
returns-in_err-debug_information-clause-err c = λ order.
    let p = err_from_is_err_and c.from_residual.result c.from_residual.ensures.1 in
    rw (p.1, p.2) (c.in_err-debug_information.ensures.err order)

-- what is held is the file's
pub returns-clause-held : goal.returns-clause-held
returns-clause-held c =
    let own = rw c.in_ok-debug_information.ensures.same at c.in_ok-held.ensures.own in
    is_held c.args.pdb c.in_ok-debug_information.debug_information c.in_ok-debug_information.tables c.in_ok-held.held c.requires c.in_ok-debug_information.ensures.read c.in_ok-held.ensures.loads own
