use Rattle.std.proofs.lemmas.Result.{err_from_is_err_and}
use Rattle.pdb_resolving.proofs.Lifting.{given_fails}
use Rattle.pdb_module_items.specs.Reading.{id_in}
use Rattle.pdb_module_items.proofs.item_reader.read_id_in.Goals as goal

pub returns-in_err-parse-clause-value : goal.returns-in_err-parse-clause-value
unfolding id_in
returns-in_err-parse-clause-value c =
    let p = err_from_is_err_and c.from_residual-in_err-parse.result
    c.from_residual-in_err-parse.ensures.1 in
    rw (c.in_ok-item.ensures.item, p.1, p.2) (given_fails _ _ c.in_err-parse.ensures)
