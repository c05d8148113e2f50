use Rattle.std.proofs.Common.{ap}
use Rattle.std.proofs.lemmas.Result.{err_from_is_err_and}
use Rattle.pdb_container.specs.declared.index.TypeIndex.{TypeIndex}
use Rattle.pdb_resolving.proofs.Lifting.{given_fails}
use Rattle.pdb_module_items.specs.Reading.{type_in}
use Rattle.pdb_module_items.proofs.sizes.read_type_in.Goals as goal

pub returns-in_err-parse-clause-value : goal.returns-in_err-parse-clause-value
unfolding type_in
returns-in_err-parse-clause-value c =
    let p = err_from_is_err_and c.from_residual-in_err-parse.result
    c.from_residual-in_err-parse.ensures.1 in
    let failed = rw (ap (λ (i : TypeIndex). i.0) c.in_ok-item.ensures.index) at
    c.in_err-parse.ensures in
    rw (c.in_ok-item.ensures.item, p.1, p.2) (given_fails _ _ failed)
