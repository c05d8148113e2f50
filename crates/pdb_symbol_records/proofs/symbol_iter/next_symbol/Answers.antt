use Rattle.std.proofs.lemmas.Result.{err_from_is_err_and}
use Rattle.pdb_symbol_records.proofs.Lists.{next_refused}
use Rattle.pdb_symbol_records.proofs.symbol_iter.next_symbol.Goals as goal

pub returns-in_err-symbol : goal.returns-in_err-symbol
returns-in_err-symbol c =
    let p = err_from_is_err_and c.from_residual.result c.from_residual.ensures.1 in
    let s = c.in_err-symbol.ensures in
    rw (p.1, p.2) (s.0, next_refused _ _ _ _ c.loop-place-test.true s.1 c.loop-place.invariant)
