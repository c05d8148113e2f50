use Rattle.std.proofs.lemmas.Result.{err_from_is_err_and}
use Rattle.pdb_symbols_modules.specs.Streams.{streams}
use Rattle.pdb_addr2line.proofs.IdentitySteps.{not_aged, not_informed}
use Rattle.pdb_addr2line.proofs.identity.identity_of.Goals as goal

-- a step that fails is the file's fault
pub returns-in_err-information-clause-refused : goal.returns-in_err-information-clause-refused
returns-in_err-information-clause-refused c =
    let p = err_from_is_err_and c.from_residual.result c.from_residual.ensures.1 in
    rw (p.1, p.2) (not_informed (streams c.args.pdb.now) c.in_err-information.field-0.0 c.requires c.in_err-information.ensures.exact)

pub returns-in_err-debug_information-clause-refused : goal.returns-in_err-debug_information-clause-refused
returns-in_err-debug_information-clause-refused c =
    let p = err_from_is_err_and c.from_residual-in_err-debug_information.result c.from_residual-in_err-debug_information.ensures.1 in
    let failed = rw c.pdb_information.ensures.same at c.in_err-debug_information.ensures.exact in
    rw (p.1, p.2) (not_aged (streams c.args.pdb.now) c.in_err-debug_information.field-0.0 c.in_ok-information.information c.requires c.in_ok-information.ensures.exact failed)
