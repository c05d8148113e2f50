use Rattle.std.proofs.lemmas.Result.{err_from_is_err_and}
use Rattle.pdb_symbols_modules.specs.Streams.{streams}
use Rattle.pdb_addr2line.proofs.IdentitySteps.{not_opened}
use Rattle.pdb_addr2line.proofs.identity.identity_of_source.Goals as goal

-- a container that can't be opened is the file's fault
pub returns-in_err-pdb-clause-refused : goal.returns-in_err-pdb-clause-refused
returns-in_err-pdb-clause-refused c =
    let p = err_from_is_err_and c.from_residual.result c.from_residual.ensures.1 in
    rw (p.1, p.2) (not_opened (λ v. v) c.args.source (streams c.args.source) c.in_err-pdb.field-0.0 c.in_err-pdb.ensures.err)
