use Rattle.pdb_symbols.proofs.MakingSteps.{unopened}
use Rattle.pdb_symbols.proofs.making.write_made.Goals as goal

pub returns-in_err-open-clause-part : goal.returns-in_err-open-clause-part
returns-in_err-open-clause-part g c =
    unopened c.from_residual.result c.args.options.now.demangle _ _ _ _ _ c.open.ensures.same
