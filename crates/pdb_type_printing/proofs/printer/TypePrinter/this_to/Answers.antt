use Rattle.std.proofs.Common.{◌≡◌, false, eqb, eq-eqb, ne_eqb}
use Rattle.pdb_resolving.proofs.Ending.{ends_on}
use Rattle.pdb_type_printing.proofs.Steps.{failed_answer}
use Rattle.pdb_type_printing.proofs.printer.TypePrinter.this_to.Goals as goal

pub returns-then-target-class-clause-value : goal.returns-then-target-class-clause-value
returns-then-target-class-clause-value g c =
    rw (eq-eqb c.args.target.0 c.args.class.0 c.if-target-class.true)

pub returns-in_err-found-clause-value : goal.returns-in_err-found-clause-value
returns-in_err-found-clause-value g c =
    let other : eqb c.args.target.0 c.args.class.0 ≡ false = ne_eqb _ _ c.if-target-class.false in
    rw other (failed_answer _ _ _ _ c.from_residual.ensures.1
    (ends_on _ _ _ c.in_err-found.ensures.value))
