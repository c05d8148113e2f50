-- What is reported in a line of its own.
use Rattle.std.proofs.Common.{sym, subst}
use Rattle.pdb_arguments.specs.Telling.{Tells, errors_text}
use Rattle.pdb_arguments.proofs.telling.tell_words.Goals as goal

pub returns-in-NotAnAddress-clause-errors : goal.returns-in-NotAnAddress-clause-errors
returns-in-NotAnAddress-clause-errors g c =
    subst (λ f. Tells g.E.TextOutput.contents g.E.TextOutput.has_failed c.args.errors.now
    c.tell-in-NotAnAddress.new.output (errors_text f))
    (sym c.in-NotAnAddress.is) c.tell-in-NotAnAddress.ensures

pub returns-in-OutOfMemory-clause-errors : goal.returns-in-OutOfMemory-clause-errors
returns-in-OutOfMemory-clause-errors g c =
    subst (λ f. Tells g.E.TextOutput.contents g.E.TextOutput.has_failed c.args.errors.now
    c.tell-in-OutOfMemory.new.output (errors_text f))
    (sym c.in-OutOfMemory.is) c.tell-in-OutOfMemory.ensures
