use Rattle.pdb_resolving.proofs.UnendedNames.{unended_stored}
use Rattle.pdb_resolving.proofs.named_modules.NamedModules.store_unended.Goals as goal

pub returns-in-UnexpectedEof : goal.returns-in-UnexpectedEof
returns-in-UnexpectedEof c = λ names modules right fails.
    let unended = rw c.in-UnexpectedEof.is at fails in
    unended_stored names modules c.args.self.now c.args.place.0 right unended
