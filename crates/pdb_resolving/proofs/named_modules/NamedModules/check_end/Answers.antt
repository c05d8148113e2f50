use Rattle.pdb_resolving.proofs.named_modules.NamedModules.check_end.Goals as goal

pub returns-in-Some : goal.returns-in-Some
returns-in-Some c = λ names modules named.
    named.unended c.in-Some.first c.args.place.0 c.in-Some.is c.if-first-place.true
