use Rattle.std.proofs.Common.{◌++◌}
use Rattle.pdb_listings.specs.Functions.{AreListed}
use Rattle.pdb_listings.proofs.functions.functions_of.Given as goal

-- the functions so far, and those that are left, are the context's
abbrev pub invariant-loop-function : goal.invariant-loop-function
invariant-loop-function g l = AreListed g.P.ModuleProvider.provided l.fn.context
    (l.functions.items ++ l.function-iterator.left.functions)
