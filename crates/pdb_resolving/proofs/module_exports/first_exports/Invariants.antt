-- Under each index stands what the first export of it gives among those that were gone over.
use Rattle.std.proofs.Common.{map}
use Rattle.pdb_resolving.specs.KeptTables.{AreFirst, entry_of}
use Rattle.pdb_resolving.proofs.module_exports.first_exports.Given as goal

abbrev pub invariant-loop-export : goal.invariant-loop-export
invariant-loop-export l = AreFirst (map entry_of l.yielded) l.firsts
