use Rattle.std.proofs.Common.{take}
use Rattle.pdb_resolving.specs.KeptTables.{AreLast}
use Rattle.pdb_resolving.proofs.module_names.numbers_by_name.Given as goal

abbrev pub invariant-loop-number : goal.invariant-loop-number
invariant-loop-number l = AreLast (take l.number l.modules) l.numbers
