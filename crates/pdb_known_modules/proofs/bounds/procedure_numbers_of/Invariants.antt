use Rattle.std.proofs.Common.{◌≡◌, ◌++◌, drop}
use Rattle.std.specs.List.{flat_map}
use Rattle.pdb_known_modules.specs.Bounds.{procedure_numbers}
use Rattle.pdb_known_modules.proofs.bounds.procedure_numbers_of.Given as goal

-- the numbers so far, before those of the procedures that are left
abbrev pub invariant-loop-procedure : goal.invariant-loop-procedure
invariant-loop-procedure l = l.numbers.items ++ flat_map procedure_numbers (drop l.procedure-index l.procedures) ≡ flat_map procedure_numbers l.procedures
