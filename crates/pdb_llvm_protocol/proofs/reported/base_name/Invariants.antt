use Rattle.std.proofs.Common.{◌≡◌, drop}
use Rattle.pdb_llvm_protocol.specs.Reported.{name_from}
use Rattle.pdb_llvm_protocol.proofs.reported.base_name.Given as goal

-- the rest of the path makes of the name so far what the path makes
abbrev pub invariant-loop-index : goal.invariant-loop-index
invariant-loop-index l = name_from l.name (drop l.index l.path) ≡ name_from l.path l.path
