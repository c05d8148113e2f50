use Rattle.std.proofs.Common.{◌≡◌, ◌++◌, string_bytes}
use Rattle.pdb_type_printing.specs.Arguments.{copies}
use Rattle.pdb_type_printing.proofs.argument_pieces.emit_copies.Given as goal

abbrev pub invariant-loop : goal.invariant-loop
invariant-loop l = string_bytes l.w ≡ string_bytes l.fn.w ++ copies l.flags.bits l.argument l.counter
