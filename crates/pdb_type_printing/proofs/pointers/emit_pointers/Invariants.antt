use Rattle.std.proofs.Common.{◌≡◌, ◌++◌, drop, reverse, string_bytes}
use Rattle.pdb_type_printing.specs.Pointers.{pointers_text}
use Rattle.pdb_type_printing.proofs.pointers.emit_pointers.Given as goal

abbrev pub invariant-loop-k : goal.invariant-loop-k
invariant-loop-k l = string_bytes l.w ++ pointers_text l.flags.bits l.may_space l.is_behind_sigil
    (drop l.k (reverse l.pointers)) ≡ string_bytes l.fn.w
    ++ pointers_text l.flags.bits l.fn.may_space l.fn.is_behind_sigil (reverse l.pointers)
