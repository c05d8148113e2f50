use Rattle.std.proofs.Common.{◌≡◌, ◌++◌, drop, string_bytes}
use Rattle.std.specs.List.{flat_map}
use Rattle.pdb_symbols.specs.SymbolFile.{padded}
use Rattle.pdb_symbols.proofs.identity.append_bytes.Given as goal

abbrev pub invariant-loop-byte : goal.invariant-loop-byte
invariant-loop-byte l =
    string_bytes l.output ++ flat_map (λ byte. padded 2 byte) (drop l.byte-index l.bytes)
    ≡ string_bytes (l.initial).output ++ flat_map (λ byte. padded 2 byte) l.bytes
