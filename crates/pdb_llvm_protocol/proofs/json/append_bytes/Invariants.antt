use Rattle.std.proofs.Common.{◌≡◌, ◌++◌, take}
use Rattle.std.specs.List.{flat_map}
use Rattle.pdb_llvm_protocol.specs.Json.{escaped}
use Rattle.pdb_llvm_protocol.proofs.json.append_bytes.Given as goal

-- what stands for the bytes so far stands after the text
abbrev pub invariant-loop-byte : goal.invariant-loop-byte
invariant-loop-byte l =
    l.output.items ≡ l.fn.output.items ++ flat_map escaped (take l.byte-index l.bytes)
