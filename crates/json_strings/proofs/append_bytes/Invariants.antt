use Rattle.std.proofs.Common.{◌≡◌, ◌++◌, take}
use Rattle.std.specs.List.{flat_map}
use Rattle.json_strings.specs.Json.{escaped}
use Rattle.json_strings.proofs.append_bytes.Given as goal

-- what stands for the bytes so far stands after the text
abbrev pub invariant-loop-byte : goal.invariant-loop-byte
invariant-loop-byte l =
    l.output.items ≡ l.fn.output.items ++ flat_map escaped (take l.byte-index l.bytes)
