use Rattle.std.proofs.Common.{◌≡◌, ◌++◌, take}
use Rattle.std.specs.List.{flat_map}
use Rattle.pdb_listings.specs.Values.{doubled}
use Rattle.pdb_listings.proofs.csv.append_bytes.Given as goal

-- what stands for the bytes so far stands after the output
abbrev pub invariant-loop-byte : goal.invariant-loop-byte
invariant-loop-byte l =
    l.output.items ≡ l.fn.output.items ++ flat_map doubled (take l.byte-index l.text)
