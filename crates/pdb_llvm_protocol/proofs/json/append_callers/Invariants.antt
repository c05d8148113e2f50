use Rattle.std.proofs.Common.{◌≡◌, ◌++◌, take}
use Rattle.std.specs.List.{flat_map}
use Rattle.pdb_llvm_protocol.specs.Json.{next_frame}
use Rattle.pdb_llvm_protocol.proofs.json.append_callers.Given as goal

-- the frames so far stand after the text
abbrev pub invariant-loop-frame : goal.invariant-loop-frame
invariant-loop-frame l = l.output.items
    ≡ l.fn.output.items ++ flat_map (next_frame l.pretty l.depth) (take l.frame-index l.frames)
