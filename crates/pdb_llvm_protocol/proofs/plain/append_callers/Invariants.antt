use Rattle.std.proofs.Common.{◌≡◌, ◌++◌, take, true}
use Rattle.std.specs.List.{flat_map}
use Rattle.pdb_llvm_protocol.specs.Plain.{frame_text}
use Rattle.pdb_llvm_protocol.proofs.plain.append_callers.Given as goal

-- the frames so far stand after the text
abbrev pub invariant-loop-frame : goal.invariant-loop-frame
invariant-loop-frame l = l.output.items
    ≡ l.fn.output.items ++ flat_map (frame_text l.options true) (take l.frame-index l.frames)
