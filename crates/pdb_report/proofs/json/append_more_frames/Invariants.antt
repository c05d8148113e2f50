use Rattle.std.proofs.Common.{◌≡◌, ◌++◌, take}
use Rattle.std.specs.List.{flat_map}
use Rattle.pdb_report.specs.JsonLine.{next_frame}
use Rattle.pdb_report.proofs.json.append_more_frames.Given as goal

-- the frames so far stand after the text
abbrev pub invariant-loop-frame : goal.invariant-loop-frame
invariant-loop-frame l =
    l.output.items ≡ l.fn.output.items ++ flat_map next_frame (take l.frame-index l.frames)
