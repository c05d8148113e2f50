use Rattle.std.proofs.Common.{◌≡◌, ◌++◌, take}
use Rattle.std.specs.List.{flat_map}
use Rattle.pdb_report.specs.AddressText.{frame_text}
use Rattle.pdb_report.proofs.texts.append_frames.Given as goal

-- the lines of the frames so far stand after the text
abbrev pub invariant-loop-frame : goal.invariant-loop-frame
invariant-loop-frame l =
    l.output.items ≡ l.fn.output.items
    ++ flat_map frame_text (take l.frame-index l.frames)
