use Rattle.std.specs.Prelude.{◌≡◌, take}
use Rattle.pdb_owners.proofs.frames.clone_frames.Given as goal

-- the frames so far were copied
abbrev pub invariant-loop-frame : goal.invariant-loop-frame
invariant-loop-frame l = l.copied.items ≡ take l.frame-index l.frames
