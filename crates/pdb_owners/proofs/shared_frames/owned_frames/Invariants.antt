use Rattle.std.specs.Prelude.{◌≡◌, take}
use Rattle.pdb_owners.proofs.shared_frames.owned_frames.Given as goal

-- the frames so far have names of their own
abbrev pub invariant-loop-frame : goal.invariant-loop-frame
invariant-loop-frame l = l.owned.items ≡ take l.frame-index l.frames
