use Rattle.std.specs.Prelude.{◌≡◌, take, map}
use Rattle.pdb_names.specs.Printing.{env_of}
use Rattle.pdb_frames.specs.FramesAt.{call_frame}
use Rattle.pdb_known_modules.specs.Seen.{extended_seen}
use Rattle.pdb_frames.proofs.frames.call_frames.Given as goal

-- the frames of the calls so far, by what names functions, as it was
abbrev pub invariant-loop-call : goal.invariant-loop-call
invariant-loop-call g l =
    (l.namer ≡ l.fn.namer)
    × (l.frames.items ≡ map (call_frame l.parts (env_of g.P.ModuleProvider.provided l.fn.namer l.module_index) (extended_seen l.extended).program) (take l.call-index l.calls))
