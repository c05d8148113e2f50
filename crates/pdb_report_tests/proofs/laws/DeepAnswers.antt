-- A file's answer is as deep as its deepest site.
use Rattle.std.proofs.Common.{◌≡◌, ℕ, Result, Ok, Err, refl}
use Rattle.std.specs.Prelude.{Option, None, Some}
use Rattle.pdb_symbols_modules.specs.Shared.{shared}
use Rattle.pdb_symbols_modules.specs.Streams.{Streams}
use Rattle.pdb_frames.specs.Depth.{AreAsDeep}
use Rattle.pdb_frames.proofs.FramesDeep.{frames_deep}
use Rattle.pdb_resolving.specs.Fault.{Fault}
use Rattle.pdb_report.specs.Answer.{answer, answer_by, answer_named, scope}
use Rattle.pdb_addr2line.specs.Loading.{LoadingFault, Loaded, loaded}

none_is_not_found : {A : Type 0} {x : A} → (let r : Result (Option A) Fault = Ok None in r) ≡ Ok (Some x) → ⊥
none_is_not_found {A} {x} h = cc

deep_by : (s : Streams) (read : Result Loaded LoadingFault) (a : ℕ) (found : _) → answer_by 23 s read a ≡ Ok (Some found) → (l : Loaded) × (read ≡ Ok l) × AreAsDeep l.parts (scope s l) a found.frames
deep_by s (Err e) a found h = absurd (none_is_not_found h)
deep_by s (Ok l) a found h = (l, refl, frames_deep l.parts (scope s l) a found h)

pub answer_deep : (s : Streams) (a : ℕ) (found : _) → answer s a ≡ Ok (Some found) → (l : Loaded) × (loaded (shared s) ≡ Ok l) × AreAsDeep l.parts (scope s l) a found.frames
unfolding answer_named
answer_deep s a found h = deep_by s (loaded (shared s)) a found h
