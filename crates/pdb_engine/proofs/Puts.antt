-- What a watched writer counts.
use Rattle.std.proofs.Common.{◌≡◌, List, ℕ, Result, Ok, Err}
use Rattle.std.specs.Prelude.{Option, Some, OnOk, OnErr, IfErr}
use Rattle.std.specs.declared.io.ErrorKind.{ErrorKind}
use Rattle.pdb_engine.specs.declared.watched.Watched.{Watched}
use Rattle.pdb_engine.specs.Puts.{Puts}
use Rattle.pdb_engine.specs.Watched.{inner_of, failures_of, last_kind_of, CountsFailure, IsQuiet, Writes, WritesFront}

-- a watched writer counts its failures
pub watched_puts : {W : Type 0} (contents : W → Option (List ℕ)) (old new : Watched W) (result : Result (Unit {0}) ErrorKind) (bytes : List ℕ)
    → OnOk result (Writes contents old new bytes) → OnOk result (IsQuiet old new) → IfErr result (λ kind. CountsFailure old new kind) → OnErr result (WritesFront contents old new bytes)
    → Puts (λ (w : Watched W). contents (inner_of w)) (λ (w : Watched W). Some (failures_of w, last_kind_of w)) (λ (w : Watched W) kind. last_kind_of w ≡ Some kind) old new result bytes
watched_puts contents old new (Ok done) bytes all quiet fails front = (λ i. Some (quiet.same_failures i, quiet.same_kind i), all)
watched_puts contents old new (Err kind) bytes all quiet fails front = ((fails.rose, (kind, fails.kind_kept)), fails.kind_kept, front)
