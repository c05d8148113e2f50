-- The state of a watched reader or writer, and what a call may change of it.
use Rattle.std.specs.Prelude.{◌≡◌, ℕ, zero, suc, ◌+◌, ◌-◌, ◌^◌, ◌<◌, min, List, ◌++◌, length}
use Rattle.std.specs.Prelude.{Option, Some, Result, Ok, Err, MatchResult}
use Rattle.std.specs.declared.io.Error.{Error}
use Rattle.std.specs.declared.io.ErrorKind.{ErrorKind}
use Rattle.std.specs.declared.io.ErrorKind.TheVariants.{WriteZero}
use Rattle.std.specs.IoError.{error_kind}
use Rattle.std.specs.Io.KnownBytes.{Appends, Consumes}
use Rattle.pdb_engine.specs.declared.watched.Watched.{Watched}
use Rattle.pdb_engine.specs.InputLines.{Begins}

-- the reader or the writer itself
abbrev pub inner_of : {T : Type 0} → Watched T → T
inner_of w = w.inner

-- the number of calls of the reader or writer that failed
abbrev pub failures_of : {T : Type 0} → Watched T → ℕ
failures_of w = w.failures

-- the kind of the last failed call, if one failed
abbrev pub last_kind_of : {T : Type 0} → Watched T → Option ErrorKind
last_kind_of w = w.last_kind

-- one call failed with that kind: the count rose, unless it stood at its greatest, and the kind is
-- stored
pub record CountsFailure {T : Type 0} (old new : Watched T) (kind : ErrorKind) : Type 0 where
  pub rose : failures_of new ≡ min (failures_of old + 1) (2 ^ 64 - 1)
  pub kind_kept : last_kind_of new ≡ Some kind

-- no call failed
pub record IsQuiet {T : Type 0} (old new : Watched T) : Type 0 where
  pub same_failures : failures_of new ≡ failures_of old
  pub same_kind : last_kind_of new ≡ last_kind_of old

-- a read fails by its error
abbrev pub WatchesRead : {X T : Type 0} → Watched T → Watched T → Result X Error → Type 0
WatchesRead old new result =
    MatchResult result (λ _. IsQuiet old new) (λ e. CountsFailure old new (error_kind e))

-- a write fails by its error, and as `WriteZero` where it takes none of some bytes
abbrev pub WatchesWrite : {T : Type 0} → Watched T → Watched T → List ℕ → Result ℕ Error → Type 0
WatchesWrite old new bytes (Ok (suc n)) = IsQuiet old new
WatchesWrite old new bytes (Ok zero) =
    (0 < length bytes → CountsFailure old new WriteZero) × (length bytes ≡ 0 → IsQuiet old new)
WatchesWrite old new bytes (Err e) = CountsFailure old new (error_kind e)

-- a prefix of the text was appended to what a writer holds, where that is known
abbrev pub AppendsFront : Option (List ℕ) → Option (List ℕ) → List ℕ → Type 0
AppendsFront old new text = (out : List ℕ) × Appends old new out × Begins out text

-- the text was appended to what the writer holds, where that is known
abbrev pub Writes : {T : Type 0} → (T → Option (List ℕ)) → Watched T → Watched T → List ℕ → Type 0
Writes contents old new text = Appends (contents (inner_of old)) (contents (inner_of new)) text

-- the text was written but for its end, which is pending
abbrev pub WritesAllBut : {T : Type 0} → (T → Option (List ℕ)) → Watched T → Watched T
    → List ℕ → List ℕ → Type 0
WritesAllBut contents old new pending text =
    (out : List ℕ) × Writes contents old new out × (text ≡ out ++ pending)

-- a prefix of the text was written
abbrev pub WritesFront : {T : Type 0} → (T → Option (List ℕ)) → Watched T → Watched T
    → List ℕ → Type 0
WritesFront contents old new text = (out : List ℕ) × Writes contents old new out × Begins out text

-- the bytes were taken from what the reader has left, where that is known
abbrev pub Takes : {T : Type 0} → (T → Option (List ℕ)) → Watched T → Watched T → List ℕ → Type 0
Takes remaining old new bytes = Consumes (remaining (inner_of old)) (remaining (inner_of new)) bytes
