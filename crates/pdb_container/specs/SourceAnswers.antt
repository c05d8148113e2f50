-- The result of a call that reads a source, and the bytes and the count of failures after it.
use Rattle.std.specs.Prelude.{◌≡◌, ◌⊎◌, ℕ, ◌≤◌, List, Result, Err, IsOk}
use Rattle.std.specs.Global.{Vec}
use Rattle.pdb_container.specs.declared.error.Error.{Error}
use Rattle.pdb_container.specs.declared.source.Source.{Ghosts as SourceOf}
use Rattle.pdb_container.specs.Container.{layout_of}
use Rattle.pdb_container.specs.Fault.{Fault, fault_of, HasRisen, IsOutside, Gives}

-- A call left the source's bytes as they were, and its count of failures at least where it stood.
-- It returned, seen by view, the reading's value or fault; or else out of memory, or a failure of
-- the source that was counted in this call.
pub record AnswersFrom {S X Y : Type 0} (bytes : S → List ℕ) (failures : S → ℕ) (old new : S)
    (view : X → Y) (result : Result X Error) (read : Result Y Fault) : Type 0 where
  pub same : bytes new ≡ bytes old
  pub counts : failures old ≤ failures new
  pub exact : Gives view (HasRisen (failures old) (failures new)) result read

-- A call returned, seen by view, the value or fault that reading the source's bytes gives.
abbrev pub AnswersAs : {S X Y : Type 0} → SourceOf S → S → S → (X → Y) → Result X Error
    → (List ℕ → Result Y Fault) → Type 0
AnswersAs source old new view result read =
    AnswersFrom source.bytes source.failures old new view result (read (source.bytes old))

-- ..seen as it is
abbrev pub Answers : {S X : Type 0} → SourceOf S → S → S → Result X Error
    → (List ℕ → Result X Fault) → Type 0
Answers source old new result read = AnswersAs source old new (λ x. x) result read

-- ..seen as the items of a vector
abbrev pub AnswersItems : {S X : Type 0} → SourceOf S → S → S → Result (Vec X) Error
    → (List ℕ → Result (List X) Fault) → Type 0
AnswersItems source old new result read = AnswersAs source old new (λ v. v.items) result read

-- an error of a call that reads a source: memory was short, or the source failed and counted the
-- failure, or reading the source's bytes gives that fault
abbrev pub IsFaultFrom : {S Y : Type 0} → SourceOf S → S → S → Error
    → (List ℕ → Result Y Fault) → Type 0
IsFaultFrom source old new e read =
    IsOutside e (HasRisen (source.failures old) (source.failures new))
    ⊎ (read (source.bytes old) ≡ Err (fault_of e))

-- an opened value has the source's bytes, with a container's header, and counts the source's
-- failures
abbrev pub IsOpenedFrom : {S : Type 0} → SourceOf S → S → S → Type 0
IsOpenedFrom source unopened opened =
    (source.bytes opened ≡ source.bytes unopened)
    × (source.failures unopened ≤ source.failures opened)
    × IsOk (layout_of (source.bytes unopened))

-- an error of opening a source: memory was short, or the source failed, or its header has that
-- fault
abbrev pub IsOpeningFault : {S : Type 0} → SourceOf S → S → Error → Type 0
IsOpeningFault {S = S} source unopened e =
    IsOutside e ((after : S) × (source.bytes after ≡ source.bytes unopened)
    × HasRisen (source.failures unopened) (source.failures after))
    ⊎ (layout_of (source.bytes unopened) ≡ Err (fault_of e))
