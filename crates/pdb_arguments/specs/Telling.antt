-- The report where the arguments give no task.
use Rattle.std.specs.Prelude.{◌≡◌, ◌⊎◌, ℕ, List, Option, None, Some, codes, string_bytes}
use Rattle.std.specs.Io.KnownBytes.{Appends}
use Rattle.std.specs.declared.io.ErrorKind.{ErrorKind}
use Rattle.pdb_arguments.specs.declared.task.WordsFault.{WordsFault}
use Rattle.pdb_arguments.specs.declared.task.WordsFault.TheVariants as faults

-- the exit status: 0 for help, 1 when memory ran out, 2 for wrong arguments
abbrev pub status_of : WordsFault → ℕ
status_of faults.NotAnAddress = 2
status_of (faults.Words text) = 2
status_of (faults.Help text) = 0
status_of faults.OutOfMemory = 1

-- the text that is written to the output, if there is one: help
abbrev pub output_text : WordsFault → Option (List ℕ)
output_text faults.NotAnAddress = None
output_text (faults.Words text) = None
output_text (faults.Help text) = Some (string_bytes text)
output_text faults.OutOfMemory = None

-- the text that is written to the errors, if there is one: all but help
abbrev pub errors_text : WordsFault → Option (List ℕ)
errors_text faults.NotAnAddress = Some (codes "fault: NotAnAddress\n")
errors_text (faults.Words text) = Some (string_bytes text)
errors_text (faults.Help text) = None
errors_text faults.OutOfMemory = Some (codes "fault: OutOfMemory\n")

-- help was asked for
abbrev pub IsHelp : WordsFault → Type 0
IsHelp faults.NotAnAddress = ⊥
IsHelp (faults.Words text) = ⊥
IsHelp (faults.Help text) = Unit {0}
IsHelp faults.OutOfMemory = ⊥

-- all of a text was written; where there is none, the writer is as it was
abbrev pub Puts : {T : Type 0} → (T → Option (List ℕ)) → T → T → Option (List ℕ) → Type 0
Puts contents old new None = new ≡ old
Puts contents old new (Some text) = Appends (contents old) (contents new) text

-- A text was reported: all of it was written, or a write failed. Where there is none, the writer is
-- as it was.
abbrev pub Tells : {T : Type 0} → (T → Option (List ℕ)) → (T → T → ErrorKind → Type 0) → T → T
    → Option (List ℕ) → Type 0
Tells contents has_failed old new None = new ≡ old
Tells contents has_failed old new (Some text) =
    Appends (contents old) (contents new) text ⊎ ((kind : ErrorKind) × has_failed old new kind)
