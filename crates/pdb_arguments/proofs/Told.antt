-- What is reported for arguments.
use Rattle.std.proofs.Common.{◌≡◌, ◌∙◌, sym, subst, refl, inl, inr, List, Option, Some, None, codes}
use Rattle.clap.specs.Words.{IsAmong, Text}
use Rattle.clap.specs.declared.error.kind.ErrorKind.{ErrorKind}
use Rattle.clap.specs.declared.error.kind.ErrorKind.TheVariants as kinds
use Rattle.pdb_arguments.specs.declared.task.Task.{Task}
use Rattle.pdb_arguments.specs.declared.task.Task.TheVariants.{Frames, Sizes}
use Rattle.pdb_arguments.specs.declared.task.WordsFault.{WordsFault}
use Rattle.pdb_arguments.specs.declared.task.WordsFault.TheVariants as faults
use Rattle.pdb_arguments.specs.Task.{Entered, IsFaultOf, IsOfTask, IsTask, IsToldOf}
use Rattle.pdb_arguments.specs.Task.{IsToldOfEntered, entered_by}

-- when memory runs out, nothing else is reported
pub memory_told : (kind : ErrorKind) (fault : WordsFault) → kind ≡ kinds.OutOfMemory
    → IsToldOf kind fault → fault ≡ faults.OutOfMemory
memory_told kind faults.NotAnAddress is h = absurd h
memory_told kind (faults.Words text) is h = absurd (h.0 is)
memory_told kind (faults.Help text) is (inl h) = cc
memory_told kind (faults.Help text) is (inr h) = cc
memory_told kind faults.OutOfMemory is h = refl

other_names : codes "frames" ≡ codes "sizes" → ⊥
other_names h = cc

-- of a task that was entered only memory that runs out is reported
task_told : (entered : Option Entered) (task : Task) (fault : WordsFault) → IsTask task entered
    → IsToldOfEntered entered fault → fault ≡ faults.OutOfMemory
task_told None task fault h told = absurd h
task_told (Some e) task (faults.Help text) h told = absurd told
task_told (Some e) task faults.OutOfMemory h told = refl
task_told (Some e) (Frames file demangle any_order json) faults.NotAnAddress h told =
    absurd (other_names (sym h.0 ∙ told.0))
task_told (Some e) (Sizes file start end by_file demangle any_order) faults.NotAnAddress h told = elim told.1 [
  | inl none ↦ cc
  | inr none ↦ cc
]
task_told (Some e) (Frames file demangle any_order json) (faults.Words text) h told = elim told [
  | inl none ↦ cc
  | inr neither ↦ absurd (neither.0 h.0)
]
task_told (Some e) (Sizes file start end by_file demangle any_order) (faults.Words text) h told = elim told [
  | inl none ↦ cc
  | inr neither ↦ absurd (neither.1 h.0)
]

-- where the arguments are those of a task, memory that runs out is the only fault
pub only_memory : (words : List Text) (fault : WordsFault) → IsFaultOf words fault → IsOfTask words
    → fault ≡ faults.OutOfMemory
only_memory words fault (inl is) of_task = is
only_memory words fault (inr (inl refused)) of_task =
    absurd (subst (IsAmong refused.0) of_task.0 refused.1)
only_memory words fault (inr (inr taken)) of_task =
    task_told (entered_by words) of_task.1.0 fault of_task.1.1 taken.1
