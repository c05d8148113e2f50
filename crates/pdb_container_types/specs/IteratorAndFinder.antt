-- The state of an iterator and of a finder, and their answers.
use Rattle.std.specs.Prelude.{ℕ, ◌+◌, ◌-◌, ◌*◌, ◌^◌, List, min, Bool, true, false, nat_lt, ◌==◌}
use Rattle.std.specs.Prelude.{◌||◌, if◌then◌else◌, Option, Some, None, Result, Ok, Err}
use Rattle.pdb_container.specs.Fault.{Fault, TypeNotIndexed}
use Rattle.pdb_container_types.specs.Items.{Table, item_number, items_of, item_at, past_list}
use Rattle.pdb_container_types.specs.declared.item_iter.Progress.{Progress}
use Rattle.pdb_container_types.specs.declared.item_iter.Progress.TheVariants as progress

-- ---- an iterator

-- an iteration over a table: the index of the next item, and whether an end was returned
pub record ItemIteration : Type 0 where
  pub table : Table
  pub index : ℕ
  pub progress : Progress

-- an iteration that begins
abbrev pub fresh_iteration : Table → ItemIteration
fresh_iteration t = record { table = t; index = t.minimum; progress = progress.Reading }

-- the answer at an index, by the iteration's progress; after an end nothing
abbrev pub answer_in_progress : Progress → Table → ℕ → Result (Option (List ℕ)) Fault
answer_in_progress progress.Reading t index = item_number (items_of t) (index - t.minimum)
answer_in_progress progress.Ended t index = Ok None
answer_in_progress progress.Failed t index = Ok None

-- the next answer of an iterator: an item, the end, or the fault at which the list ends; after an
-- end nothing
abbrev pub next_answer : ItemIteration → Result (Option (List ℕ)) Fault
next_answer it = answer_in_progress it.progress it.table it.index

-- the progress after an end, where there was none before
abbrev pub at_end : Progress → Progress
at_end progress.Reading = progress.Ended
at_end progress.Ended = progress.Ended
at_end progress.Failed = progress.Failed

-- the index of the next item, after an answer
abbrev pub index_behind : ℕ → Result (Option (List ℕ)) Fault → ℕ
index_behind index (Ok (Some item)) = index + 1
index_behind index (Ok None) = index
index_behind index (Err e) = index

-- the progress after an answer
abbrev pub progress_behind : Progress → Result (Option (List ℕ)) Fault → Progress
progress_behind p (Ok (Some item)) = p
progress_behind p (Ok None) = at_end p
progress_behind p (Err e) = progress.Failed

-- the iteration after an answer
abbrev pub iteration_behind : ItemIteration → Result (Option (List ℕ)) Fault → ItemIteration
iteration_behind it answer =
    record {
      table = it.table;
      index = index_behind it.index answer;
      progress = progress_behind it.progress answer;
    }

-- nothing more is returned
abbrev pub HasEnded : Progress → Type 0
HasEnded progress.Reading = ⊥
HasEnded progress.Ended = Unit {0}
HasEnded progress.Failed = Unit {0}

-- whether the list ended well
abbrev pub ended_well : Progress → Bool
ended_well progress.Reading = false
ended_well progress.Ended = true
ended_well progress.Failed = false

-- the first index past the list, where a good end was returned
abbrev pub answered_end : ItemIteration → Option ℕ
answered_end it = if ended_well it.progress then Some (past_list it.table) else None

-- ---- a finder

-- a table, the number of its known blocks of eight indices, and whether the end of its list is
-- known
pub record Finding : Type 0 where
  pub table : Table
  pub blocks : ℕ
  pub is_end_known : Bool

-- the first block is known at once
abbrev pub fresh_finding : Table → Finding
fresh_finding t = record { table = t; blocks = 1; is_end_known = false }

-- the first index past the known blocks; below it lie these blocks and all indices below the
-- table's
abbrev pub first_unknown : Finding → ℕ
first_unknown f = f.table.minimum + 8 * f.blocks

-- the last index of the known blocks
abbrev pub last_known : Finding → ℕ
last_known f = min (first_unknown f - 1) (2 ^ 32 - 1)

-- the first index past the list, where it is known
abbrev pub known_end : Finding → Option ℕ
known_end f = if f.is_end_known then Some (past_list f.table) else None

-- the finding once an iterator was shown
abbrev pub shown : ItemIteration → Finding → Finding
shown it f = record {
  table = f.table;
  blocks = if it.index == first_unknown f then f.blocks + 1 else f.blocks;
  is_end_known = f.is_end_known || ended_well it.progress;
}

-- the bytes of the item with that index, or the fault
unfoldable pub find_in : Finding → ℕ → Result (List ℕ) Fault
find_in f index =
    if nat_lt index (first_unknown f) then item_at f.table index
    else Err (TypeNotIndexed index (first_unknown f))
