-- The state of a table that is read on demand.
use Rattle.std.specs.Prelude.{◌≡◌, ℕ, ◌-◌, ◌<◌, ◌≤◌, None, Ok, Err}
use Rattle.pdb_container.specs.Fault.{TypeNotFound, fault_of, IsOfBytes}
use Rattle.pdb_container_types.specs.Items.{Table, items_of, item_number, item_at}
use Rattle.pdb_container_types.specs.IteratorAndFinder.{ItemIteration, Finding, first_unknown}
use Rattle.pdb_container_types.specs.declared.item_iter.Progress.{Progress}
use Rattle.pdb_container_types.specs.declared.item_iter.Progress.TheVariants as progress
use Rattle.pdb_module_items.specs.declared.item_map.End.{End}
use Rattle.pdb_module_items.specs.declared.item_map.End.TheVariants as ends

-- The known end of the list is right, where the items before an index were gone over.
abbrev pub IsRightEnd : Table → ℕ → Progress → End → Type 0
IsRightEnd t index p ends.Ahead = p ≡ progress.Reading
IsRightEnd t index p ends.Good = item_number (items_of t) (index - t.minimum) ≡ Ok None
IsRightEnd t index p (ends.Bad e) = IsOfBytes e
    × (item_number (items_of t) (index - t.minimum) ≡ Err (fault_of e))

-- A finder was shown all that an iterator went over, and the known end is right.
pub record IsShown (f : Finding) (it : ItemIteration) (end : End) : Type 0 where
  pub table : it.table ≡ f.table
  pub before : it.index < first_unknown f
  pub right : IsRightEnd f.table it.index it.progress end

-- A finder was shown enough for an index: it knows the index, or the list ends before.
abbrev pub IsReached : Finding → End → ℕ → Type 0
IsReached f ends.Ahead index = index < first_unknown f
IsReached f ends.Good index = first_unknown f ≤ index
    → item_at f.table index ≡ Err (TypeNotFound index)
IsReached f (ends.Bad e) index = IsOfBytes e
    × (first_unknown f ≤ index → item_at f.table index ≡ Err (fault_of e))

-- the values stored of a table: its bounds, and the parts of it that were shown
pub record IsKept (f : Finding) (it : ItemIteration) (end : End) (minimum maximum : ℕ) :
    Type 0 where
  pub low : minimum ≡ f.table.minimum
  pub high : maximum ≡ f.table.maximum
  pub shown : IsShown f it end
