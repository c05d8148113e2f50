-- The places by which items are reached: those that the code stores of a table, and single steps.
use Rattle.std.specs.Prelude.{◌≡◌, ℕ, ◌+◌, ◌-◌, ◌*◌, ◌/◌, ◌^◌, ◌<◌, ◌≤◌, List, length, drop, Bool}
use Rattle.std.specs.Prelude.{true, false, Option, Some, None, Result, Ok, Err}
use Rattle.std.specs.List.{slice_index}
use Rattle.pdb_container.specs.Buffer.{Buffer, rest}
use Rattle.pdb_container.specs.Fault.{fault_of, IsOfBytes}
use Rattle.pdb_container.specs.Listing.{Listing, before, ending}
use Rattle.pdb_container.specs.declared.error.Error.{Error}
use Rattle.pdb_container_types.specs.Items.{Table, items_from, items_of, past_list}

-- the list after that many items
abbrev pub items_behind : ℕ → Listing (List ℕ) → Listing (List ℕ)
items_behind n list = record { items = drop n list.items; fault = list.fault }

-- One step from an index: an item and the buffer after it, or an end and the buffer as it was.
abbrev pub Steps : {X : Type 0} → (X → List ℕ) → ℕ → Result (Option X) Error → Buffer
    → Buffer → Type 0
Steps view index (Ok (Some x)) old new =
    (items_from index (rest old) ≡ before (view x) (items_from (index + 1) (rest new)))
    × (index + 1 < 2 ^ 32) × (4 + length (rest new) ≤ length (rest old))
    × (new.bytes ≡ old.bytes)
Steps view index (Ok None) old new = (items_from index (rest old) ≡ ending None) × (new ≡ old)
Steps view index (Err e) old new = IsOfBytes e
    × (items_from index (rest old) ≡ ending (Some (fault_of e))) × (new ≡ old)

-- A buffer stands before the item with that index.
pub record IsBefore (t : Table) (index : ℕ) (left : List ℕ) : Type 0 where
  pub low : t.minimum ≤ index
  pub high : index < 2 ^ 32
  pub within : index ≤ past_list t
  pub far : 4 * (index - t.minimum) + length left ≤ length t.bytes
  pub list : items_behind (index - t.minimum) (items_of t) ≡ items_from index left

-- An end that was returned is the list's.
abbrev pub IsRightEnd : Bool → ℕ → Table → Type 0
IsRightEnd true index t = index ≡ past_list t
IsRightEnd false index t = Unit {0}

-- A place in the bytes is before the item with that index.
abbrev pub IsPlaceAt : Table → ℕ → ℕ → Type 0
IsPlaceAt t index place = (place ≤ length t.bytes) × IsBefore t index (drop place t.bytes)

-- Places of the known blocks.
abbrev pub ArePlaces : Table → List ℕ → ℕ → Type 0
ArePlaces t places blocks = (k : ℕ) → k < blocks
    → IsPlaceAt t (t.minimum + 8 * k) (slice_index places k)

-- An end that is known is the list's.
abbrev pub IsEnd : Table → Option ℕ → Type 0
IsEnd t (Some end) = end ≡ past_list t
IsEnd t None = Unit {0}

-- the values that a finder stores of its table: the places of its known blocks, with room for those
-- of all blocks, and the end
pub record IsKeptOfTable (t : Table) (places : List ℕ) (capacity blocks : ℕ) (end : Option ℕ) :
    Type 0 where
  pub some : 1 ≤ blocks
  pub room : length t.bytes / 32 + 1 ≤ capacity
  pub each : length places ≡ blocks
  pub known : ArePlaces t places blocks
  pub right : IsEnd t end

-- the view of an item that may be there
abbrev pub seen : {X : Type 0} → (X → List ℕ) → Option X → Option (List ℕ)
seen view (Some x) = Some (view x)
seen view None = None
