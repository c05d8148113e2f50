-- An item as the definitions see it.
use Rattle.std.specs.Prelude.{◌≡◌, ℕ, List, Option, Some, None, Result, IfOk, IfSome}
use Rattle.pdb_container.specs.declared.error.Error.{Error}
use Rattle.pdb_container_types.specs.declared.item.Item.{Item}

-- the bytes of an item: its record
abbrev pub item_bytes : {I : Type 0} → Item I → List ℕ
item_bytes item = item.bytes.now

-- the bytes of an item that may be there
abbrev pub found_bytes : {I : Type 0} → Option (Item I) → Option (List ℕ)
found_bytes (Some item) = Some (item_bytes item)
found_bytes None = None

-- An item that was returned has the index.
abbrev pub HasIndex : {I : Type 0} → Result (Option (Item I)) Error → I → Type 0
HasIndex result index = IfOk result (λ answer. IfSome answer (λ item. item.index ≡ index))
