-- The sizes of forward references that a reader caches.
use Rattle.std.specs.Prelude.{◌≡◌, ℕ, Bool, false, Some}
use Rattle.std.specs.Ordering.{nat_cmp}
use Rattle.std.specs.BTreeMap.{BTreeMap, get}
use Rattle.pdb_container_types.specs.Items.{Table}
use Rattle.pdb_records.specs.Attributes.{is_forward}
use Rattle.pdb_records.specs.Forms.{TypeForm, Plain}
use Rattle.pdb_records.specs.Forms as forms
use Rattle.pdb_module_items.specs.Reading.{type_in}
use Rattle.pdb_module_items.specs.Sizes.{read_bytes}

-- whether a type is a forward reference: a class or a union that is defined elsewhere
abbrev pub is_reference : TypeForm → Bool
is_reference (Plain (forms.Class t)) = is_forward t.properties
is_reference (Plain (forms.Union t)) = is_forward t.properties
is_reference t = false

-- the size of the type that the table has at an index, however many bytes a pointer has and
-- whatever the sizes of other types
abbrev pub IsSize : Table → ℕ → ℕ → Type 0
IsSize types index size = (pointer_size : ℕ) (of : ℕ → ℕ)
    → size ≡ read_bytes types pointer_size of index (type_in types index)

-- Each cached size is that of the type at its index.
pub record AreSizes (types : Table) (sizes : BTreeMap ℕ ℕ) : Type 0 where
  pub each : (index size : ℕ) → get nat_cmp sizes index ≡ Some size → IsSize types index size
