-- The definitions of classes and unions that a table has, as they are gathered from its end.
use Rattle.std.specs.Prelude.{◌≡◌, ℕ, Bool, false, true, List, Option, None, Some, unwrap_or, Result, Ok, Err}
use Rattle.std.specs.Option.{option_or}
use Rattle.std.specs.Borrow.{Bor}
use Rattle.std.specs.BTreeMap.{BTreeMap, get_by}
use Rattle.std.specs.Cmp.Lexicographic.{slice_cmp}
use Rattle.std.specs.Ordering.{nat_cmp}
use Rattle.pdb_container.specs.Fault as container_fault
use Rattle.pdb_container_types.specs.Items.{Table}
use Rattle.pdb_records.specs.Attributes.{is_forward}
use Rattle.pdb_records.specs.Forms.{TypeForm, Plain}
use Rattle.pdb_records.specs.Forms as forms
use Rattle.pdb_module_items.specs.KeptSizes.{IsSize}
use Rattle.pdb_module_items.specs.Sizes.{first_definition, key_name, records_from, size_if_defined}

-- a class or a union: whether it is defined elsewhere, the name by which it is looked for, and the
-- size that it states
pub record Aggregate : Type 0 where
  pub is_forward_reference : Bool
  pub name : List ℕ
  pub size : ℕ

-- a type as a class or a union, if it is one
abbrev pub aggregate_of : TypeForm → Option Aggregate
aggregate_of (Plain (forms.Class t)) =
    Some record {
      is_forward_reference = is_forward t.properties;
      name = key_name t.name t.unique_name;
      size = t.size;
    }
aggregate_of (Plain (forms.Union t)) =
    Some record {
      is_forward_reference = is_forward t.properties;
      name = key_name t.name t.unique_name;
      size = t.size;
    }
aggregate_of t = None

-- the class or union of a type that was read; none where it can't be read
abbrev pub read_aggregate : Result TypeForm container_fault.Fault → Option Aggregate
read_aggregate (Ok t) = aggregate_of t
read_aggregate (Err e) = None

-- the size that a class or a union states for a definition of a name
abbrev pub aggregate_size_of : List ℕ → Aggregate → Option ℕ
aggregate_size_of wanted a = size_if_defined wanted a.is_forward_reference a.name a.size

-- the size that is stored under a name
abbrev pub gathered : BTreeMap (Bor (List ℕ)) ℕ → List ℕ → Option ℕ
gathered definitions wanted = get_by (λ k. slice_cmp nat_cmp wanted k.now) definitions

-- the size of a forward reference: the size stored under its name, or else its own
abbrev pub reference_bytes : BTreeMap (Bor (List ℕ)) ℕ → Aggregate → ℕ
reference_bytes definitions a = unwrap_or (gathered definitions a.name) a.size

-- one more class or union was gathered, before the others of its name
abbrev pub Gathers : BTreeMap (Bor (List ℕ)) ℕ → BTreeMap (Bor (List ℕ)) ℕ → Aggregate → Type 0
Gathers old new a = (wanted : List ℕ)
    → gathered new wanted ≡ option_or (aggregate_size_of wanted a) (gathered old wanted)

-- a definition of a name and a size
abbrev pub definition : List ℕ → ℕ → Aggregate
definition name size = record { is_forward_reference = false; name = name; size = size }

-- a forward reference has the size of the type at that index, from the stored sizes
abbrev pub IsReferenceSize : Table → ℕ → BTreeMap (Bor (List ℕ)) ℕ → Aggregate → Type 0
IsReferenceSize types index definitions a =
    a.is_forward_reference ≡ true → IsSize types index (reference_bytes definitions a)

-- The size stored under each name is that of its first definition from an index on.
pub record AreDefinitions (types : Table) (index : ℕ) (definitions : BTreeMap (Bor (List ℕ)) ℕ) :
    Type 0 where
  pub each : (wanted : List ℕ) → gathered definitions wanted
      ≡ first_definition wanted index (records_from types index)
