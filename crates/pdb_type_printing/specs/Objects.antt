-- The object of a method.
use Rattle.std.specs.Prelude.{ℕ, Bool, false, codes, Option, Some, None, if◌then◌else◌, ◌==◌}
use Rattle.pdb_container.specs.Bits.{has_bit}
use Rattle.pdb_container.specs.declared.index.TypeIndex.{TypeIndex}
use Rattle.pdb_records.specs.Forms as forms
use Rattle.pdb_records.specs.Forms.{TypeForm, Plain}
use Rattle.pdb_type_printing.specs.Printed.{Text, Printed, Done, say}

-- the keyword before a method that has no object, which flag 2 (NO_MEMBER_FUNCTION_STATIC) leaves
-- out
abbrev pub static_word : ℕ → Option TypeIndex → Text → Printed
static_word flags None w = if has_bit flags 2 then Done w else say (codes "static ") w
static_word flags (Some this) w = Done w

-- whether the object is constant; and the pointer itself as an argument to be printed, where it
-- isn't plainly one to the class
abbrev pub This : Type 0
This = Bool × Option TypeIndex

-- a pointer that leads to a Modifier of the class is plain
abbrev pub this_to_modified : TypeIndex → TypeIndex → TypeForm → This
this_to_modified class this (Plain (forms.Modifier m)) =
    if m.underlying_type.0 == class.0 then (m.constant, None)
    else (false, Some this)
this_to_modified class this form = (false, Some this)
