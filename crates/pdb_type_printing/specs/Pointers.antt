-- Pointers after the text of the type to which they point.
use Rattle.std.specs.Prelude.{ℕ, ◌-◌, Bool, true, false, ◌&&◌, ◌||◌, not, List, [], ◌∷◌, ◌++◌}
use Rattle.std.specs.Prelude.{length, codes, Option, Some, None, if◌then◌else◌, ◌==◌, slice_get}
use Rattle.pdb_container.specs.Bits.{has_bit}
use Rattle.pdb_records.specs.declared.type_attributes.PointerMode.{PointerMode}
use Rattle.pdb_records.specs.declared.type_attributes.PointerMode.TheVariants as modes
use Rattle.pdb_records.specs.declared.type_data.PointerType.{PointerType}
use Rattle.pdb_records.specs.Attributes.{points_constant, mode_of_pointer}
use Rattle.pdb_type_printing.specs.declared.pointers.PointerLevel.{PointerLevel}
use Rattle.pdb_type_printing.specs.Printed.{Text}

-- ---- one level of pointers on pointers

-- a pointer as one level, which is constant also where the Modifier around it says so
abbrev pub level_of : Bool → PointerType → PointerLevel
level_of constant t =
    record {
      mode = mode_of_pointer t.attributes;
      is_constant = points_constant t.attributes || constant;
      leads_to_constant = false;
    }

-- the same pointer, to a constant type or not
abbrev pub leading_to : Bool → PointerLevel → PointerLevel
leading_to constant p =
    record { mode = p.mode; is_constant = p.is_constant; leads_to_constant = constant }

-- ---- texts

-- the sign of a pointer or reference
abbrev pub sigil : PointerMode → Text
sigil modes.Pointer = codes "*"
sigil modes.LValueReference = codes "&"
sigil modes.Member = codes "::*"
sigil modes.MemberFunction = codes "::*"
sigil modes.RValueReference = codes "&&"

-- whether a byte is one that a sign ends with
abbrev pub is_sigil : Option ℕ → Bool
is_sigil None = false
is_sigil (Some b) = b == 42 || b == 38

-- whether a text ends with a sign
abbrev pub ends_in_sigil : Text → Bool
ends_in_sigil w = is_sigil (slice_get w (length w - 1))

-- `const` where the type behind the pointer is constant, after a space where one may begin
abbrev pub target_text : Bool → PointerLevel → Text
target_text may_space p =
    if p.leads_to_constant then (if may_space then codes " const" else codes "const")
    else []

-- the space before the sign, under flag 8 (SPACE_BEFORE_POINTER): none after another sign, and none
-- at the beginning of pointers that may not begin with one
abbrev pub space_text : ℕ → Bool → Bool → PointerLevel → Text
space_text flags may_space behind_sigil p =
    if has_bit flags 8 && (p.leads_to_constant || (may_space && not behind_sigil)) then codes " "
    else []

-- one pointer; a space may begin it or not, and a sign stands before it or not
abbrev pub pointer_text : ℕ → Bool → Bool → PointerLevel → Text
pointer_text flags may_space behind_sigil p =
    target_text may_space p
    ++ (space_text flags may_space behind_sigil p
    ++ (sigil p.mode ++ (if p.is_constant then codes " const" else [])))

-- pointers, the innermost first
abbrev pub pointers_text : ℕ → Bool → Bool → List PointerLevel → Text
pointers_text flags may_space behind_sigil [] = []
pointers_text flags may_space behind_sigil (p ∷ outer) =
    pointer_text flags may_space behind_sigil p
    ++ pointers_text flags true (not p.is_constant) outer
