-- The type that a function returns.
use Rattle.std.specs.Prelude.{ℕ, Bool, not, ◌&&◌, ◌||◌, Option, None, if◌then◌else◌}
use Rattle.pdb_container.specs.Bits.{has_bit}
use Rattle.pdb_container.specs.declared.index.TypeIndex.{TypeIndex}
use Rattle.pdb_records.specs.declared.type_attributes.FunctionAttributes.{FunctionAttributes}
use Rattle.pdb_records.specs.Attributes.{constructs}

-- the type with which a function's text begins: none for a constructor, and none where flag 1
-- (NO_FUNCTION_RETURN) leaves it out, which it does unless pointers point to the function
abbrev pub shown_return : ℕ → Option TypeIndex → FunctionAttributes → (behind_pointers : Bool)
    → Option TypeIndex
shown_return flags t attributes behind_pointers =
    if (has_bit flags 1 && not behind_pointers) || constructs attributes then None else t
