-- The cached line rows of subsections.
use Rattle.std.specs.Prelude.{◌≡◌, ℕ, List, slice_get, Option, None, Some, Ok}
use Rattle.std.specs.Borrow.{Bor}
use Rattle.std.specs.Box.{box_value}
use Rattle.std.specs.Global.{Box}
use Rattle.pdb_addresses.specs.declared.internal_section_offset.PdbInternalSectionOffset.{
  PdbInternalSectionOffset,
}
use Rattle.pdb_lines.specs.LineRows.{subsection_numbered, subsections_for}
use Rattle.pdb_symbols_modules.specs.ModuleStream.{ModuleStream}
use Rattle.pdb_module_data.specs.declared.function_rows.LineRow.{LineRow}
use Rattle.pdb_module_data.specs.FunctionLine.{function_rows, numbered_rows}
use Rattle.pdb_known_modules.specs.KnownModules.{ExtendedModule, extended_of}

-- These rows are those of the subsection with that number, from the stream's line program.
pub record AreRowsOf (stream : ModuleStream) (number : ℕ) (rows : List LineRow) : Type 0 where
  pub each : (extended : ExtendedModule) → extended_of stream ≡ Ok extended
      → numbered_rows extended.program number ≡ Ok rows

-- These rows are those of the function that begins at a place, from the stream's line program.
pub record AreRowsAt (stream : ModuleStream) (start : PdbInternalSectionOffset)
    (rows : List LineRow) : Type 0 where
  pub each : (extended : ExtendedModule) → extended_of stream ≡ Ok extended
      → function_rows extended.program start ≡ Ok rows

-- The subsection with that number, if one is given, is that of the function that begins at a place,
-- in the stream's line program.
abbrev pub IsNumberAt : ModuleStream → PdbInternalSectionOffset → Option ℕ → Type 0
IsNumberAt stream start None = Unit {0}
IsNumberAt stream start (Some number) = (extended : ExtendedModule)
    → extended_of stream ≡ Ok extended
    → subsection_numbered extended.program number ≡ subsections_for extended.program start

-- The rows that are cached in slots are those of the subsections with the slots' numbers.
pub record AreRowsOfStream (stream : ModuleStream)
    (slots : List (Option (Box (List LineRow)))) : Type 0 where
  pub each : (number : ℕ) (rows : Box (List LineRow))
      → slice_get slots number ≡ Some (Some rows) → AreRowsOf stream number (box_value rows)

-- Rows that are lent for a place, if there are any, are those of the function that begins there.
abbrev pub AreLentAt :
    ModuleStream → PdbInternalSectionOffset → Option (Bor (List LineRow)) → Type 0
AreLentAt stream start None = Unit {0}
AreLentAt stream start (Some rows) = (extended : ExtendedModule)
    → extended_of stream ≡ Ok extended → function_rows extended.program start ≡ Ok rows.now
