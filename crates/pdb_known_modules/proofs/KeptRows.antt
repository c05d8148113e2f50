-- What is cached of the rows of subsections stays the stream's.
use Rattle.std.proofs.Common.{◌≡◌, ℕ, ◌<◌, List, [], replicate, length, None, Some, Ok, sym, ◌∙◌}
use Rattle.std.specs.Borrow.{Bor}
use Rattle.std.specs.Prelude.{IfSome, Option, slice_set}
use Rattle.std.specs.Box.{box_value}
use Rattle.std.specs.Global.{Box}
use Rattle.pdb_addresses.specs.declared.internal_section_offset.PdbInternalSectionOffset.{
  PdbInternalSectionOffset,
}
use Rattle.pdb_symbols_modules.specs.ModuleStream.{ModuleStream}
use Rattle.pdb_module_data.specs.declared.function_rows.LineRow.{LineRow}
use Rattle.pdb_module_data.specs.FunctionLine.{function_rows}
use Rattle.pdb_module_data.proofs.SubsectionRows.{same_rows}
use Rattle.pdb_known_modules.specs.KnownModules.{ExtendedModule, extended_of}
use Rattle.pdb_known_modules.specs.SubsectionRows.{AreRowsAt, AreRowsOf, AreRowsOfStream}
use Rattle.pdb_known_modules.specs.SubsectionRows.{AreLentAt, IsNumberAt}
use Rattle.pdb_known_modules.proofs.KeptSlots.{have_now, nothing_in, nothing_in_none}

-- what is cached in a slot
abbrev Kept : Type 0
Kept = Box (List LineRow)

abbrev AreAt : ModuleStream → ℕ → Kept → Type 0
AreAt stream number rows = AreRowsOf stream number (box_value rows)

-- no slots hold nothing
pub no_slots : (stream : ModuleStream) → AreRowsOfStream stream []
no_slots stream = record { each = nothing_in_none (AreAt stream) }

-- and so do empty slots
pub nothing_kept : (stream : ModuleStream) (count : ℕ)
    → AreRowsOfStream stream (replicate count None)
nothing_kept stream count = record { each = nothing_in (AreAt stream) count }

-- with rows that were read now, all that is cached is still the stream's
pub kept_now : (stream : ModuleStream) (places : List (Option Kept)) (number : ℕ) (rows : Kept)
    → AreRowsOfStream stream places → number < length places
    → AreRowsOf stream number (box_value rows)
    → AreRowsOfStream stream (slice_set places number (Some rows))
kept_now stream places number rows kept lt are =
    record { each = have_now (AreAt stream) places number rows kept.each lt are }

-- the rows of a function are those of its subsection
pub of_number : (stream : ModuleStream) (start : PdbInternalSectionOffset) (number : ℕ)
    (rows : List LineRow) → IsNumberAt stream start (Some number) → AreRowsAt stream start rows
    → AreRowsOf stream number rows
of_number stream start number rows is are =
    record {
      each = λ extended now.
          same_rows extended.program start number (is extended now) ∙ are.each extended now;
    }

-- and those of its subsection are the function's
pub at_number : (stream : ModuleStream) (start : PdbInternalSectionOffset) (number : ℕ)
    (rows : List LineRow) → IsNumberAt stream start (Some number) → AreRowsOf stream number rows
    → (extended : ExtendedModule) → extended_of stream ≡ Ok extended
    → function_rows extended.program start ≡ Ok rows
at_number stream start number rows is are extended now =
    sym (same_rows extended.program start number (is extended now)) ∙ are.each extended now

-- what is lent of the rows of a function's subsection are the function's
pub lent_at : (stream : ModuleStream) (start : PdbInternalSectionOffset) (number : ℕ)
    (found : Option (Bor (List LineRow))) → IsNumberAt stream start (Some number)
    → IfSome found (λ rows. AreRowsOf stream number rows.now) → AreLentAt stream start found
lent_at stream start number None is are = tt
lent_at stream start number (Some rows) is are =
    λ extended now. at_number stream start number rows.now is are extended now
