-- What is cached of procedures stays the stream's.
use Rattle.std.proofs.Common.{◌≡◌, ℕ, List, [], replicate, None, Some, Ok, refl, sym, subst, ◌∙◌}
use Rattle.std.specs.Prelude.{Option, slice_get, slice_set}
use Rattle.std.specs.Box.{box_value}
use Rattle.std.specs.Global.{Box}
use Rattle.std.proofs.lemmas.Option.{slice_get_within}
use Rattle.pdb_lines.specs.LineRows.{subsection_numbered, subsections_for}
use Rattle.pdb_symbols_modules.specs.ModuleStream.{ModuleStream}
use Rattle.pdb_module_data.specs.declared.function_rows.LineRow.{LineRow}
use Rattle.pdb_module_data.specs.FunctionLine.{function_rows}
use Rattle.pdb_module_data.specs.Forest.{Site}
use Rattle.pdb_module_data.specs.InlinedCalls.{call_rows}
use Rattle.pdb_module_data.specs.InlinePieces.{Ranges, StandForSites}
use Rattle.pdb_module_data.specs.Procedures.{Procedure}
use Rattle.pdb_known_modules.specs.declared.procedure_data.KeptProcedure.{KeptProcedure}
use Rattle.pdb_known_modules.specs.declared.procedure_data.LentProcedure.{LentProcedure}
use Rattle.pdb_known_modules.specs.KnownModules.{ExtendedModule, extended_of}
use Rattle.pdb_known_modules.specs.KnownModules.{extended_procedure_of, procedure_sites}
use Rattle.pdb_known_modules.specs.ProcedureData.{IsReadBy, IsOfProcedure, IsOfStream}
use Rattle.pdb_known_modules.specs.ProcedureData.{AreOfStream, AreLent}
use Rattle.pdb_known_modules.specs.SubsectionRows.{AreRowsOf, IsNumberAt}
use Rattle.pdb_known_modules.proofs.KeptRows.{at_number}
use Rattle.pdb_known_modules.proofs.KeptSlots.{have_now, nothing_in, nothing_in_none}

-- what is cached in a slot
abbrev Kept : Type 0
Kept = Box KeptProcedure

abbrev IsAt : ModuleStream → ℕ → Kept → Type 0
IsAt stream number info = IsOfStream stream (box_value info)

-- what is read of a procedure depends on its start and its symbols alone
of_each : (stream : ModuleStream) (extended other : ExtendedModule) (q p : Procedure)
    (info : KeptProcedure) → other ≡ extended → IsOfProcedure stream extended q info
    → IsReadBy q info → IsReadBy p info → IsOfProcedure stream other p info
of_each stream extended other q p info same is key has =
    let start = has.start ∙ sym key.start in
    let symbol = has.symbol ∙ sym key.symbol in
    let end = has.end ∙ sym key.end in
    record {
      number = rw (same, start) is.number;
      sites = rw (symbol, end) is.sites;
      stand = rw (same, start) is.stand;
    }

-- what was read of a procedure is the stream's
pub of_stream : (stream : ModuleStream) (extended : ExtendedModule) (q : Procedure)
    (info : KeptProcedure) → extended_of stream ≡ Ok extended
    → IsOfProcedure stream extended q info → IsReadBy q info
    → IsOfStream stream info
of_stream stream extended q info now is key =
    record { each = λ other p again has. of_each stream extended other q p info (cc) is key has }

-- with what was read now, all that is cached is still the stream's
pub kept_now : (stream : ModuleStream) (places : List (Option Kept)) (n : ℕ) (info : Kept)
    → AreOfStream stream places → slice_get places n ≡ Some None
    → IsOfStream stream (box_value info)
    → AreOfStream stream (slice_set places n (Some info))
kept_now stream places n info kept empty is =
    let lt = slice_get_within places n None empty in
    record { each = have_now (IsAt stream) places n info kept.each lt is }

-- empty slots hold nothing
pub nothing_kept : (stream : ModuleStream) (count : ℕ) → AreOfStream stream (replicate count None)
nothing_kept stream count = record { each = nothing_in (IsAt stream) count }

-- and so do no slots
pub no_slots : (stream : ModuleStream) → AreOfStream stream []
no_slots stream = record { each = nothing_in_none (IsAt stream) }

-- what is cached of a procedure is the procedure's
pub lent_of : (stream : ModuleStream) (places : List (Option Kept)) (k : ℕ) (info : Kept)
    (q : Procedure) → AreOfStream stream places → slice_get places k ≡ Some (Some info)
    → IsReadBy q (box_value info) → (extended : ExtendedModule) → extended_of stream ≡ Ok extended
    → IsOfProcedure stream extended q (box_value info)
lent_of stream places k info q kept at has extended is =
    (kept.each k info at).each extended q is has

-- the same of what is held
pub lent_of_held : (held stream : ModuleStream) (places : List (Option Kept)) (k : ℕ) (info : Kept)
    (q : Procedure) → held ≡ stream → AreOfStream held places
    → slice_get places k ≡ Some (Some info) → IsReadBy q (box_value info)
    → (extended : ExtendedModule) → extended_of stream ≡ Ok extended
    → IsOfProcedure stream extended q (box_value info)
lent_of_held held stream places k info q same kept at has extended is =
    let are = subst (λ s. AreOfStream s places) same kept in
    lent_of stream places k info q are at has extended is

-- what was read of a procedure in the stream that is held, and the number of its subsection
pub of_held : (held stream : ModuleStream) (extended : ExtendedModule) (q : Procedure) (number : ℕ)
    (ranges : Ranges) (info : KeptProcedure) → held ≡ stream → extended_of stream ≡ Ok extended
    → subsection_numbered extended.program number ≡ subsections_for extended.program q.offset
    → procedure_sites held q ≡ Ok ranges.sites
    → StandForSites (call_rows extended.inlinees q.offset) ranges → IsReadBy q info
    → info.subsection ≡ number → info.ranges ≡ ranges → IsOfStream stream info
of_held held stream extended q number ranges info same is numbered sites stand key its its_ranges =
    of_stream stream extended q info is (record {
      number = rw its numbered;
      sites = rw (its_ranges, ← same) sites;
      stand = rw its_ranges stand;
    }) key

-- rows and sites that were read are what is read of the procedure
pub both_read : (stream : ModuleStream) (extended : ExtendedModule) (q : Procedure)
    (rows : List LineRow) (sites : List Site) → function_rows extended.program q.offset ≡ Ok rows
    → procedure_sites stream q ≡ Ok sites
    → extended_procedure_of stream extended.program q ≡ Ok (rows, sites)
unfolding extended_procedure_of
both_read stream extended q rows sites read found = rw (read, found) refl

as_numbered : (extended other : ExtendedModule) (q : Procedure) (number : ℕ) → other ≡ extended
    → subsection_numbered extended.program number ≡ subsections_for extended.program q.offset
    → subsection_numbered other.program number ≡ subsections_for other.program q.offset
as_numbered extended other q number same is = rw same is

-- what is cached of a procedure, with the rows of its subsection, is lent as the procedure's
pub lent_both : (stream : ModuleStream) (extended : ExtendedModule) (q : Procedure)
    (info : KeptProcedure) (rows : List LineRow) (lent : LentProcedure)
    → extended_of stream ≡ Ok extended → IsOfProcedure stream extended q info
    → AreRowsOf stream info.subsection rows → lent.rows.now ≡ rows → lent.ranges.now ≡ info.ranges
    → AreLent stream extended q lent
lent_both stream extended q info rows lent now is are same_rows same_ranges =
    let n = info.subsection in
    let its : IsNumberAt stream q.offset (Some n) =
    λ other again. as_numbered extended other q n (cc) is.number in
    let read = at_number stream q.offset n rows its are extended now in
    record {
      read = rw (same_rows, same_ranges)
          (both_read stream extended q rows info.ranges.sites read is.sites);
      stand = rw same_ranges is.stand;
    }
