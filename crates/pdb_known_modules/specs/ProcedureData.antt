-- The cached data of procedures that were asked for.
use Rattle.std.specs.Prelude.{◌≡◌, ℕ, List, slice_get, Option, None, Some, Ok}
use Rattle.std.specs.Borrow.{Bor}
use Rattle.std.specs.Box.{box_value}
use Rattle.std.specs.Global.{Box}
use Rattle.pdb_lines.specs.LineRows.{subsection_numbered, subsections_for}
use Rattle.pdb_symbols_modules.specs.ModuleStream.{ModuleStream}
use Rattle.pdb_module_data.specs.Procedures.{Procedure}
use Rattle.pdb_module_data.specs.InlinedCalls.{call_rows}
use Rattle.pdb_module_data.specs.InlinePieces.{StandForSites}
use Rattle.pdb_known_modules.specs.declared.procedure_data.KeptProcedure.{KeptProcedure}
use Rattle.pdb_known_modules.specs.declared.procedure_data.LentProcedure.{LentProcedure}
use Rattle.pdb_known_modules.specs.KnownModules.{ExtendedModule, extended_of}
use Rattle.pdb_known_modules.specs.KnownModules.{extended_procedure_of, procedure_sites}

-- The procedure has the start and the symbols by which these data were read.
pub record IsReadBy (q : Procedure) (info : KeptProcedure) : Type 0 where
  pub start : q.offset ≡ info.offset
  pub symbol : q.symbol_index ≡ info.symbol_index
  pub end : q.end_symbol_index ≡ info.end_symbol_index

-- These data are a procedure's, from a line program and inlined functions: the number of its
-- subsection, and its sites, with pieces that stand for the sites.
pub record IsOfProcedure (stream : ModuleStream) (extended : ExtendedModule) (q : Procedure)
    (info : KeptProcedure) : Type 0 where
  pub number : subsection_numbered extended.program info.subsection
      ≡ subsections_for extended.program q.offset
  pub sites : procedure_sites stream q ≡ Ok info.ranges.sites
  pub stand : StandForSites (call_rows extended.inlinees q.offset) info.ranges

-- These data are the stream's: the data of each procedure by whose start and symbols they were
-- read.
pub record IsOfStream (stream : ModuleStream) (info : KeptProcedure) : Type 0 where
  pub each : (extended : ExtendedModule) (q : Procedure) → extended_of stream ≡ Ok extended
      → IsReadBy q info → IsOfProcedure stream extended q info

-- The data cached in places are the stream's.
pub record AreOfStream (stream : ModuleStream)
    (places : List (Option (Box KeptProcedure))) : Type 0 where
  pub each : (k : ℕ) (info : Box KeptProcedure) → slice_get places k ≡ Some (Some info)
      → IsOfStream stream (box_value info)

-- The cached data of a procedure, if there are any, are the procedure's.
abbrev pub IsKeptOf : ModuleStream → Procedure → Option (Bor KeptProcedure) → Type 0
IsKeptOf stream q None = Unit {0}
IsKeptOf stream q (Some info) = (extended : ExtendedModule) → extended_of stream ≡ Ok extended
    → IsOfProcedure stream extended q info.now

-- Rows and sites that are lent are a procedure's, from a line program and inlined functions, with
-- pieces that stand for the sites.
pub record AreLent (stream : ModuleStream) (extended : ExtendedModule) (q : Procedure)
    (lent : LentProcedure) : Type 0 where
  pub read : extended_procedure_of stream extended.program q
      ≡ Ok (lent.rows.now, lent.ranges.now.sites)
  pub stand : StandForSites (call_rows extended.inlinees q.offset) lent.ranges.now

-- The lent rows and sites of a procedure, if there are any, are the procedure's.
abbrev pub IsLentOf : ModuleStream → Procedure → Option LentProcedure → Type 0
IsLentOf stream q None = Unit {0}
IsLentOf stream q (Some lent) = (extended : ExtendedModule) → extended_of stream ≡ Ok extended
    → AreLent stream extended q lent
