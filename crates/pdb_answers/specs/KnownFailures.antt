-- The failures known of functions that were asked for and whose frames can't be read.
use Rattle.std.specs.Prelude.{◌≡◌, ℕ, Option, Some, IfSome}
use Rattle.std.specs.BTreeMap.{get}
use Rattle.std.specs.Ordering.{nat_cmp}
use Rattle.pdb_container.specs.declared.index_numbers.SymbolIndex.{SymbolIndex}
use Rattle.pdb_addresses.specs.declared.internal_section_offset.PdbInternalSectionOffset.{
  PdbInternalSectionOffset,
}
use Rattle.pdb_module_data.specs.Procedures.{Procedure}
use Rattle.pdb_resolving.specs.Resolving.{Provided}
use Rattle.pdb_known_modules.specs.KnownModules.{ModuleData, module_data, own_of}
use Rattle.pdb_frames.specs.Choice.{Chosen, Proc, Public}
use Rattle.pdb_frames.specs.FailingParts.{failing_in}
use Rattle.pdb_frames.specs.Failing.{Part}
use Rattle.pdb_frames.specs.Failing as parts
use Rattle.pdb_frames.specs.Printing.{Formatting}
use Rattle.pdb_frames.specs.Scopes.{entries_of}
use Rattle.pdb_answers.specs.declared.known_failures.Asked.{Asked}
use Rattle.pdb_answers.specs.declared.known_failures.Asked.TheVariants as asked
use Rattle.pdb_answers.specs.declared.known_failures.KnownFailure.{KnownFailure}
use Rattle.pdb_answers.specs.declared.known_failures.KnownFailures.{KnownFailures}

-- The procedure has this start and these symbols.
pub record IsProcedure (q : Procedure) (at : PdbInternalSectionOffset) (first last : SymbolIndex)
    : Type 0 where
  pub start : q.offset ≡ at
  pub symbol : q.symbol_index ≡ first
  pub end : q.end_symbol_index ≡ last

-- A chosen function is among the functions asked for: any one of the module, the procedure with a
-- start and symbols, the public entry of a place.
abbrev pub IsAbout : Asked → Chosen → Type 0
IsAbout asked.Module c = Unit {0}
IsAbout (asked.Procedure start symbol end) (Proc q) = IsProcedure q start symbol end
IsAbout (asked.Procedure start symbol end) (Public f) = ⊥
IsAbout (asked.Public start) (Proc q) = ⊥
IsAbout (asked.Public start) (Public f) = f.start_offset ≡ start

-- the functions like a chosen one: those of the same start and symbols
abbrev pub those_like : Chosen → Asked
those_like (Proc q) = asked.Procedure q.offset q.symbol_index q.end_symbol_index
those_like (Public f) = asked.Public f.start_offset

-- the functions in which a part fails that fails in a chosen one: where the part is line program
-- and inlinees, all of the module
abbrev pub those_failing : Chosen → Part → Asked
those_failing c (parts.ExtendedModule m) = asked.Module
those_failing c (parts.ProcedureLines m start) = those_like c
those_failing c (parts.ProcedureInlineRanges m start) = those_like c

-- The part is the first that can't be read in each function that the failure is about, from the
-- data of modules.
pub record IsFailureOf (own : ℕ → Option ModuleData) (known : KnownFailure) : Type 0 where
  pub each : (c : Chosen) → IsAbout known.asked c
      → failing_in known.module_index (own known.module_index) c ≡ Some known.part

-- All known failures are true.
pub record AreFailuresOf (own : ℕ → Option ModuleData) (known : KnownFailures) : Type 0 where
  pub each : (n : ℕ) (one : KnownFailure) → get nat_cmp known.by_number n ≡ Some one
      → IsFailureOf own one

-- A part, if one is given, is the first that can't be read in a chosen function of the module with
-- that index, where all known failures are true.
abbrev pub IsKnownIn : KnownFailures → ℕ → Chosen → Option Part → Type 0
IsKnownIn known m c result = (own : ℕ → Option ModuleData) → AreFailuresOf own known
    → IfSome result (λ part. failing_in m (own m) c ≡ Some part)

-- Known failures stay true, where this part is the first that can't be read in a chosen function of
-- the module with that index.
abbrev pub StayFailuresWith : ℕ → Chosen → Part → KnownFailures → KnownFailures → Type 0
StayFailuresWith m c part old new = (own : ℕ → Option ModuleData)
    → failing_in m (own m) c ≡ Some part → AreFailuresOf own old → AreFailuresOf own new

-- the data of the module with that index, from the provider of modules, and the list of modules
abbrev pub data_among : {P : Type 0} → (P → Provided) → P → Formatting P → ℕ → Option ModuleData
data_among provided provider f n = module_data (own_of (provided provider) (entries_of f) n)

-- the same, which proofs open where they need it

unfoldable pub data_of_modules :
    {P : Type 0} → (P → Provided) → P → Formatting P → ℕ → Option ModuleData
data_of_modules provided provider f n = data_among provided provider f n
