-- The part that can't be read, of the parts from which the frames in a chosen function are made.
use Rattle.std.specs.Prelude.{◌≡◌, ℕ, Option}
use Rattle.pdb_frames.specs.ChosenSeen.{chosen_seen}
use Rattle.pdb_frames.specs.FailingParts.{failing_by, failing_in, failing_procedure, failing_sites}
use Rattle.pdb_frames.specs.declared.choice.Chosen.{Chosen}
use Rattle.pdb_known_modules.specs.KnownModules.{ModuleData, extended_of}
use Rattle.pdb_known_modules.specs.Seen.{extended_seen}
use Rattle.pdb_known_modules.specs.declared.modules.ExtendedModuleInfo.{ExtendedModuleInfo}
use Rattle.pdb_resolving.specs.declared.failures.Part.{Part}
use Rattle.pdb_symbols_modules.specs.ModuleStream.{ModuleStream}

-- the part is the procedure's sites, where they can't be read
abbrev pub IsFailingSites : ℕ → ModuleStream → Chosen → Option Part → Type 0
IsFailingSites m stream c part = part ≡ failing_sites m stream (chosen_seen c)

-- the part is the first that can't be read: the rows of the function, or then its sites
abbrev pub IsFailingProcedure :
    ℕ → ModuleStream → ExtendedModuleInfo → Chosen → Option Part → Type 0
IsFailingProcedure m stream extended c part =
    part ≡ failing_procedure m stream (extended_seen extended) (chosen_seen c)

-- the part is the first that can't be read: line program with inlinees, the rows of the function,
-- or its sites
abbrev pub IsFailingInStream : ℕ → ModuleStream → Chosen → Option Part → Type 0
IsFailingInStream m stream c part =
    part ≡ failing_by m stream (chosen_seen c) (extended_of stream)

-- the same from the module's data; without data there is none
abbrev pub IsFailing : ℕ → Option ModuleData → Chosen → Option Part → Type 0
IsFailing m known c part = part ≡ failing_in m known (chosen_seen c)
