-- The data that were read of a module, as the definitions see them.
use Rattle.std.specs.Prelude.{◌≡◌, Option, None, Some, Ok}
use Rattle.std.specs.Borrow.{Bor}
use Rattle.pdb_module_data.specs.InlinedCalls.{given_by}
use Rattle.pdb_symbols_modules.specs.ModuleStream.{ModuleStream}
use Rattle.pdb_known_modules.specs.KnownModules.{ExtendedModule, extended_of}
use Rattle.pdb_known_modules.specs.declared.modules.ExtendedModuleInfo.{ExtendedModuleInfo}

-- the line program and the inlined functions, as they were read
abbrev pub extended_seen : ExtendedModuleInfo → ExtendedModule
extended_seen m = record { program = m.line_program; inlinees = given_by m.inlinees }

-- the cached line program and inlinees of a stream, if there are any, are the stream's
abbrev pub AreExtended : ModuleStream → Option ExtendedModuleInfo → Type 0
AreExtended stream None = Unit {0}
AreExtended stream (Some m) = extended_of stream ≡ Ok (extended_seen m)

-- the lent line program and inlinees of a stream, if there are any, are the stream's
abbrev pub AreExtendedHere : ModuleStream → Option (Bor ExtendedModuleInfo) → Type 0
AreExtendedHere stream None = Unit {0}
AreExtendedHere stream (Some m) = extended_of stream ≡ Ok (extended_seen m.now)
