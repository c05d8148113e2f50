-- The records that identify a symbol file's database and its image.
use Rattle.std.specs.Prelude.{◌≡◌, ℕ, Result, Err, option_copied}
use Rattle.pdb_loading.specs.declared.load_fault.LoadFault.TheVariants as faults
use Rattle.pdb_symbols.specs.declared.fault.SymbolsFault.{SymbolsFault}
use Rattle.pdb_symbols.specs.declared.fault.SymbolsFault.TheVariants as ends
use Rattle.pdb_symbols.specs.declared.options.Options.{Options}
use Rattle.pdb_symbols.specs.SymbolFile.{Asked, Refusal}
use Rattle.pdb_symbols.specs.SymbolFile.{ImageFault, ImageNamesNoPdb, OtherBuild}
use Rattle.pdb_symbols_modules.specs.declared.machine.MachineType.{MachineType}
use Rattle.pdb_symbols_modules.specs.declared.machine.MachineType.TheVariants as machines

-- the paths that options name, and whether they ask for inlined calls
abbrev pub asked_of : Options → Asked
asked_of o = record {
  path = o.file.now;
  image_path = option_copied o.image;
  inlines = o.inlines;
}

-- the number of a machine (IMAGE_FILE_MACHINE_*), of the machines that records name
abbrev pub machine_number : MachineType → ℕ
machine_number machines.Amd64 = 0x8664
machine_number machines.Arm64 = 0xaa64
machine_number (machines.Other n) = n
machine_number machine = 0

-- The image is refused so, or memory is short.
abbrev pub RefusesImage : {A : Type 0} → SymbolsFault → Result A Refusal → Type 0
RefusesImage (ends.Load faults.OutOfMemory) image = Unit {0}
RefusesImage (ends.Image e) image = image ≡ Err (ImageFault e)
RefusesImage ends.ImageNamesNoPdb image = image ≡ Err ImageNamesNoPdb
RefusesImage ends.OtherBuild image = image ≡ Err OtherBuild
RefusesImage e image = ⊥
