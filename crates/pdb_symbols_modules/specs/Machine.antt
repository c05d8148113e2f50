-- Machine types by their numbers.
-- The numbers are IMAGE_FILE_MACHINE_* of the PE format.
use Rattle.std.specs.Prelude.{ℕ, ◌==◌, if◌then◌else◌}
use Rattle.pdb_symbols_modules.specs.declared.machine.MachineType.{MachineType}
use Rattle.pdb_symbols_modules.specs.declared.machine.MachineType.TheVariants as machines

-- the machine with that number (IMAGE_FILE_MACHINE_*): one of the five whose pointers do not have 4
-- bytes, or another
abbrev pub machine_of : ℕ → MachineType
machine_of n =
    if n == 0x8664 then machines.Amd64 else (if n == 0xaa64 then machines.Arm64
    else (if n == 0x200 then machines.Ia64 else (if n == 0x5064 then machines.RiscV64
    else (if n == 0x5128 then machines.RiscV128 else machines.Other n))))
