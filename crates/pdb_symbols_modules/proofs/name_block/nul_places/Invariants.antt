use Rattle.std.proofs.Common.{◌≡◌, ◌++◌, drop}
use Rattle.pdb_symbols_modules.specs.NameBlock.{nul_places}
use Rattle.pdb_symbols_modules.proofs.name_block.nul_places.Given as goal

-- the places so far, and those of the bytes that are left
abbrev pub invariant-loop-place : goal.invariant-loop-place
invariant-loop-place l = l.places.items ++ nul_places l.place (drop l.place l.bytes)
    ≡ nul_places 0 l.bytes
