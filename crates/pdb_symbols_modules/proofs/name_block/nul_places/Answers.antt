use Rattle.std.proofs.Common.{arith}
use Rattle.pdb_symbols_modules.specs.NameBlock.{nul_places}
use Rattle.pdb_symbols_modules.proofs.NulPlaces.{places_done}
use Rattle.pdb_symbols_modules.proofs.name_block.nul_places.Goals as goal

pub returns : goal.returns
returns c =
    places_done c.args.bytes.now c.loop-place.places.items (nul_places 0 c.args.bytes.now)
    c.loop-place.place (omega (arith, c.loop-place-test.false)) c.loop-place.invariant
