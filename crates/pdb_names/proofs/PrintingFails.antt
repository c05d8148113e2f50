-- What a printing that stopped says of its text.
use Rattle.std.proofs.Common.{◌≡◌, ap}
use Rattle.pdb_container.specs.declared.error.Error.TheVariants as causes
use Rattle.pdb_resolving.specs.declared.error.Error.TheVariants as errors
use Rattle.pdb_resolving.specs.declared.stop.Stop.{Stop}
use Rattle.pdb_resolving.specs.declared.stop.Stop.TheVariants as stops
use Rattle.pdb_resolving.specs.Cause.{Ends}
use Rattle.pdb_type_printing.specs.Printed.{Text, Printed, Stops, answered}

-- a printing that stopped is answered by what stopped it
pub stops_ends : (s : Stop) (w : Text) (p : Printed) → Stops s w p → Ends s (answered p)
stops_ends (stops.ByError errors.OutOfMemory) w p h = tt
stops_ends (stops.ByError (errors.PdbError causes.OutOfMemory)) w p h = h
stops_ends (stops.ByError (errors.FormatError cause)) w p h = h
stops_ends (stops.ByError e) w p h = ap answered h
stops_ends (stops.ByTable table e) w p h = (h.0, ap answered h.1)
