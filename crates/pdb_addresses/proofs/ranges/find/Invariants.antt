use Rattle.std.proofs.Common.{◌≡◌, ◌+◌, ◌-◌}
use Rattle.pdb_addresses.specs.Cursor.{IsAt, left_of}
use Rattle.pdb_addresses.specs.Omap.{records_of}
use Rattle.pdb_addresses.specs.Ranges.{runs}
use Rattle.pdb_addresses.proofs.ranges.find.Given as goal

-- nothing came of the addresses so far
abbrev pub invariant-loop-cursor : goal.invariant-loop-cursor
invariant-loop-cursor l = IsAt (records_of l.omap) l.cursor.number l.cursor.address
    × (runs (records_of l.omap) l.cursor.address l.end
    ≡ runs (records_of l.omap) l.fn.at.address l.end)

abbrev pub decreases-loop-cursor : goal.decreases-loop-cursor
decreases-loop-cursor l = left_of (records_of l.omap) l.cursor.number + (l.end - l.cursor.address)
