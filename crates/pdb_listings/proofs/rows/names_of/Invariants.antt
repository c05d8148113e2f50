use Rattle.std.proofs.Common.{◌≡◌, map, take}
use Rattle.pdb_listings.specs.Rows.{name_field}
use Rattle.pdb_listings.proofs.rows.names_of.Given as goal

-- the names of the columns so far
abbrev pub invariant-loop-column : goal.invariant-loop-column
invariant-loop-column l = l.names.items ≡ map name_field (take l.column-index l.columns)
