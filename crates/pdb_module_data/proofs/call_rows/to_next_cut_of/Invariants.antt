use Rattle.std.proofs.Common.{◌≡◌, drop}
use Rattle.pdb_addresses.specs.SectionRun.{up_to_next}
use Rattle.pdb_module_data.specs.InlinePieces.{cuts_of}
use Rattle.pdb_module_data.proofs.call_rows.to_next_cut_of.Given as goal

-- the rows left, from the nearest cut so far, are as all rows
abbrev pub invariant-loop-row : goal.invariant-loop-row
invariant-loop-row l =
    up_to_next (cuts_of (drop l.row-index l.rows)) l.offset l.nearest ≡ up_to_next (cuts_of l.rows) l.offset l.far
