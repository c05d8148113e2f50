use Rattle.pdb_known_modules.specs.Seen.{extended_seen}
use Rattle.pdb_frames.proofs.ProcedureSteps.{row_and_calls_are}
use Rattle.pdb_frames.proofs.frames.procedure_row_and_calls.Goals as goal

-- what is lent is the procedure's
pub row_and_calls_by-requires : goal.row_and_calls_by-requires
row_and_calls_by-requires g c = (c.in-Some.ensures (extended_seen c.args.extended.now) c.requires).stand

pub returns-in-Some : goal.returns-in-Some
returns-in-Some g c =
    let lent = c.in-Some.ensures (extended_seen c.args.extended.now) c.requires in
    let found = row_and_calls_are c.args.known.now.stream (extended_seen c.args.extended.now) c.args.procedure.now c.args.place c.in-Some.read.rows.now c.in-Some.read.ranges.now.sites lent.read in
    rw (c.in_ok-found.ensures.row, c.in_ok-found.ensures.calls) found
