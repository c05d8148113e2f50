use Rattle.std.proofs.Common.{◌++◌, Ok, sym, ap, ◌∙◌}
use Rattle.pdb_addresses.specs.SectionRun.{up_to_next}
use Rattle.pdb_container.specs.Fault.{◌>>=◌}
use Rattle.pdb_frames.specs.FrameRuns.{count_if_read, procedure_cuts}
use Rattle.pdb_known_modules.specs.Seen.{extended_seen}
use Rattle.pdb_module_data.specs.FunctionLine.{row_starts}
use Rattle.pdb_module_data.specs.InlinePieces.{cuts_of}
use Rattle.pdb_frames.proofs.frame_runs.procedure_count.Goals as goal

-- what is lent is the procedure's
pub returns-in-Some : goal.returns-in-Some
returns-in-Some g c =
    let s = c.args.stretch in
    let extended = extended_seen c.args.extended.now in
    let lent = c.in-Some.ensures extended c.requires in
    let starts = row_starts c.in-Some.read.rows.now in
    ap (λ read. count_if_read (read >>= λ both. Ok (procedure_cuts extended.inlinees
    c.args.procedure.now both)) s.place.offset s.far) lent.read
    ∙ ap (λ rows. Ok (up_to_next (starts ++ cuts_of rows) s.place.offset s.far))
    (sym lent.stand.kept)
    ∙ ap Ok (sym c.procedure_count_by.ensures)
