use Rattle.std.proofs.Common.{Ok, sym, ap, ◌∙◌}
use Rattle.pdb_frames.specs.FileRuns.{run_if_read}
use Rattle.pdb_known_modules.specs.Seen.{extended_seen}
use Rattle.pdb_resolving.specs.Fault.{lifted}
use Rattle.pdb_frames.proofs.file_runs.public_run.Goals as goal

-- what is lent are the function's rows
pub returns-in-Some : goal.returns-in-Some
returns-in-Some g c =
    let s = c.args.stretch in
    let program = (extended_seen c.args.extended.now).program in
    let lent = c.in-Some.ensures (extended_seen c.args.extended.now) c.requires in
    ap (λ rows. run_if_read program s.place s.far (lifted rows)) lent
    ∙ ap Ok (sym c.run_by_rows.ensures)
