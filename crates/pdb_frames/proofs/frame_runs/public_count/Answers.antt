use Rattle.std.proofs.Common.{Ok, sym, ap, ◌∙◌}
use Rattle.pdb_container.specs.Fault.{◌>>=◌}
use Rattle.pdb_frames.specs.FrameRuns.{count_if_read}
use Rattle.pdb_known_modules.specs.Seen.{extended_seen}
use Rattle.pdb_module_data.specs.FunctionLine.{row_starts}
use Rattle.pdb_resolving.specs.Fault.{lifted}
use Rattle.pdb_frames.proofs.frame_runs.public_count.Goals as goal

-- what is lent are the function's rows
pub returns-in-Some : goal.returns-in-Some
returns-in-Some g c =
    let s = c.args.stretch in
    let lent = c.in-Some.ensures (extended_seen c.args.extended.now) c.requires in
    ap (λ rows. count_if_read (lifted rows >>= λ rows. Ok (row_starts rows)) s.place.offset s.far)
    lent
    ∙ ap Ok (sym c.to_next_start.ensures)
