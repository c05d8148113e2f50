use Rattle.std.proofs.Common.{◌≡◌, ℕ, ◌+◌, ◌<◌, subst}
use Rattle.std.specs.Prelude.{Option, option_map}
use Rattle.pdb_addresses.specs.SectionRun.{place_on}
use Rattle.pdb_addresses.specs.declared.internal_section_offset.PdbInternalSectionOffset.{PdbInternalSectionOffset}
use Rattle.pdb_owners.specs.Databases.{place_of}
use Rattle.pdb_listings.specs.Runs.{counted_place}
use Rattle.pdb_listings.proofs.Lines.{run_line}
use Rattle.pdb_listings.proofs.line_runs.line_run.Goals as goal

pub returns-clause-each : goal.returns-clause-each
returns-clause-each g c same =
    let along = subst (λ (p : Option PdbInternalSectionOffset). (k : ℕ) → k < c.counted_run-place.result.1
    → counted_place c.args.map.now (c.args.address + k) ≡ place_on k (option_map place_of p))
    c.in-Some.is c.counted_run-place.ensures.along in
    run_line g.P.ModuleProvider.provided c.args.context.now c.args.map.now c.args.address c.counted_run-place.result.1
    c.in-Ok.count c.in-Some.place _ c.in_ok-innermost_line.field-0 same along c.in-Ok.ensures.count
    c.in-Ok.ensures.frames c.in_ok-innermost_line.ensures
