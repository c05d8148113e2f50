use Rattle.pdb_addr2line.specs.Answer.{answered_in, database_in, frames_in}
use Rattle.pdb_owners.specs.Databases.{place_of}
use Rattle.pdb_symbols.proofs.ToldSteps.{ends_at_bound, frames_run}
use Rattle.pdb_symbols.proofs.told_places.told_at_place.Goals as goal

pub returns-clause-ends : goal.returns-clause-ends
returns-clause-ends c =
    ends_at_bound (database_in answered_in c.args.context.now)
    (frames_in answered_in c.args.context.now) (place_of c.args.place) c.args.limit
    c.in_ok-start.of_function c.in_ok-found.count c.min.result c.in_ok-start.ensures.count
    (frames_run c.args.context.now c.start_run.new.context (place_of c.args.place) c.args.limit
    c.in_ok-found.count c.start_run.ensures.same c.in_ok-found.ensures.count)
    c.min.ensures
