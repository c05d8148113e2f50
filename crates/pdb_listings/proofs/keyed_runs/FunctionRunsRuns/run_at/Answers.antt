use Rattle.std.proofs.Common.{ap}
use Rattle.pdb_addr2line.specs.ContextAnswers.{keyed_in}
use Rattle.pdb_listings.proofs.keyed_runs.FunctionRunsRuns.run_at.Goals as goal

pub returns-clause-same : goal.returns-clause-same
returns-clause-same g c = ap (keyed_in g.P.ModuleProvider.provided) c.find_key_run.ensures.same
