use Rattle.std.proofs.Common.{◌≡◌, ◌+◌, ◌≤◌, length}
use Rattle.pdb_owners.proofs.ResolveLemmas.{IsResolving}
use Rattle.pdb_owners.proofs.sizes.resolve.Given as goal

-- what came to the counts and what is left of the keys are the whole
abbrev pub invariant-loop-key : goal.invariant-loop-key
invariant-loop-key g l =
    let keyed = g.R.Runs.keyed in
    let lookups = g.R.Runs.lookups in
    record {
      resolving : IsResolving (keyed l.fn.runs).answer_of l.keys l.key-iterator l.counts;
      lookups : lookups l.runs ≡ lookups l.fn.runs;
      answered : g.R.Runs.answered l.runs + length l.key-iterator ≤ g.R.Runs.answered l.fn.runs + length l.keys;
      same : keyed l.runs ≡ keyed l.fn.runs;
    }
