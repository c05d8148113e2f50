use Rattle.std.proofs.Common.{◌≡◌, ℕ, ◌+◌, ◌≤◌, Bool, true, false, List}
use Rattle.pdb_owners.specs.Table.{sum_found, sum_of, sum_where}
use Rattle.pdb_listings.specs.NamedSizes.{named}
use Rattle.pdb_listings.proofs.owner_sizes.name_answers.Given as goal

-- the bytes so far, and those of the keys that are left, are all
abbrev pub invariant-loop-key : goal.invariant-loop-key
invariant-loop-key g l =
    let keyed = g.R.Runs.keyed in
    let found = (keyed l.fn.runs).answer_of in
    let name = g.N.Naming.name l.naming in
    record {
      each : g.N.Naming.unsaid l.naming ≡ false → (test : List ℕ → Bool)
          → sum_where test l.table + sum_found found (named name test) l.key-iterator
          ≡ sum_found found (named name test) l.keys;
      total : sum_of l.table + sum_found found (λ _. true) l.key-iterator
          ≡ sum_found found (λ _. true) l.keys;
      room : sum_of l.table + sum_of l.key-iterator ≤ sum_of l.keys;
      same : keyed l.runs ≡ keyed l.fn.runs;
    }
