use Rattle.std.proofs.Common.{rules}
use Rattle.std.proofs.lemmas.List.Sorted.{IsNonDecreasingBy-from_sort_by_key}
use Rattle.pdb_listings.specs.Sizes.{lack_of}
use Rattle.pdb_listings.proofs.sizes.largest_first.Goals as goal

pub returns-clause-order : goal.returns-clause-order
returns-clause-order c = IsNonDecreasingBy-from_sort_by_key lack_of _
    c.in_ok-sort_by_key.ensures.sorted (λ a r q k. search rules)
