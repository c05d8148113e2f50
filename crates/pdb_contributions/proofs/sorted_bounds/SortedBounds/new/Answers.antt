use Rattle.std.proofs.lemmas.List.Sorted.{IsNonDecreasingBy-from_sort}
use Rattle.pdb_contributions.proofs.sorted_bounds.SortedBounds.new.Goals as goal

pub invariant_of-result : goal.invariant_of-result
invariant_of-result c =
    IsNonDecreasingBy-from_sort (λ n. n) c.sort_unstable.new.self.items
    c.sort_unstable.ensures.sorted

pub returns : goal.returns
returns c = record {
  same = c.sort_unstable.ensures.permutation;
  rise = invariant_of-result c;
}
