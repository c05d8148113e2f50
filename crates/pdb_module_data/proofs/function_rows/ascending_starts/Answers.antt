use Rattle.std.proofs.Common.{List, ℕ, subst}
use Rattle.std.specs.List.Sorted.{IsPermutation}
use Rattle.std.proofs.lemmas.List.Sorted.{IsNonDecreasingBy-from_sort}
use Rattle.pdb_module_data.proofs.function_rows.ascending_starts.Goals as goal

pub returns : goal.returns
returns c =
    let ascending = c.sort_unstable.new.self.items in
    record {
      same = subst (λ (starts : List ℕ). IsPermutation starts ascending) c.in_ok-starts.ensures
          c.sort_unstable.ensures.permutation;
      rise = IsNonDecreasingBy-from_sort (λ n. n) ascending c.sort_unstable.ensures.sorted;
    }
