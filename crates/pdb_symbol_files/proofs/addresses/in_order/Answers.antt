use Rattle.std.proofs.Common.{rules, sym}
use Rattle.std.proofs.lemmas.List.Sorted.{All-permutation, IsNonDecreasingBy-from_sort_by_key}
use Rattle.std.proofs.lemmas.List.Sorted.{list_any-IsPermutation}
use Rattle.pdb_symbol_files.specs.Code.{is_within, LiesBetween, start_of}
use Rattle.pdb_symbol_files.proofs.addresses.in_order.Goals as goal

pub returns-clause-order : goal.returns-clause-order
returns-clause-order c =
    IsNonDecreasingBy-from_sort_by_key start_of _ c.sort_unstable_by_key.ensures.sorted
    (λ a r q k. search rules)

pub returns-clause-same : goal.returns-clause-same
returns-clause-same c =
    λ address. sym (list_any-IsPermutation (is_within address) c.args.ranges.items
    c.sort_unstable_by_key.new.self.items c.sort_unstable_by_key.ensures.permutation)

pub returns-clause-bounds : goal.returns-clause-bounds
returns-clause-bounds c =
    λ test. All-permutation (LiesBetween test) c.args.ranges.items
    c.sort_unstable_by_key.new.self.items c.sort_unstable_by_key.ensures.permutation
