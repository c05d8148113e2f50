use Rattle.std.proofs.Common.{rules, leb, get_or}
use Rattle.std.proofs.lemmas.Bool.{leb-true, leb-false}
use Rattle.std.proofs.lemmas.List.Sorted.{IsPartitionPoint-from_clause, IsPartitionedBy-leb}
use Rattle.pdb_addresses.proofs.section_list.passed.Goals as goal

pub returns-clause-low : goal.returns-clause-low
returns-clause-low c = λ k d low high.
    leb-true (get_or c.args.numbers.now k d) c.args.address
    ((IsPartitionPoint-from_clause (λ number. leb number c.args.address) _ _
    c.partition_point.ensures.partitioned
    (IsPartitionedBy-leb (λ number. number) _ c.args.address c.requires)
    (λ a r f' k. search rules)).0 k d low high)

pub returns-clause-high : goal.returns-clause-high
returns-clause-high c = λ k d low high.
    leb-false (get_or c.args.numbers.now k d) c.args.address
    ((IsPartitionPoint-from_clause (λ number. leb number c.args.address) _ _
    c.partition_point.ensures.partitioned
    (IsPartitionedBy-leb (λ number. number) _ c.args.address c.requires)
    (λ a r f' k. search rules)).1 k d low high)
