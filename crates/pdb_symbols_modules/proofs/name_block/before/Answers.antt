use Rattle.std.proofs.Common.{rules, ltb, get_or}
use Rattle.std.proofs.lemmas.Bool.{ltb-true, ltb-false}
use Rattle.std.proofs.lemmas.List.Sorted.{IsPartitionPoint-from_clause, IsPartitionedBy-ltb}
use Rattle.pdb_symbols_modules.proofs.name_block.before.Goals as goal

pub returns-clause-low : goal.returns-clause-low
returns-clause-low c = λ k d low high.
    ltb-true (get_or c.args.places.now k d) c.args.offset
    ((IsPartitionPoint-from_clause (λ place. ltb place c.args.offset) _ _
    c.partition_point.ensures.partitioned
    (IsPartitionedBy-ltb (λ place. place) _ c.args.offset c.requires) (λ a r f' k. search rules)).0
    k d low high)

pub returns-clause-high : goal.returns-clause-high
returns-clause-high c = λ k d low high.
    ltb-false (get_or c.args.places.now k d) c.args.offset
    ((IsPartitionPoint-from_clause (λ place. ltb place c.args.offset) _ _
    c.partition_point.ensures.partitioned
    (IsPartitionedBy-ltb (λ place. place) _ c.args.offset c.requires) (λ a r f' k. search rules)).1
    k d low high)
