use Rattle.std.proofs.Common.{rules, leb, get_or}
use Rattle.std.proofs.lemmas.Bool.{leb-true, leb-false}
use Rattle.std.proofs.lemmas.List.Sorted.{IsPartitionPoint-from_clause, IsPartitionedBy-leb}
use Rattle.pdb_addresses.specs.Omap.{source}
use Rattle.pdb_addresses.proofs.OmapLemmas.{number_is}
use Rattle.pdb_addresses.proofs.omap.last_number.Goals as goal

pub returns-clause-number : goal.returns-clause-number
returns-clause-number c =
    number_is c.args.records.now c.args.address c.partition_point.result
    c.partition_point.ensures.bound
    (IsPartitionPoint-from_clause (λ r. leb (source r) c.args.address) _ _
    c.partition_point.ensures.partitioned
    (IsPartitionedBy-leb source _ c.args.address c.requires) (λ a r f' k. search rules))

pub returns-clause-low : goal.returns-clause-low
returns-clause-low c = λ k d low high.
    leb-true (source (get_or c.args.records.now k d)) c.args.address
    ((IsPartitionPoint-from_clause (λ r. leb (source r) c.args.address) _ _
    c.partition_point.ensures.partitioned
    (IsPartitionedBy-leb source _ c.args.address c.requires) (λ a r f' k. search rules)).0
    k d low high)

pub returns-clause-high : goal.returns-clause-high
returns-clause-high c = λ k d low high.
    leb-false (source (get_or c.args.records.now k d)) c.args.address
    ((IsPartitionPoint-from_clause (λ r. leb (source r) c.args.address) _ _
    c.partition_point.ensures.partitioned
    (IsPartitionedBy-leb source _ c.args.address c.requires) (λ a r f' k. search rules)).1
    k d low high)
