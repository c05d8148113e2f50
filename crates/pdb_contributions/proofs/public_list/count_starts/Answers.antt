use Rattle.std.proofs.Common.{rules, not}
use Rattle.std.proofs.lemmas.List.Sorted.{IsPartitionPoint-from_clause}
use Rattle.pdb_contributions.specs.Publics.{is_before}
use Rattle.pdb_contributions.proofs.Lookup.{starts_first, starts_split}
use Rattle.pdb_contributions.proofs.public_list.count_starts.Goals as goal

pub returns : goal.returns
returns c =
    starts_split c.args.starts.now c.args.place c.partition_point.result
    c.partition_point.ensures.bound
    (IsPartitionPoint-from_clause (λ start. not (is_before c.args.place start)) _ _
    c.partition_point.ensures.partitioned
    (starts_first _ c.args.place c.requires) (λ a r f' k. search rules))
