use Rattle.std.proofs.Common.{rules, not}
use Rattle.std.proofs.lemmas.List.Sorted.{IsPartitionPoint-from_clause}
use Rattle.pdb_contributions.specs.Publics.{is_before}
use Rattle.pdb_contributions.proofs.Lookup.{front_first, split_of}
use Rattle.pdb_contributions.proofs.public_list.count_up_to.Goals as goal

pub returns : goal.returns
returns c =
    split_of c.args.functions.now c.args.place c.partition_point.result
    c.partition_point.ensures.bound
    (IsPartitionPoint-from_clause (λ f. not (is_before c.args.place f.start_offset)) _ _
    c.partition_point.ensures.partitioned
    (front_first _ c.args.place c.requires) (λ a r f' k. search rules))
