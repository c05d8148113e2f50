use Rattle.std.proofs.Common.{rules, leb, get_or}
use Rattle.std.proofs.lemmas.Bool.{leb-true, leb-false}
use Rattle.std.proofs.lemmas.List.Sorted.{IsPartitionPoint-from_clause, IsPartitionedBy-leb}
use Rattle.pdb_lines.specs.LinesSubsections.{rank}
use Rattle.pdb_lines.proofs.line_program.number_at.Goals as goal

pub returns-clause-low : goal.returns-clause-low
returns-clause-low c = λ k d low high.
    leb-true (rank (get_or c.args.subsections.now k d)) c.args.at
    ((IsPartitionPoint-from_clause (λ r. leb (rank r) c.args.at) _ _
    c.partition_point.ensures.partitioned (IsPartitionedBy-leb rank _ c.args.at c.requires)
    (λ a r q k. search rules)).0 k d low high)

pub returns-clause-high : goal.returns-clause-high
returns-clause-high c = λ k d low high.
    leb-false (rank (get_or c.args.subsections.now k d)) c.args.at
    ((IsPartitionPoint-from_clause (λ r. leb (rank r) c.args.at) _ _
    c.partition_point.ensures.partitioned (IsPartitionedBy-leb rank _ c.args.at c.requires)
    (λ a r q k. search rules)).1 k d low high)
