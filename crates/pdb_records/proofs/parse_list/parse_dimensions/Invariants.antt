use Rattle.std.proofs.Common.{◌≡◌, ◌-◌}
use Rattle.pdb_container.specs.Buffer.{rest}
use Rattle.pdb_records.specs.TypeRecords.{dimensions_within, dimensions_at}
use Rattle.pdb_container.proofs.Many.{many_front}
use Rattle.pdb_records.proofs.parse_list.parse_dimensions.Given as goal

-- what was read, and what is still read, are the sizes
abbrev pub invariant-loop : goal.invariant-loop
invariant-loop l = many_front l.dimensions.items
    (dimensions_within (l.count - l.counter) (rest l.buffer))
    ≡ dimensions_at (rest l.initial.buffer)
