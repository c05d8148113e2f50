use Rattle.std.proofs.Common.{◌≡◌, ◌-◌}
use Rattle.pdb_container.specs.Buffer.{rest}
use Rattle.pdb_container.specs.RecordFields.{many_at}
use Rattle.pdb_container.proofs.Many.{many_front}
use Rattle.pdb_container.proofs.record_fields.parse_many.Given as goal

-- what was read, and what is still to be read, are that many values
abbrev pub invariant-loop : goal.invariant-loop
invariant-loop g l = many_front l.values.items
    (many_at g.T.FromBuffer.read (l.count - l.counter) (rest l.buffer))
    ≡ many_at g.T.FromBuffer.read l.count (rest l.initial.buffer)
