use Rattle.std.proofs.Common.{◌≡◌, ◌-◌, map}
use Rattle.pdb_container.specs.Buffer.{rest}
use Rattle.pdb_records.specs.Shapes.{plain_shape}
use Rattle.pdb_records.specs.TypeLeaves.{fields_within, field_list_of}
use Rattle.pdb_records.proofs.parse_record.parse_field_list.Given as goal

-- what was read, and what is still read, are the members
abbrev pub invariant-loop : goal.invariant-loop
invariant-loop l = fields_within (l.count - l.counter) (map plain_shape l.fields.items)
    l.continuation (rest l.buffer) ≡ field_list_of (rest l.initial.buffer)
