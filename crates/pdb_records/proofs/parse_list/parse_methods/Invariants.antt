use Rattle.std.proofs.Common.{◌≡◌, ◌-◌, length}
use Rattle.pdb_container.specs.Buffer.{rest}
use Rattle.pdb_container.specs.Fields.{entries_within}
use Rattle.pdb_container.proofs.Entries.{entries_front}
use Rattle.pdb_records.specs.TypeRecords.{method_list_entry_at}
use Rattle.pdb_records.proofs.parse_list.parse_methods.Given as goal

-- what was read, and what is still read, are the entries
abbrev pub invariant-loop : goal.invariant-loop
invariant-loop l = entries_front l.methods.items
    (entries_within method_list_entry_at (length l.bytes - l.counter) (rest l.buffer))
    ≡ entries_within method_list_entry_at (length l.bytes) l.bytes
