use Rattle.std.proofs.Common.{◌≡◌, ◌-◌, length}
use Rattle.pdb_container.specs.Buffer.{rest}
use Rattle.pdb_container.specs.Fields.{entries_within}
use Rattle.pdb_container.proofs.Entries.{entries_front}
use Rattle.pdb_container.proofs.entry_list.parse_entries.Given as goal

-- what was read, and what is still read, are the entries
abbrev pub invariant-loop : goal.invariant-loop
invariant-loop g l = entries_front l.read.items (entries_within g.T.FromBuffer.read (length l.bytes - l.counter) (rest l.buffer)) ≡ entries_within g.T.FromBuffer.read (length l.bytes) l.bytes
