-- What was read, and what is still read, is the whole.
use Rattle.std.proofs.Common.{◌≡◌, ◌-◌, map}
use Rattle.pdb_container.specs.Buffer.{rest}
use Rattle.pdb_container.specs.Fields.{entries_within}
use Rattle.pdb_container.proofs.Entries.{entries_front}
use Rattle.pdb_subsections.specs.Imports.{import_at, import_in, imports_of}
use Rattle.pdb_subsections.proofs.imports.parse_modules.Given as goal

abbrev pub invariant-loop : goal.invariant-loop
invariant-loop l = entries_front (map import_in l.modules.items)
    (entries_within import_at (l.end - l.counter) (rest l.buffer)) ≡ imports_of l.fn.bytes
