use Rattle.std.specs.Prelude.{◌≡◌, ◌-◌}
use Rattle.pdb_container.specs.Buffer.{rest}
use Rattle.pdb_container.specs.RecordFields.{many_at}
use Rattle.pdb_symbols_modules.specs.Information.{stream_name_at}
use Rattle.pdb_symbols_modules.proofs.NameLemmas.{names_front}
use Rattle.pdb_symbols_modules.proofs.information.parse_names.Given as goal

abbrev pub invariant-loop : goal.invariant-loop
invariant-loop l = names_front l.entries.items
    (many_at (stream_name_at l.names) (l.count - l.counter) (rest l.buffer))
    ≡ many_at (stream_name_at l.names) l.count (rest l.fn.buffer)
