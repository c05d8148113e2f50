use Rattle.std.proofs.Common.{◌≡◌, ◌-◌}
use Rattle.pdb_symbol_files.specs.Reading.{after_fields}
use Rattle.pdb_symbols.proofs.undecorated.after_fields.Given as goal

abbrev pub invariant-loop : goal.invariant-loop
invariant-loop l = after_fields (l.count - l.counter) l.rest ≡ after_fields l.count l.line
