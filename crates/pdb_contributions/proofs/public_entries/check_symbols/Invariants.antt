use Rattle.std.proofs.Common.{◌≡◌, length}
use Rattle.pdb_symbol_records.specs.Iteration.{symbols_left}
use Rattle.pdb_contributions.specs.Publics.{are_whole}
use Rattle.pdb_contributions.proofs.public_entries.check_symbols.Given as goal

-- the symbols that are still to come end as all do
abbrev pub invariant-loop : goal.invariant-loop
invariant-loop l = are_whole (symbols_left l.symbols) ≡ are_whole (symbols_left l.fn.symbols)

abbrev pub decreases-loop : goal.decreases-loop
decreases-loop l = length (symbols_left l.symbols).items
