use Rattle.std.proofs.Common.{◌≡◌, length}
use Rattle.pdb_symbol_records.specs.Iteration.{symbols_left}
use Rattle.pdb_contributions.specs.Publics.{entries_read}
use Rattle.pdb_contributions.proofs.PublicSteps.{entries_front}
use Rattle.pdb_contributions.proofs.public_entries.read_public_symbols.Given as goal

-- the entries so far, before those of the symbols that are still to come
abbrev pub invariant-loop-functions : goal.invariant-loop-functions
invariant-loop-functions l = entries_front l.functions.items
    (entries_read l.sections (symbols_left l.symbols))
    ≡ entries_read l.fn.sections (symbols_left l.fn.symbols)

abbrev pub decreases-loop-functions : goal.decreases-loop-functions
decreases-loop-functions l = length (symbols_left l.symbols).items
