use Rattle.std.proofs.Common.{◌≡◌, ◌-◌, length}
use Rattle.pdb_symbol_records.specs.Symbols.{next}
use Rattle.pdb_symbol_records.proofs.symbol_iter.next_symbol.Given as goal

-- what is found from here on is what is found from the start on
abbrev pub invariant-loop-place : goal.invariant-loop-place
invariant-loop-place l = next l.bytes l.place ≡ next l.bytes l.start

abbrev pub decreases-loop-place : goal.decreases-loop-place
decreases-loop-place l = length l.bytes - l.place
