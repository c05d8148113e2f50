use Rattle.std.specs.Prelude.{length}
use Rattle.pdb_symbol_records.specs.Iteration.{symbols_left}
use Rattle.example_calls.proofs.list_lines.list_procedures.Given as goal

-- each step gives one of the symbols that are still to come
abbrev pub decreases-loop-lines : goal.decreases-loop-lines
decreases-loop-lines g l = length (symbols_left l.symbols).items
