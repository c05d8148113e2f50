use Rattle.std.proofs.Common.{◌≡◌}
use Rattle.pdb_addr2line.specs.Context.{lasting}
use Rattle.pdb_llvm_symbolizer.proofs.first_row.first_begun.Given as goal

-- so far the context was asked alone
abbrev pub invariant-loop : goal.invariant-loop
invariant-loop l = lasting l.context ≡ lasting l.fn.context
