use Rattle.std.proofs.Common.{◌≡◌}
use Rattle.pdb_reader_tests.proofs.database.finder.show.Given as goal

-- both are of one table
abbrev pub invariant-loop : goal.invariant-loop
invariant-loop l = l.iterator'.table ≡ l.finder.table
