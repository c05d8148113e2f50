use Rattle.std.proofs.Common.{length}
use Rattle.pdb_symbol_files.proofs.Writes.{IsOut}
use Rattle.pdb_symbol_files.proofs.output.write_bytes.Given as goal

-- what is out is a prefix, and the rest follows it
abbrev pub invariant-loop-rest : goal.invariant-loop-rest
invariant-loop-rest g l =
    IsOut (g.W.Write.contents l.fn.output) (g.W.Write.contents l.output) l.bytes l.rest

abbrev pub decreases-loop-rest : goal.decreases-loop-rest
decreases-loop-rest g l = length l.rest
