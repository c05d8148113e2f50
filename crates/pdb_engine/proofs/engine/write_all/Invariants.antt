use Rattle.std.proofs.Common.{◌≡◌, ℕ, List, ◌++◌, length}
use Rattle.std.specs.Io.KnownBytes.{Appends}
use Rattle.pdb_engine.specs.Watched.{inner_of, IsQuiet}
use Rattle.pdb_engine.proofs.engine.write_all.Given as goal

-- what is out is a prefix, and the rest follows it
abbrev pub invariant-loop-rest : goal.invariant-loop-rest
invariant-loop-rest g l =
    let contents = g.W.Write.contents in
    record {
      out : (front : List ℕ) × (l.bytes ≡ front ++ l.rest) × Appends (contents (inner_of l.fn.writer)) (contents (inner_of l.writer)) front;
      quiet : IsQuiet l.fn.writer l.writer;
    }

abbrev pub decreases-loop-rest : goal.decreases-loop-rest
decreases-loop-rest g l = length l.rest
