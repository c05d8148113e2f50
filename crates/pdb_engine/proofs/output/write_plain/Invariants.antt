use Rattle.std.proofs.Common.{◌≡◌, ℕ, List, ◌++◌, length}
use Rattle.std.specs.Io.KnownBytes.{Appends}
use Rattle.pdb_engine.proofs.output.write_plain.Given as goal

-- what is out is a prefix, and the rest follows it
abbrev pub invariant-loop-rest : goal.invariant-loop-rest
invariant-loop-rest g l =
    let contents = g.W.Write.contents in
    (front : List ℕ) × (l.bytes ≡ front ++ l.rest) × Appends (contents l.fn.writer) (contents l.writer) front

abbrev pub decreases-loop-rest : goal.decreases-loop-rest
decreases-loop-rest g l = length l.rest
