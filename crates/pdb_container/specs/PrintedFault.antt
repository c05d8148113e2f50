-- The printed text of a fault, in pieces.
use Rattle.std.specs.Prelude.{ℕ, List, ◌++◌}
use Rattle.std.specs.Fmt.{decimal}
use Rattle.pdb_container.specs.declared.printed_fault.PrintedFault.{PrintedFault}
use Rattle.pdb_container.specs.declared.printed_fault.PrintedPiece.{PrintedPiece}
use Rattle.pdb_container.specs.declared.printed_fault.PrintedPiece.TheVariants as pieces

-- a piece as text, a number in decimal
abbrev pub piece_text : PrintedPiece → List ℕ
piece_text (pieces.Text text) = text.now
piece_text (pieces.Number n) = decimal n

-- the printed text of a fault, from its pieces
abbrev pub printed_text : PrintedFault → List ℕ
printed_text t =
    (t.name).now ++ piece_text t.first ++ (t.between).now ++ piece_text t.second
    ++ (t.before_third).now
    ++ piece_text t.third ++ (t.end).now
