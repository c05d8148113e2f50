-- The report of a fault.
use Rattle.std.specs.Prelude.{◌⊎◌, ℕ, List, [], ◌∷◌, ◌++◌, Option, codes}
use Rattle.std.specs.List.{flat_map}
use Rattle.std.specs.declared.io.ErrorKind.{ErrorKind}
use Rattle.pdb_container.specs.declared.printed_fault.PrintedPiece.{PrintedPiece}
use Rattle.pdb_container.specs.PrintedFault.{piece_text}
use Rattle.pdb_engine.specs.Puts.{Count, PutsAll, PutsFront}
use Rattle.pdb_report.specs.declared.fault.RunFault.{RunFault}
use Rattle.pdb_report.specs.FaultText.{run_fault_text}

-- the line on a fault
abbrev pub fault_line : RunFault → List ℕ
fault_line fault = codes "fault: " ++ run_fault_text fault ++ 10 ∷ []

-- the text of pieces, one after the other
abbrev pub pieces_text : List PrintedPiece → List ℕ
pieces_text pieces = flat_map piece_text pieces

-- No write failed, and the whole line was written; or one failed, and a prefix of it was written.
abbrev pub Tells : {T : Type 0} → (T → Option (List ℕ)) → (T → Count)
    → (T → ErrorKind → Type 0) → T → T → List ℕ → Type 0
Tells contents failures has_failed old new line =
    PutsAll contents failures old new line
    ⊎ ((kind : ErrorKind) × PutsFront contents failures has_failed old new kind line)

-- The same for the line on a fault.
abbrev pub TellsFault : {T : Type 0} → (T → Option (List ℕ)) → (T → Count)
    → (T → ErrorKind → Type 0) → T → T → RunFault → Type 0
TellsFault contents failures has_failed old new fault =
    Tells contents failures has_failed old new (fault_line fault)
