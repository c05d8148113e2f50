-- The pieces of an id's text that a call of the printer appends.
use Rattle.std.specs.Prelude.{String, Result}
use Rattle.pdb_resolving.specs.declared.stop.Stop.{Stop}
use Rattle.pdb_resolving.specs.Resolving.{Provided}
use Rattle.pdb_type_printing.specs.declared.path.Seen.{Seen}
use Rattle.pdb_type_printing.specs.declared.asker.Asker.{Asker}
use Rattle.pdb_type_printing.specs.Printing.{Formatting}
use Rattle.pdb_type_printing.specs.Prints.{AppendsText}
use Rattle.pdb_names.specs.Ids.{IdPiece, visiting_id}

-- A call appends a piece of an id's text that is made in the module that asks, where ids are
-- visited behind those of a level's path.
abbrev pub AppendsId : {P A Z : Type 0} → (P → Provided) → Formatting P → Asker → Seen → IdPiece
    → String Z → String Z → Result A Stop → Type 0
AppendsId provided f asker ids piece before after result =
    AppendsText provided f asker
    (λ env. piece env (visiting_id env ids.path.now.items) ids.path.now.items) before after result
