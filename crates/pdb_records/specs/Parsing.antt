-- The result of a call that parses a part of a record, and how far it advances.
use Rattle.std.specs.Prelude.{Result}
use Rattle.pdb_container.specs.declared.error.Error.{Error}
use Rattle.pdb_container.specs.Buffer.{Buffer, rest, ParsesFront}
use Rattle.pdb_container.specs.Fields.{Reader}
use Rattle.pdb_container.specs.RecordFields.{GivesFront, as_value}
use Rattle.pdb_records.specs.declared.type_data.TypeData.{TypeData}
use Rattle.pdb_records.specs.declared.id_data.IdData.{IdData}
use Rattle.pdb_records.specs.Forms.{PlainForm}
use Rattle.pdb_records.specs.IdForms.{IdForm, id_shape}
use Rattle.pdb_records.specs.Shapes.{plain_shape}

-- A call returned, seen by view, the next field's value or fault, and advanced past it.
abbrev pub ParsesField : {X Y : Type 0} → (X → Y) → Result X Error → Buffer → Buffer → Reader Y
    → Type 0
ParsesField view result old new read = ParsesFront view result (rest new) (read (rest old))

-- A call returned a type of the form whose content reading gives, and advanced past it.
abbrev pub ParsesForm : {A : Type 0} → Result TypeData Error → Buffer → Buffer → (A → PlainForm)
    → Reader A → Type 0
ParsesForm result old new form read =
    ParsesFront plain_shape result (rest new) (as_value form (read (rest old)))

-- ..unless memory was short
abbrev pub GivesForm : {A : Type 0} → Result TypeData Error → Buffer → Buffer → (A → PlainForm)
    → Reader A → Type 0
GivesForm result old new form read =
    GivesFront plain_shape result (rest new) (as_value form (read (rest old)))

-- A call returned an id of the form whose content reading gives, and advanced past it.
abbrev pub ParsesIdForm : {A : Type 0} → Result IdData Error → Buffer → Buffer → (A → IdForm)
    → Reader A → Type 0
ParsesIdForm result old new form read =
    ParsesFront id_shape result (rest new) (as_value form (read (rest old)))

-- ..unless memory was short
abbrev pub GivesIdForm : {A : Type 0} → Result IdData Error → Buffer → Buffer → (A → IdForm)
    → Reader A → Type 0
GivesIdForm result old new form read =
    GivesFront id_shape result (rest new) (as_value form (read (rest old)))
