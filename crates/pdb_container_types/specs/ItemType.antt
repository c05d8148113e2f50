-- The type of an item of a table.
use Rattle.std.specs.Prelude.{ℕ, List, nat_lt, if◌then◌else◌, Result}
use Rattle.pdb_container.specs.Fault.{Fault}
use Rattle.pdb_records.specs.Forms.{TypeForm}
use Rattle.pdb_records.specs.Primitives.{type_of_primitive}
use Rattle.pdb_records.specs.TypeLeaves.{type_form_of}

-- the type of an item: below 0x1000 from its index alone, and otherwise from its record
abbrev pub type_of_item : ℕ → List ℕ → Result TypeForm Fault
type_of_item index record_bytes =
    if nat_lt index 0x1000 then type_of_primitive index
    else type_form_of record_bytes
