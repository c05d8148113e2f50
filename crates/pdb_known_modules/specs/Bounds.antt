-- Bounds of procedures as numbers in one row, so that they can be sorted and searched.
use Rattle.std.specs.Prelude.{ℕ, ◌+◌, List}
use Rattle.std.specs.List.{flat_map}
use Rattle.pdb_addresses.specs.SectionOrder.{AreInOrder}
use Rattle.pdb_contributions.specs.BoundNumbers.{numbers_of}
use Rattle.pdb_module_data.specs.Procedures.{Procedure}

-- the numbers of a procedure's start and end
abbrev pub procedure_numbers : Procedure → List ℕ
procedure_numbers q = numbers_of (q.offset).section (q.offset).offset ((q.offset).offset + q.len)

-- these are the numbers of procedures' starts and ends, in ascending order
abbrev pub AreProcedureBounds : List Procedure → List ℕ → Type 0
AreProcedureBounds procedures numbers =
    AreInOrder (flat_map procedure_numbers procedures) numbers
