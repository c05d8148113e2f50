-- A database with one function.
use Rattle.std.specs.Prelude.{◌==◌, ◌&&◌, ◌||◌, nat_le, nat_lt, None, Some, codes, if◌then◌else◌}
use Rattle.pdb_owners.specs.FunctionOrder.{Function}
use Rattle.pdb_owners.specs.Databases.{Database, Keyed}

-- the function f, at 0x1010 to 0x1030
abbrev pub function_f : Function
function_f = record { start_rva = 0x1010; end_rva = Some 0x1030; name = Some (codes "f") }

-- f at offsets 0x10 to 0x30 of section 1, which are its only bounds
abbrev pub one_function : Database Function
one_function = record {
  answer = λ p. if (p.section == 1) &&
      (nat_le 16 p.offset && nat_lt p.offset 48) then Some function_f else None;
  is_bound = λ p. (p.section == 1) && ((p.offset == 16) || (p.offset == 48));
}

-- the same database, in which each function stands for itself
abbrev pub keyed_function : Keyed Function Function
keyed_function = record { answer_of = Some; places = one_function }
