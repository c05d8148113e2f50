-- The names of chosen functions.
use Rattle.std.specs.Prelude.{ℕ, ◌&&◌, not, List, ◌==◌, Option, None, Some, option_map}
use Rattle.std.specs.Prelude.{if◌then◌else◌}
use Rattle.std.specs.Str.Lossy.{utf8_lossy}
use Rattle.pdb_module_data.specs.Procedures.{Procedure}
use Rattle.pdb_frames.specs.Choice.{Parts, Chosen, Proc, Public, is_decorated, decorated_at}
use Rattle.pdb_names.specs.Env.{Env}
use Rattle.pdb_names.specs.StoredNames.{typed_name}

-- the decorated public name that a procedure has in place of its own: at its start, where it has no
-- type and no decorated name of its own
abbrev pub public_name : Parts → Procedure → Option (List ℕ)
public_name p q =
    if ((q.type_index).0 == 0) && not (is_decorated q.name) then decorated_at p q.offset else None

-- a public name as text, or else another one
abbrev pub public_or : Option (List ℕ) → Option (List ℕ) → Option (List ℕ)
public_or (Some name) other = Some (utf8_lossy name)
public_or None other = other

-- a procedure's name: the public one in place of its own, or the name by its type
abbrev pub procedure_name : Parts → Env → Procedure → Option (List ℕ)
procedure_name p env q = public_or (public_name p q) (typed_name env q)

-- the name of a chosen function
abbrev pub name_of : Parts → Env → Chosen → Option (List ℕ)
name_of p env (Proc q) = procedure_name p env q
name_of p env (Public f) = option_map utf8_lossy f.name
