-- Keys of functions, and the functions that they stand for.
use Rattle.std.specs.Prelude.{ℕ, List, Option, option_map, option_and_then, slice_get}
use Rattle.pdb_frames.specs.Choice.{Parts, Chosen, Proc, Public}
use Rattle.pdb_contributions.specs.Publics.{public_over}
use Rattle.pdb_frames.specs.FramesAt.{function_of}
use Rattle.pdb_frames.specs.Runs.{database_of}
use Rattle.pdb_frames.specs.Scopes.{Scope}
use Rattle.pdb_owners.specs.Databases.{Keyed}
use Rattle.pdb_owners.specs.FunctionOrder.{Function}
use Rattle.pdb_owners.specs.KeyOrder.{key_module}
use Rattle.pdb_owners.specs.declared.function_key.FunctionKey.{FunctionKey}
use Rattle.pdb_owners.specs.declared.function_key.FunctionKey.TheVariants as keys
use Rattle.pdb_known_modules.specs.KnownModules.{module_data, procedures_in}
use Rattle.pdb_module_data.specs.Procedures.{Procedure}

-- the function that a key chooses among its module's procedures and the public list: the procedure
-- with its number, or the public entry of its place
abbrev pub chosen_by : Parts → List Procedure → FunctionKey → Option Chosen
chosen_by p procedures (keys.Procedure index number) = option_map Proc (slice_get procedures number)
chosen_by p procedures (keys.Public index place) =
    option_map Public (public_over p.publics place.offset place)

-- the function that a key chooses
abbrev pub chosen_of_key : Parts → (ℕ → Scope) → FunctionKey → Option Chosen
chosen_of_key p scope key =
    chosen_by p (procedures_in (module_data (scope (key_module key)).own)) key

-- the function that a key stands for
abbrev pub function_by : Parts → (ℕ → Scope) → FunctionKey → Option Function
function_by p scope key =
    option_and_then (function_of p (scope (key_module key)).env) (chosen_of_key p scope key)

-- the functions at places, by keys
abbrev pub keyed_of : Parts → (ℕ → Scope) → Keyed FunctionKey Function
keyed_of p scope = record { answer_of = function_by p scope; places = database_of p scope }
