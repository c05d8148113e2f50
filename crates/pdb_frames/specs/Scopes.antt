-- All that an answer in one module depends on.
use Rattle.std.specs.Prelude.{ℕ, List, Option, Result}
use Rattle.pdb_container.specs.Fault as container
use Rattle.pdb_symbols_modules.specs.ModuleStream.{ModuleStream}
use Rattle.pdb_symbols_modules.specs.Modules.{Module}
use Rattle.pdb_resolving.specs.Resolving.{Provided}
use Rattle.pdb_names.specs.Env.{Env}
use Rattle.pdb_names.specs.Printing.{Formatting, env_of}
use Rattle.pdb_known_modules.specs.KnownModules.{own_of}

-- all that an answer in one module depends on beside the parts: the module's own stream, and the
-- Env from which names of types and ids are read
pub record Scope : Type 0 where
  pub own : Result (Option ModuleStream) container.Fault
  pub env : Env

-- the entries of the modules in order
abbrev pub entries_of : {P : Type 0} → Formatting P → List Module
entries_of f = f.reading.modules.entries

-- all that an answer in the module with that index depends on
abbrev pub scope_of : {P : Type 0} → (P → Provided) → P → Formatting P → ℕ → Scope
scope_of provided provider f m =
    record { own = own_of (provided provider) (entries_of f) m; env = env_of provided f m }
