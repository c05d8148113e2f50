-- What the module with an index holds, by what is found of it.
use Rattle.std.proofs.Common.{◌≡◌, ℕ, List, Ok, Err, refl}
use Rattle.std.specs.Prelude.{Some, None, slice_get}
use Rattle.pdb_resolving.specs.declared.error.Error.{Error}
use Rattle.pdb_symbols_modules.specs.ModuleStream.{ModuleStream}
use Rattle.pdb_symbols_modules.specs.Modules.{Module}
use Rattle.pdb_resolving.specs.Fault.{OutOfRangeModuleIndex, ModuleInfoNotFound, lifted, Fails}
use Rattle.pdb_resolving.specs.Resolving.{Provided, module_numbered}
use Rattle.pdb_resolving.proofs.Lifting.{fails_on}

pub module_past : (provided : Provided) (entries : List Module) (n : ℕ) → slice_get entries n ≡ None → module_numbered provided entries n ≡ Err (OutOfRangeModuleIndex n)
unfolding module_numbered
module_past provided entries n past = rw past refl

pub module_given : (provided : Provided) (entries : List Module) (n : ℕ) (m : Module) (s : ModuleStream) → slice_get entries n ≡ Some m → lifted (provided n m) ≡ Ok (Some s) → module_numbered provided entries n ≡ Ok s
unfolding module_numbered
module_given provided entries n m s listed given = rw (listed, given) refl

pub module_missing : (provided : Provided) (entries : List Module) (n : ℕ) (m : Module) → slice_get entries n ≡ Some m → lifted (provided n m) ≡ Ok None → module_numbered provided entries n ≡ Err (ModuleInfoNotFound n)
unfolding module_numbered
module_missing provided entries n m listed given = rw (listed, given) refl

pub module_fails : (provided : Provided) (entries : List Module) (n : ℕ) (m : Module) (e : Error) → slice_get entries n ≡ Some m → Fails e (lifted (provided n m)) → Fails e (module_numbered provided entries n)
unfolding module_numbered
module_fails provided entries n m e listed fails = rw listed (fails_on e (lifted (provided n m)) _ fails)
