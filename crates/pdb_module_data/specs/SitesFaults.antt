-- The result of a call that reads inline sites.
use Rattle.std.specs.Prelude.{◌≡◌, ◌⊎◌, Result, Ok, Err}
use Rattle.pdb_container.specs.Fault.{fault_of, IsOutside}
use Rattle.pdb_module_data.specs.Forest.{SitesFault, InSymbols, Unsuccessful}
use Rattle.pdb_module_data.specs.declared.inline_sites.SitesError.{SitesError}
use Rattle.pdb_module_data.specs.declared.inline_sites.SitesError.TheVariants as errors

-- A call's result, seen by view, is the reading's value or fault, unless memory was short.
abbrev pub Reads : {X Y : Type 0} → (X → Y) → Result X SitesError → Result Y SitesFault → Type 0
Reads view (Ok x) read = read ≡ Ok (view x)
Reads view (Err (errors.Pdb e)) read = IsOutside e ⊥ ⊎ (read ≡ Err (InSymbols (fault_of e)))
Reads view (Err errors.Unsuccessful) read = read ≡ Err Unsuccessful
