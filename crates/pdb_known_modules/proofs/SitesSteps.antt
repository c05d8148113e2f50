-- A fault of inline sites is one of the answer.
use Rattle.std.proofs.Common.{◌≡◌, ◌⊎◌, Result, Err, ap, inl, inr}
use Rattle.pdb_container.specs.declared.error.Error.{Error}
use Rattle.pdb_container.specs.declared.error.Error.TheVariants as errors
use Rattle.pdb_container.specs.Fault.{fault_of, IsOutside}
use Rattle.pdb_module_data.specs.Forest.{SitesFault, InSymbols}
use Rattle.pdb_resolving.specs.Fault.{Fails, error_of}
use Rattle.pdb_known_modules.specs.KnownModules.{sites_lifted}

-- a symbol's fault is the answer's
pub sites_fail : {A : Type 0} (e : Error) (read : Result A SitesFault) → (IsOutside e ⊥ ⊎ (read ≡ Err (InSymbols (fault_of e)))) → Fails (error_of e) (sites_lifted read)
sites_fail errors.OutOfMemory read h = tt
sites_fail (errors.IoError kind) read (inl h) = absurd h.1
sites_fail (errors.IoError kind) read (inr h) = ap sites_lifted h
sites_fail e read (inl h) = absurd h
sites_fail e read (inr h) = ap sites_lifted h
