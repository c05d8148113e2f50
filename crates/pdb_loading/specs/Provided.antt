-- The answers that modules are provided with: a fault is answered as `Kept` and as no other.
use Rattle.std.specs.Prelude.{ℕ, List, Option, None, Some, Ok, Err, IfErr, slice_get}
use Rattle.pdb_resolving.specs.Fault.{IsOfModules}
use Rattle.pdb_loading.specs.ModuleInfos.{KeptInfo, answered_if_listed, answered_at}

faults_if_listed : (kept : Option KeptInfo) → IfErr (answered_if_listed kept) IsOfModules
faults_if_listed None = tt
faults_if_listed (Some (Ok found)) = tt
faults_if_listed (Some (Err fault)) = tt

-- a fault that is answered for a module could be taken neither for a type's own, nor for a failed
-- read
pub faults_kept : (infos : List KeptInfo) (number : ℕ)
    → IfErr (answered_at infos number) IsOfModules
faults_kept infos number = faults_if_listed (slice_get infos number)
