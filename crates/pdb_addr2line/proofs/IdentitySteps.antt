-- Where the identity of a database can't be read.
use Rattle.std.proofs.Common.{◌≡◌, ℕ, List, Result, Ok, Err, ap, ◌∙◌}
use Rattle.std.specs.Prelude.{◌⊎◌, None, Some}
use Rattle.pdb_container.specs.declared.error.Error.{Error}
use Rattle.pdb_container.specs.Fault.{fault_of, HasRisen, IsOutside, ◌>>=◌}
use Rattle.pdb_addr2line.specs.Identity.{identity_by, identity_in}
use Rattle.pdb_image.specs.declared.identity.PdbIdentity.{PdbIdentity}
use Rattle.pdb_loading.proofs.Lifting.{fails_on, loads_on, opening_fails}
use Rattle.pdb_loading.specs.Loading.{LoadingFault, lifted, none_or}
use Rattle.pdb_loading.specs.LoadFaults.{FailsLoading, load_fault_of}
use Rattle.pdb_symbols_modules.specs.DatabaseCalls.{debug_information, information}
use Rattle.pdb_symbols_modules.specs.Dbi.{Dbi}
use Rattle.pdb_symbols_modules.specs.Information.{Information}
use Rattle.pdb_symbols_modules.specs.Shared.{Shared, shared}
use Rattle.pdb_symbols_modules.specs.Streams.{Streams}

-- what comes after the information stream
abbrev behind_information : Shared → Information → Result PdbIdentity LoadingFault
behind_information c i = lifted (debug_information c) >>= λ d. Ok (identity_by i d)

-- what comes after the container is opened
abbrev behind_opening : Shared → Result PdbIdentity LoadingFault
behind_opening c = lifted (information c) >>= behind_information c

opened : (s : Streams) → s.open_fault ≡ None → identity_in s ≡ behind_opening (shared s)
unfolding identity_in
opened s h = ap (λ fault. lifted (none_or fault) >>= λ u. behind_opening (shared s)) h

informed : (s : Streams) (i : Information) → s.open_fault ≡ None → information (shared s) ≡ Ok i → identity_in s ≡ behind_information (shared s) i
informed s i h is = opened s h ∙ ap (λ r. lifted r >>= behind_information (shared s)) is

-- a container that isn't opened has no identity, with its fault
pub not_opened : {S : Type 0} (bytes : S → List ℕ) (before : S) (s : Streams) (e : Error)
    → (IsOutside e ((after : S) × (bytes after ≡ bytes before) × HasRisen 0 0) ⊎ (s.open_fault ≡ Some (fault_of e))) → FailsLoading (load_fault_of e) (identity_in s)
unfolding identity_in
not_opened bytes before s e h = fails_on (load_fault_of e) (lifted (none_or s.open_fault)) _ (opening_fails bytes before e s.open_fault h)

-- nor has one whose information stream is refused
pub not_informed : (s : Streams) (e : Error) → s.open_fault ≡ None → (IsOutside e (HasRisen 0 0) ⊎ (information (shared s) ≡ Err (fault_of e))) → FailsLoading (load_fault_of e) (identity_in s)
not_informed s e h read = rw (opened s h) (loads_on e (information (shared s)) (behind_information (shared s)) read)

-- or one whose stream 3 is
pub not_aged : (s : Streams) (e : Error) (i : Information) → s.open_fault ≡ None → information (shared s) ≡ Ok i → (IsOutside e (HasRisen 0 0) ⊎ (debug_information (shared s) ≡ Err (fault_of e))) → FailsLoading (load_fault_of e) (identity_in s)
not_aged s e i h is read = rw (informed s i h is) (loads_on e (debug_information (shared s)) (λ d. Ok (identity_by i d)) read)

-- the identity of both
pub identity_is : (s : Streams) (i : Information) (d : Dbi) → s.open_fault ≡ None → information (shared s) ≡ Ok i → debug_information (shared s) ≡ Ok d → identity_in s ≡ Ok (identity_by i d)
identity_is s i d h is dbi_is = informed s i h is ∙ ap (λ r. lifted r >>= λ d. let x : Result PdbIdentity LoadingFault = Ok (identity_by i d) in x) dbi_is
