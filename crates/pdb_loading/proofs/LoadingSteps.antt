-- The steps of loading a file: where one fails, and what is held at the end.
use Rattle.std.proofs.Common.{◌≡◌, ℕ, ◌⊎◌, inl, inr, true, false, List, Result, Ok, Err, refl, sym, ap, ◌∙◌, arith}
use Rattle.std.specs.Prelude.{None, Some, IfErr, not}
use Rattle.pdb_container.specs.declared.error.Error.{Error}
use Rattle.pdb_container.specs.declared.error.Error.TheVariants as errors
use Rattle.pdb_container.specs.Fault.{Fault, fault_of, IsOutside, HasRisen, ◌>>=◌, refuse}
use Rattle.pdb_addresses.specs.Addresses.{is_ordered}
use Rattle.pdb_loading.specs.declared.order.ContributionOrder.{ContributionOrder}
use Rattle.pdb_frames.specs.Choice.{Parts}
use Rattle.pdb_frames.specs.Parts.{outcome}
use Rattle.pdb_symbols_modules.specs.Dbi.{Dbi}
use Rattle.pdb_symbols_modules.specs.DatabaseCalls.{debug_information}
use Rattle.pdb_symbols_modules.specs.Shared.{Shared, shared}
use Rattle.pdb_symbols_modules.specs.Streams.{Streams, streams, fault_in}
use Rattle.pdb_resolving.specs.declared.error.Error as context
use Rattle.pdb_resolving.specs.declared.error.Error.TheVariants as contexts
use Rattle.pdb_resolving.specs.Fault as answers
use Rattle.pdb_loading.specs.declared.load_fault.LoadFault.{LoadFault}
use Rattle.pdb_loading.specs.declared.load_fault.LoadFault.TheVariants as faults
use Rattle.pdb_loading.specs.Held.{Held, IsOwn, read_in, given, names_in, parts_held_with, parts_checked}
use Rattle.pdb_loading.specs.LoadedFile.{AreInOrder, IsHeld, IsLoadedWith, loaded_by}
use Rattle.pdb_loading.specs.LoadFaults.{load_fault_of, load_fault_in_context, FailsLoading, Refuses}
use Rattle.pdb_loading.specs.Loading.{Tables, tables, listed, LoadingFault, AddressTableDecreases, lifted, in_loading, Loaded, parts_in, none_or, loaded_with, load_fault_with, DatabaseRead, read_after}
use Rattle.pdb_loading.specs.ModuleInfos.{answered_at}
use Rattle.pdb_loading.proofs.Lifting.{fails_on, loads_on, opening_fails}

-- ---- what is left of a load

-- what is left after the tables
unfoldable loaded_behind : ContributionOrder → Shared → Dbi → Tables → Result Loaded LoadingFault
loaded_behind order c dbi read = do
  ordered ← refuse (not (is_ordered read.map)) AddressTableDecreases
  modules ← lifted (listed dbi)
  parts ← parts_in order c dbi read
  Ok record { debug_information = dbi; tables = read; parts = parts }

-- what is left after the container
unfoldable loaded_open : ContributionOrder → Shared → Result Loaded LoadingFault
loaded_open order c = do
  dbi ← lifted (debug_information c)
  read ← lifted (tables c dbi)
  loaded_behind order c dbi read

-- after a container that is open
opened : (order : ContributionOrder) (s : Streams) → s.open_fault ≡ None → loaded_with order (shared s) ≡ loaded_open order (shared s)
unfolding loaded_with loaded_open loaded_behind shared
opened order s h = rw h refl

-- after stream 3
behind_dbi : (order : ContributionOrder) (c : Shared) (dbi : Dbi) → debug_information c ≡ Ok dbi → loaded_open order c ≡ (lifted (tables c dbi) >>= loaded_behind order c dbi)
unfolding loaded_open
behind_dbi order c dbi read = ap (λ r. lifted r >>= λ d. lifted (tables c d) >>= loaded_behind order c d) read

-- after the tables
behind_tables : (order : ContributionOrder) (c : Shared) (dbi : Dbi) (read : Tables) → debug_information c ≡ Ok dbi → tables c dbi ≡ Ok read → loaded_open order c ≡ loaded_behind order c dbi read
behind_tables order c dbi read dbi_is read_is = behind_dbi order c dbi dbi_is ∙ ap (λ r. lifted r >>= loaded_behind order c dbi) read_is

-- what is after the order of the tables
abbrev after_order : ContributionOrder → Shared → Dbi → Tables → Result Loaded LoadingFault
after_order order c dbi read = lifted (listed dbi) >>= λ whole_list. parts_in order c dbi read >>= λ parts. Ok (record { debug_information = dbi; tables = read; parts = parts })

in_order : (order : ContributionOrder) (c : Shared) (dbi : Dbi) (read : Tables) → is_ordered read.map ≡ true → loaded_behind order c dbi read ≡ after_order order c dbi read
unfolding loaded_behind
in_order order c dbi read h = rw h refl

out_of_order : (order : ContributionOrder) (c : Shared) (dbi : Dbi) (read : Tables) → is_ordered read.map ≡ false → loaded_behind order c dbi read ≡ Err AddressTableDecreases
unfolding loaded_behind
out_of_order order c dbi read h = rw h refl

-- after the module list
behind_list : (order : ContributionOrder) (c : Shared) (dbi : Dbi) (read : Tables) (u : Unit {0}) → is_ordered read.map ≡ true → listed dbi ≡ Ok u
    → loaded_behind order c dbi read ≡ (parts_in order c dbi read >>= λ parts. Ok (record { debug_information = dbi; tables = read; parts = parts }))
behind_list order c dbi read u ordered list_is = in_order order c dbi read ordered ∙ ap (λ r. lifted r >>= λ whole_list. parts_in order c dbi read >>= λ parts. Ok (record { debug_information = dbi; tables = read; parts = parts })) list_is

-- ---- where a step fails

-- a container that isn't opened isn't loaded, with its fault
pub container_fails : (order : ContributionOrder) (s : Streams) (e : LoadFault) → FailsLoading e (lifted (none_or s.open_fault)) → FailsLoading e (loaded_with order (shared s))
unfolding loaded_with shared
container_fails order s e h = fails_on e (lifted (none_or s.open_fault)) _ h

-- a DBI stream that is refused isn't loaded, with its fault
pub dbi_fails : (order : ContributionOrder) (s : Streams) (e : Error) → s.open_fault ≡ None → (IsOutside e (HasRisen 0 0) ⊎ (debug_information (shared s) ≡ Err (fault_of e))) → FailsLoading (load_fault_of e) (loaded_with order (shared s))
unfolding loaded_open
dbi_fails order s e h read = rw (opened order s h) (loads_on e (debug_information (shared s)) _ read)

-- what stands after stream 3 that is refused isn't loaded, with its fault
pub tables_fail : (order : ContributionOrder) (s : Streams) (e : Error) (dbi : Dbi) → s.open_fault ≡ None → debug_information (shared s) ≡ Ok dbi
    → (IsOutside e (HasRisen 0 0) ⊎ (tables (shared s) dbi ≡ Err (fault_of e))) → FailsLoading (load_fault_of e) (loaded_with order (shared s))
tables_fail order s e dbi h dbi_is read = rw (opened order s h, behind_dbi order (shared s) dbi dbi_is) (loads_on e (tables (shared s) dbi) (loaded_behind order (shared s) dbi) read)

-- address tables that aren't in order aren't loaded
pub order_fails : (order : ContributionOrder) (s : Streams) (dbi : Dbi) (read : Tables) → s.open_fault ≡ None → debug_information (shared s) ≡ Ok dbi → tables (shared s) dbi ≡ Ok read → is_ordered read.map ≡ false
    → loaded_with order (shared s) ≡ Err AddressTableDecreases
order_fails order s dbi read h dbi_is read_is ordered = opened order s h ∙ behind_tables order (shared s) dbi read dbi_is read_is ∙ out_of_order order (shared s) dbi read ordered

-- a module list that isn't whole isn't loaded, with its fault
same_fault : (f e : Fault) → Some f ≡ Some e → f ≡ e
same_fault f e h = cc

list_failed : (r : Result (Unit {0}) Fault) (l : DatabaseRead) (e : Fault) → (r >>= λ (u : Unit {0}). Ok l) ≡ Err e → r ≡ Err e
list_failed (Ok u) l e h = absurd cc
list_failed (Err f) l e h = ap (λ (t : Fault). Err t) (same_fault f e (ap fault_in h))

listed_fails : (dbi : Dbi) (read : Tables) (e : Fault) → read_after dbi read ≡ Err e → listed dbi ≡ Err e
listed_fails dbi read e h = list_failed (listed dbi) (record { debug_information = dbi; tables = read }) e h

list_outside : (e : Error) (dbi : Dbi) (read : Tables) → (IsOutside e (HasRisen 0 0) ⊎ (read_after dbi read ≡ Err (fault_of e))) → (IsOutside e (HasRisen 0 0) ⊎ (listed dbi ≡ Err (fault_of e)))
list_outside e dbi read (inl h) = inl h
list_outside e dbi read (inr h) = inr (listed_fails dbi read (fault_of e) h)

pub list_fails : (order : ContributionOrder) (s : Streams) (e : Error) (dbi : Dbi) (read : Tables) → s.open_fault ≡ None → debug_information (shared s) ≡ Ok dbi → tables (shared s) dbi ≡ Ok read → is_ordered read.map ≡ true
    → (IsOutside e (HasRisen 0 0) ⊎ (read_after dbi read ≡ Err (fault_of e))) → FailsLoading (load_fault_of e) (loaded_with order (shared s))
list_fails order s e dbi read h dbi_is read_is ordered failed =
    rw (opened order s h, behind_tables order (shared s) dbi read dbi_is read_is, in_order order (shared s) dbi read ordered) (loads_on e (listed dbi) _ (list_outside e dbi read failed))

same_answer : (f e : answers.Fault) → Some f ≡ Some e → f ≡ e
same_answer f e h = cc

making_failed : {Y : Type 0} (parts : Result Parts answers.Fault) (make : Parts → Y) (e : answers.Fault) → (parts >>= λ p. Ok (make p)) ≡ Err e → parts ≡ Err e
making_failed (Ok p) make e h = absurd cc
making_failed (Err f) make e h = ap (λ (t : answers.Fault). Err t) (same_answer f e (ap fault_in h))

parts_refused : {Y : Type 0} (e : context.Error) (parts : Result Parts answers.Fault) (make : Parts → Y) (f : Parts → Result Loaded LoadingFault) → answers.Fails e (parts >>= λ p. Ok (make p)) → FailsLoading (load_fault_in_context e) (in_loading parts >>= f)
parts_refused contexts.OutOfMemory parts make f h = tt
parts_refused (contexts.PdbError errors.OutOfMemory) parts make f h = h
parts_refused (contexts.FormatError cause) parts make f h = absurd h
parts_refused e parts make f h = ap (λ r. in_loading r >>= f) (making_failed parts make (answers.fault_of e) h)

-- ---- what is stored

-- stream 3 and what stands after it, where both were read
abbrev dbi_or : Dbi → Result DatabaseRead Fault → Dbi
dbi_or d (Ok l) = l.debug_information
dbi_or d (Err e) = d

abbrev tables_or : Tables → Result DatabaseRead Fault → Tables
tables_or t (Ok l) = l.tables
tables_or t (Err e) = t

-- what was read, by what is held of it
read_by : (r : Result (Unit {0}) Fault) (dbi : Dbi) (read : Tables) (h : Held) → (r >>= λ (u : Unit {0}). Ok (record { debug_information = dbi; tables = read })) ≡ Ok (read_in h)
    → (dbi ≡ h.debug_information) × (read ≡ h.tables) × (r ≡ Ok tt)
read_by (Ok u) dbi read h e = (ap (dbi_or dbi) e, ap (tables_or read) e, refl)
read_by (Err f) dbi read h e = absurd cc

read_is : (dbi : Dbi) (read : Tables) (h : Held) → read_after dbi read ≡ Ok (read_in h) → (dbi ≡ h.debug_information) × (read ≡ h.tables) × (listed dbi ≡ Ok tt)
read_is dbi read h e = read_by (listed dbi) dbi read h e

-- what every question goes over, by the names of the file
same_parts : (order : ContributionOrder) (s : Streams) (h : Held) → h.names ≡ names_in s → parts_in order (shared s) h.debug_information h.tables ≡ in_loading (parts_held_with order h)
same_parts order s h names_are = rw names_are refl

own_names : (s : Streams) (h : Held) → IsOwn s (HasRisen 0 0) h → h.names ≡ names_in s
own_names s h own = elim own.names_are [ inl is ↦ is | inr failed ↦ absurd (omega (arith, failed.0)) ]

own_modules : (s : Streams) (h : Held) → IsOwn s (HasRisen 0 0) h → (number : ℕ) → answered_at h.infos number ≡ given s number
own_modules s h own = λ number. elim (own.modules_are number) [ inl is ↦ is | inr failed ↦ absurd (omega (arith, failed.0)) ]

-- loading goes on with the parts of what is held
held_loads : (order : ContributionOrder) (s : Streams) (h : Held) → s.open_fault ≡ None → debug_information (shared s) ≡ Ok h.debug_information → tables (shared s) h.debug_information ≡ Ok h.tables
    → is_ordered h.tables.map ≡ true → listed h.debug_information ≡ Ok tt → h.names ≡ names_in s → loaded_with order (shared s) ≡ loaded_by order h
held_loads order s h is_open dbi_is read_is ordered list_is names_are =
    opened order s is_open ∙ behind_tables order (shared s) h.debug_information h.tables dbi_is read_is ∙ behind_list order (shared s) h.debug_information h.tables tt ordered list_is
    ∙ ap (λ r. r >>= λ (p : Parts). Ok (record { debug_information = h.debug_information; tables = h.tables; parts = p })) (same_parts order s h names_are)

-- ---- the same after tables that are in order

pub ordered_list_fails : (order : ContributionOrder) (file : List ℕ) (e : Error) (dbi : Dbi) (read : Tables) → (streams file).open_fault ≡ None → AreInOrder (streams file) dbi read
    → (IsOutside e (HasRisen 0 0) ⊎ (read_after dbi read ≡ Err (fault_of e))) → FailsLoading (load_fault_of e) (loaded_with order (shared (streams file)))
ordered_list_fails order file e dbi read is_open are failed = list_fails order (streams file) e dbi read is_open are.dbi_is are.tables_are are.in_order failed

-- what is held of a file is the file's
pub is_held : (file : List ℕ) (dbi : Dbi) (read : Tables) (h : Held) → (streams file).open_fault ≡ None → AreInOrder (streams file) dbi read
    → read_after dbi read ≡ Ok (read_in h) → IsOwn (streams file) (HasRisen 0 0) h → IsHeld file h
is_held file dbi read h is_open are loads own =
    let s = streams file in
    let same = read_is dbi read h loads in
    let dbi_too : debug_information (shared s) ≡ Ok h.debug_information = are.dbi_is ∙ ap (λ (d : Dbi). Ok d) same.0 in
    let read_too : tables (shared s) h.debug_information ≡ Ok h.tables = ap (tables (shared s)) (sym same.0) ∙ are.tables_are ∙ ap (λ (t : Tables). Ok t) same.1 in
    let names_are = own_names s h own in
    record {
      loads = λ order. held_loads order s h is_open dbi_too read_too (ap (λ (t : Tables). is_ordered t.map) (sym same.1) ∙ are.in_order) (ap listed (sym same.0) ∙ same.2) names_are;
      ordered = rw (sym same.1) are.ordered;
      names_are = names_are;
      modules_are = own_modules s h own;
    }

-- a failed load is a load fault
pub refuses : (order : ContributionOrder) (e : LoadFault) (s : Streams) → FailsLoading e (loaded_with order (shared s)) → Refuses e (load_fault_with order s)
refuses order faults.OutOfMemory s h = tt
refuses order (faults.Pdb contexts.OutOfMemory) s h = h
refuses order (faults.Pdb (contexts.PdbError errors.OutOfMemory)) s h = h
refuses order e s h = ap fault_in h

-- ---- the parts of what is held

-- with its parts a file that is held was loaded
pub parts_load : (order : ContributionOrder) (file : List ℕ) (h : Held) (parts : Parts) → IsHeld file h → parts_held_with order h ≡ Ok parts → IsLoadedWith order file h
parts_load order file h parts is parts_are = record {
  parts = parts;
  loaded_is = is.loads order ∙ ap (λ r. in_loading r >>= λ (p : Parts). Ok (record { debug_information = h.debug_information; tables = h.tables; parts = p })) parts_are;
  parts_are = parts_are;
  ordered = is.ordered;
  names_are = is.names_are;
  modules_are = is.modules_are;
}

-- the fault of what is made of the parts refuses the file
pub parts_refuse : {Y : Type 0} (order : ContributionOrder) (file : List ℕ) (h : Held) (make : Parts → Y) (e : context.Error) → IsHeld file h → answers.Fails e (parts_held_with order h >>= λ p. Ok (make p))
    → Refuses (load_fault_in_context e) (load_fault_with order (streams file))
parts_refuse order file h make e is failed =
    refuses order (load_fault_in_context e) (streams file) (rw (is.loads order) (parts_refused e (parts_held_with order h) make _ failed))

there : (parts : Result Parts answers.Fault) (u : Unit {0}) → outcome parts ≡ Ok u → (p : Parts) × (parts ≡ Ok p)
there (Ok p) u h = (p, refl)
there (Err e) u h = absurd cc

-- parts that were checked can be made
pub parts_checked_load : (order : ContributionOrder) (file : List ℕ) (h : Held) (u : Unit {0}) → IsHeld file h → parts_checked order h ≡ Ok u → IsLoadedWith order file h
parts_checked_load order file h u is was_checked = let parts = there (parts_held_with order h) u was_checked in parts_load order file h parts.0 is parts.1

pub parts_checked_refuse : (order : ContributionOrder) (file : List ℕ) (h : Held) (e : context.Error) → IsHeld file h → answers.Fails e (parts_checked order h) → Refuses (load_fault_in_context e) (load_fault_with order (streams file))
parts_checked_refuse order file h e is failed = parts_refuse order file h (λ p. tt) e is failed

no_fault : (r : Result Loaded LoadingFault) (l : Loaded) → r ≡ Ok l → fault_in r ≡ None
no_fault r l h = ap fault_in h

-- a file that was loaded has no load fault
pub kept_loads : (order : ContributionOrder) (file : List ℕ) (h : Held) → IsLoadedWith order file h → load_fault_with order (streams file) ≡ None
kept_loads order file h is = no_fault (loaded_with order (shared (streams file))) _ is.loaded_is

pub all_refused : {A : Type 0} (order : ContributionOrder) (r : Result A LoadFault) (s : Streams) → IfErr r (λ e. FailsLoading e (loaded_with order (shared s))) → IfErr r (λ e. Refuses e (load_fault_with order s))
all_refused order (Ok x) s h = tt
all_refused order (Err e) s h = refuses order e s h

-- a container that isn't opened is a load fault
pub not_opened : {S : Type 0} (order : ContributionOrder) (bytes : S → List ℕ) (before : S) (s : Streams) (e : Error)
    → (IsOutside e ((after : S) × (bytes after ≡ bytes before) × HasRisen 0 0) ⊎ (s.open_fault ≡ Some (fault_of e))) → Refuses (load_fault_of e) (load_fault_with order s)
not_opened order bytes before s e h = refuses order (load_fault_of e) s (container_fails order s (load_fault_of e) (opening_fails bytes before e s.open_fault h))
