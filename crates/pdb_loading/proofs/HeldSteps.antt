-- What is held of a database is the file's.
use Rattle.std.proofs.Common.{◌≡◌, ℕ, zero, suc, ◌≤◌, ◌⊎◌, List, [], ◌∷◌, length, Result, Ok, Err, inl, inr, refl, sym, ap, subst, ◌∙◌, arith}
use Rattle.std.proofs.lemmas.List.Elements.{length_all_zip}
use Rattle.std.specs.Prelude.{Option, None, Some, map, option_map, slice_get, IfOk}
use Rattle.pdb_container.specs.declared.error.Error.{Error}
use Rattle.pdb_container.specs.declared.error.Error.TheVariants as errors
use Rattle.pdb_container.specs.Fault.{Fault, HasRisen, IsOutside, fault_of, ◌>>=◌}
use Rattle.pdb_container.specs.Listing.{Listing, whole}
use Rattle.pdb_loading.specs.ModuleInfos.{KeptInfo, kept_info, answered, answered_at, answered_if_listed, AnswersSourceFault, KeepsAt, KeepsInfo, KeepsInfos, KeepsNames}
use Rattle.pdb_loading.proofs.KeptSteps.{kept_wider, risen_between}
use Rattle.pdb_loading.specs.Held.{Held, IsOwn, kept_infos, names_in, given}
use Rattle.pdb_loading.specs.Loading.{listed}
use Rattle.pdb_symbols_modules.specs.Dbi.{Dbi}
use Rattle.pdb_symbols_modules.specs.ModuleStream.{ModuleStream}
use Rattle.pdb_symbols_modules.specs.Modules.{Module, modules_of}
use Rattle.pdb_symbols_modules.specs.DatabaseCalls.{debug_information, module_info}
use Rattle.pdb_symbols_modules.specs.Shared.{shared, module_of_number}
use Rattle.pdb_symbols_modules.specs.Streams.{Streams}
use Rattle.pdb_symbols_modules.proofs.Provided.{module_listed, provided, past_the_list}

get_kept : (f : Module → KeptInfo) (modules : List Module) (k : ℕ) → slice_get (map f modules) k ≡ option_map f (slice_get modules k)
get_kept f [] k = refl
get_kept f (m ∷ modules) zero = refl
get_kept f (m ∷ modules) (suc k) = get_kept f modules k

-- the list that was read to its end
whole_is : (l : Listing Module) → l.fault ≡ None → whole l ≡ Ok l.items
whole_is l h = rw h refl

ended_well : (fault : Option Fault) (items : List Module) (u : Unit {0}) → (whole (record { items = items; fault = fault }) >>= λ (modules : List Module). Ok tt) ≡ Ok u → fault ≡ None
ended_well None items u h = refl
ended_well (Some e) items u h = absurd cc

-- a module list that was read has no fault
pub list_ends : (d : Dbi) (u : Unit {0}) → listed d ≡ Ok u → (modules_of d.modules).fault ≡ None
unfolding listed
list_ends d u h = ended_well (modules_of d.modules).fault (modules_of d.modules).items u h

-- whether the list was read, by its modules
pub list_there : (d : Dbi) (modules : List Module) → whole (modules_of d.modules) ≡ Ok modules → listed d ≡ Ok tt
unfolding listed
list_there d modules h = rw h refl

-- the module list's fault is that of the list
pub list_missing : (d : Dbi) (e : Fault) → whole (modules_of d.modules) ≡ Err e → listed d ≡ Err e
unfolding listed
list_missing d e h = rw h refl

-- what keeps the module list from being read is outside, or the list's fault
pub list_refused : (d : Dbi) (e : Error) → (IsOutside e ⊥ ⊎ (whole (modules_of d.modules) ≡ Err (fault_of e))) → (IsOutside e ⊥ ⊎ (listed d ≡ Err (fault_of e)))
list_refused d e (inl h) = inl h
list_refused d e (inr h) = inr (list_missing d (fault_of e) h)

-- what a file gives of a module, by its entry
by_entry : (s : Streams) (k : ℕ) (found : Option Module) → module_of_number (s.at 3) k ≡ Ok found → answered_if_listed (option_map (λ m. kept_info (module_info s m)) found) ≡ given s k
by_entry s k None h = sym (ap (λ r. answered (kept_info r)) (past_the_list s k h))
by_entry s k (Some m) h = sym (ap (λ r. answered (kept_info r)) (provided s k m h))

-- what a file gives of a module is what there is to store of it, by its entry
pub modules_given : (s : Streams) (d : Dbi) (k : ℕ) → debug_information (shared s) ≡ Ok d → (modules_of d.modules).fault ≡ None → answered_at (kept_infos s (modules_of d.modules).items) k ≡ given s k
modules_given s d k read ends =
    ap answered_if_listed (get_kept (λ m. kept_info (module_info s m)) (modules_of d.modules).items k)
    ∙ by_entry s k (slice_get (modules_of d.modules).items k) (module_listed s d (modules_of d.modules).items k read (whole_is (modules_of d.modules) ends))

-- what was stored of a module, as it is answered
as_answered : (failed : Type 0) (kept there : KeptInfo) → KeepsInfo failed kept there → KeepsAt AnswersSourceFault failed (answered kept) (answered there)
as_answered failed kept there (inl is) = inl (ap answered is)
as_answered failed (Ok found) there (inr h) = absurd h.1
as_answered failed (Err fault) there (inr h) = inr h

-- the same by its number; past the list there is none
answered_of : (failed : Type 0) (kept there : List KeptInfo) (k : ℕ) → KeepsInfos failed kept there → KeepsAt AnswersSourceFault failed (answered_at kept k) (answered_at there k)
answered_of failed [] [] k h = inl refl
answered_of failed [] (t ∷ there) k h = absurd h
answered_of failed (x ∷ kept) [] k h = absurd h
answered_of failed (x ∷ kept) (t ∷ there) zero h = as_answered failed x t h.0
answered_of failed (x ∷ kept) (t ∷ there) (suc k) h = answered_of failed kept there k h.1

length_kept : (s : Streams) (modules : List Module) → length (kept_infos s modules) ≡ length modules
length_kept s [] = refl
length_kept s (m ∷ modules) = ap suc (length_kept s modules)

-- names and modules that were stored, each while the source was counted
pub own_held : (s : Streams) (d : Dbi) (u : Unit {0}) (h : Held) (a b c e : ℕ) → h.debug_information ≡ d → debug_information (shared s) ≡ Ok d → listed d ≡ Ok u → a ≤ b → b ≤ c → c ≤ e
    → KeepsInfos (HasRisen b c) h.infos (kept_infos s (modules_of d.modules).items) → KeepsNames (HasRisen c e) h.names (names_in s) → IsOwn s (HasRisen a e) h
own_held s d u h a b c e same read whole_list ab bc ce infos names = record {
  names_are = kept_wider (λ (names : Option (List ℕ)). names ≡ None) (HasRisen c e) (HasRisen a e) h.names (names_in s) (risen_between a c e e (omega arith) (omega arith)) names;
  modules_are = λ number. subst (λ (answer : Result (Option ModuleStream) Fault). KeepsAt AnswersSourceFault (HasRisen a e) (answered_at h.infos number) answer) (modules_given s d number read (list_ends d u whole_list))
      (kept_wider AnswersSourceFault (HasRisen b c) (HasRisen a e) (answered_at h.infos number) (answered_at (kept_infos s (modules_of d.modules).items) number) (risen_between a b c e ab ce)
      (answered_of (HasRisen b c) h.infos (kept_infos s (modules_of d.modules).items) number infos));
  count_is = length_all_zip (KeepsInfo (HasRisen b c)) h.infos (kept_infos s (modules_of d.modules).items) infos ∙ length_kept s (modules_of d.modules).items ∙ ap (λ (x : Dbi). length (modules_of x.modules).items) (sym same);
}

kept_alike : (failed : Type 0) (infos : List KeptInfo) → KeepsInfos failed infos infos
kept_alike failed [] = tt
kept_alike failed (info ∷ infos) = (inl refl, kept_alike failed infos)

-- names that were stored, and modules that are what the file has
pub own_listed : (s : Streams) (d : Dbi) (h : Held) → h.debug_information ≡ d → debug_information (shared s) ≡ Ok d → listed d ≡ Ok tt
    → h.infos ≡ kept_infos s (modules_of d.modules).items → KeepsNames (HasRisen 0 0) h.names (names_in s) → IsOwn s (HasRisen 0 0) h
own_listed s d h same read whole_list infos names =
    own_held s d tt h 0 0 0 0 same read whole_list (omega arith) (omega arith) (omega arith)
    (subst (λ (there : List KeptInfo). KeepsInfos (HasRisen 0 0) h.infos there) infos (kept_alike (HasRisen 0 0) h.infos)) names

-- ---- a list that was read before

-- its modules are those of the list
pub same_modules : (l : Listing Module) (modules : List Module) → l.fault ≡ None → whole l ≡ Ok modules → modules ≡ l.items
same_modules l modules ends h = let is = whole_is l ends in cc

not_missing : {A : Type 0} (l : Listing Module) (e : Fault) → l.fault ≡ None → whole l ≡ Err e → A
not_missing l e ends h = let is = whole_is l ends in absurd cc

-- nothing but memory keeps it from being read again
pub memory_alone : (l : Listing Module) (e : Error) → l.fault ≡ None → (IsOutside e ⊥ ⊎ (whole l ≡ Err (fault_of e))) → e ≡ errors.OutOfMemory
memory_alone l errors.OutOfMemory ends h = refl
memory_alone l (errors.IoError kind) ends (inl h) = absurd h.1
memory_alone l e ends (inl h) = absurd h
memory_alone l e ends (inr h) = not_missing l (fault_of e) ends h

-- what is the file's, but for failures since a later moment, is so since an earlier one
pub own_wider : (s : Streams) (h : Held) (a b : Type 0) → (a → b) → IsOwn s a h → IsOwn s b h
own_wider s h a b wider own = record {
  names_are = kept_wider (λ (names : Option (List ℕ)). names ≡ None) a b h.names (names_in s) wider own.names_are;
  modules_are = λ number. kept_wider AnswersSourceFault a b (answered_at h.infos number) (given s number) wider (own.modules_are number);
  count_is = own.count_is;
}

-- the same of what a call returned
pub own_if : {E : Type 0} (r : Result Held E) (s t : Streams) (a b c : ℕ) → s ≡ t → a ≤ b → IfOk r (λ d. IsOwn s (HasRisen b c) d) → IfOk r (λ d. IsOwn t (HasRisen a c) d)
own_if (Ok d) s t a b c same ab own = own_wider t d (HasRisen b c) (HasRisen a c) (risen_between a b c c ab (omega arith)) (rw same at own)
own_if (Err e) s t a b c same ab own = tt
