-- The law of isolation.
use Rattle.std.proofs.Common.{◌≡◌, ℕ, inl, inr, List, Result, Ok, Err, refl, sym, ap, ◌∙◌, subst}
use Rattle.std.specs.Prelude.{Option, None, Some, slice_get, option_map, option_and_then, not, OnOk, IfSome}
use Rattle.std.proofs.lemmas.Bool.Decides.{eqb_tells}
use mathlib.Core.Path.{fun_ext}
use Rattle.pdb_addr2line.specs.Choice as places
use Rattle.pdb_addr2line.specs.Choice.{held_at, place_of}
use Rattle.pdb_loading.specs.declared.order.ContributionOrder.{ContributionOrder}
use Rattle.pdb_frames.specs.FramesAt.{frames, frames_if_held, function, function_at as function_in}
use Rattle.pdb_loading.specs.Held.{given, names_in}
use Rattle.pdb_loading.specs.ModuleInfos.{if_read}
use Rattle.pdb_loading.specs.Loading.{tables, listed, Loaded, parts_in, none_or, loaded_with, load_fault_with, LoadingFault, AddressTableDecreases, lifted}
use Rattle.pdb_frames.specs.Scopes.{Scope}
use Rattle.pdb_engine.specs.Address.{address_of}
use Rattle.pdb_addresses.specs.Addresses.{is_ordered}
use Rattle.pdb_addresses.specs.declared.internal_section_offset.PdbInternalSectionOffset.{PdbInternalSectionOffset}
use Rattle.pdb_container.specs.Fault as container
use Rattle.pdb_container.specs.Fault.{refuse}
use Rattle.pdb_contributions.specs.declared.contribution.ModuleSectionContribution.{ModuleSectionContribution}
use Rattle.pdb_report.specs.Answer.{given_in, formatting_in, scope, answer_with, answer_by, function_with, function_by, answer_named, function_named, scope_named}
use Rattle.pdb_report.specs.Isolation.{AreAlikeFor, IsRelated, modules_in, holder_by, holder_with, IsIsolated, exchanged_with, exchanged_if}
use Rattle.pdb_report.specs.Isolation.IsRelated.{Itself, Reached}
use Rattle.pdb_report.specs.AddressText.{line_text, AddressAnswers}
use Rattle.pdb_resolving.specs.Reaches.{Reaches}
use Rattle.pdb_resolving.specs.Resolving.{Modules, resolve}
use Rattle.pdb_symbols_modules.specs.DatabaseCalls.{debug_information, names}
use Rattle.pdb_symbols_modules.specs.Dbi.{Dbi}
use Rattle.pdb_symbols_modules.specs.ModuleStream.{ModuleStream}
use Rattle.pdb_symbols_modules.specs.Modules.{Module, modules_of}
use Rattle.pdb_symbols_modules.specs.Shared.{Shared, shared}
use Rattle.pdb_symbols_modules.specs.Streams.{Streams, streams, fault_in}
use Rattle.pdb_module_items.specs.Reading.{Parts as Reading, parts_by}
use Rattle.pdb_report.proofs.NeededStreams.{NeedsAlike, needs_alike, shared_alike, given_alike}
use Rattle.pdb_resolving.proofs.ResolveAlike.{bind_cases, GivenAlike, resolve_alike}
use Rattle.pdb_module_items.proofs.ReadingAlike.{types_alike, ids_alike, sizes_alike}

-- ---- what an answer depends on

-- what was loaded has the module list of the file
loaded_dbi : (order : ContributionOrder) (c : Shared) (l : Loaded) → loaded_with order c ≡ Ok l → debug_information c ≡ Ok l.debug_information
unfolding loaded_with
loaded_dbi order c l e =
    bind_cases (lifted (none_or c.open_fault)) _ e λ _ _ e.
    bind_cases (lifted (debug_information c)) _ e λ dbi dbi_is e.
    bind_cases (lifted (tables c dbi)) _ e λ read _ e.
    bind_cases (refuse (not (is_ordered read.map)) AddressTableDecreases) _ e λ _ _ e.
    bind_cases (lifted (listed dbi)) _ e λ _ _ e.
    bind_cases (parts_in order c dbi read) _ e λ parts _ e.
    as_read (debug_information c) dbi dbi_is ∙ ap (λ (k : Loaded). Ok k.debug_information) (value_is _ l e)
  where
    as_read : (r : Result Dbi container.Fault) (x : Dbi) → lifted r ≡ Ok x → r ≡ Ok x
    as_read (Ok y) x e = cc
    as_read (Err f) x e = absurd cc

    value_is : (x y : Loaded) → (let r : Result Loaded LoadingFault = Ok x in r) ≡ Ok y → x ≡ y
    value_is x y e = cc

names_alike : (a b : Streams) (m : ℕ) → NeedsAlike m a b → names_in a ≡ names_in b
names_alike a b m h = ap (λ c. if_read (names c)) (shared_alike a b m h)

given_in_alike : (a b : Streams) (m k : ℕ) → NeedsAlike m a b → IsRelated a m k → given_in a k ≡ given_in b k
given_in_alike a b m k h related = λ i. λ entry. given_alike a b m k h related i

-- what types and ids are read from in a file that was loaded
abbrev reading_in : Streams → Loaded → Reading
reading_in s l = parts_by given_in (formatting_in 23 s l).reading

-- the modules of a file that was loaded
abbrev modules_loaded : Streams → Loaded → Modules
modules_loaded s l = (reading_in s l).modules

modules_are : (order : ContributionOrder) (s : Streams) (l : Loaded) → loaded_with order (shared s) ≡ Ok l → modules_in s ≡ modules_loaded s l
modules_are order s l e = rw (loaded_dbi order (shared s) l e) refl

all_given : (order : ContributionOrder) (a b : Streams) (m : ℕ) (l : Loaded) → NeedsAlike m a b → loaded_with order (shared a) ≡ Ok l → GivenAlike (modules_loaded a l) (given_in b) m
all_given order a b m l h e = record {
  itself = given_in_alike a b m m h (Itself refl);
  reached = λ k reaches. given_in_alike a b m k h (Reached (subst (λ (modules : Modules). Reaches modules m k) (sym (modules_are order a l e)) reaches));
}

indices_alike : (order : ContributionOrder) (a b : Streams) (m : ℕ) (l : Loaded) → NeedsAlike m a b → loaded_with order (shared a) ≡ Ok l → resolve (modules_loaded a l) m ≡ resolve (modules_loaded b l) m
indices_alike order a b m l h e =
    resolve_alike (modules_loaded a l) (given_in b) m (all_given order a b m l h e)
    ∙ ap (λ (found : Option (List ℕ)). resolve (record (modules_loaded b l) { names = found }) m) (names_alike a b m h)

-- what is given of a module that is listed
abbrev if_listed : Result (Option ModuleStream) container.Fault → Option Module → Result (Option ModuleStream) container.Fault
if_listed given None = Ok None
if_listed given (Some entry) = given

own_alike : (a b : Streams) (m : ℕ) (l : Loaded) → given a m ≡ given b m → (scope a l m).own ≡ (scope b l m).own
unfolding scope_named
own_alike a b m l same = ap (λ given. if_listed given (slice_get (modules_of l.debug_information.modules).items m)) same

-- an answer in the module depends on the same
pub scope_alike : (order : ContributionOrder) (a b : Streams) (m : ℕ) (l : Loaded) → NeedsAlike m a b → loaded_with order (shared a) ≡ Ok l → scope a l m ≡ scope b l m
unfolding scope_named
scope_alike order a b m l h e =
    let same = indices_alike order a b m l h e in
    λ i. record {
      own = own_alike a b m l (given_alike a b m m h (Itself refl)) i;
      env = record {
        read = types_alike (reading_in a l) (reading_in b l) m refl refl refl same i;
        read_id = ids_alike (reading_in a l) (reading_in b l) m refl refl refl same i;
        size = sizes_alike (reading_in a l) (reading_in b l) m refl refl refl same 1024 i;
        flags = (formatting_in 23 a l).flags;
      };
    }

-- ---- answers

-- the number of the module that holds an address
abbrev module_held : Option (ModuleSectionContribution × PdbInternalSectionOffset) → Option ℕ
module_held held = option_map (λ held. (held.0).module_index) held

frames_held : (p : places.Parts) (f g : ℕ → Scope) (m : ℕ) (held : Option (ModuleSectionContribution × PdbInternalSectionOffset)) → module_held held ≡ Some m → f m ≡ g m → frames_if_held p f held ≡ frames_if_held p g held
frames_held p f g m None e same = refl
frames_held p f g m (Some held) e same =
    let is : (held.0).module_index ≡ m = cc in
    rw (is, same) refl

function_held : (p : places.Parts) (f g : ℕ → Scope) (m : ℕ) (held : Option (ModuleSectionContribution × PdbInternalSectionOffset)) → module_held held ≡ Some m → f m ≡ g m
    → option_and_then (λ held. function_in p (f (held.0).module_index) held.0 held.1) held ≡ option_and_then (λ held. function_in p (g (held.0).module_index) held.0 held.1) held
function_held p f g m None e same = refl
function_held p f g m (Some held) e same =
    let is : (held.0).module_index ≡ m = cc in
    rw (is, same) refl

by_frames : (a b : Streams) (m x : ℕ) (r : Result Loaded LoadingFault) → holder_by r x ≡ Some m → ((l : Loaded) → r ≡ Ok l → scope a l m ≡ scope b l m) → answer_by 23 a r x ≡ answer_by 23 b r x
unfolding frames
by_frames a b m x (Err e) held same = refl
by_frames a b m x (Ok l) held same = frames_held l.parts (scope a l) (scope b l) m (held_at l.parts (place_of l.parts x)) held (same l refl)

by_function : (a b : Streams) (m x : ℕ) (r : Result Loaded LoadingFault) → holder_by r x ≡ Some m → ((l : Loaded) → r ≡ Ok l → scope a l m ≡ scope b l m) → function_by 23 a r x ≡ function_by 23 b r x
unfolding function
by_function a b m x (Err e) held same = refl
by_function a b m x (Ok l) held same = function_held l.parts (scope a l) (scope b l) m (held_at l.parts (place_of l.parts x)) held (same l refl)

answer_alike : (order : ContributionOrder) (a b : Streams) (m x : ℕ) → NeedsAlike m a b → holder_with order a x ≡ Some m → answer_with order a x ≡ answer_with order b x
unfolding holder_with answer_named
answer_alike order a b m x h held =
    by_frames a b m x (loaded_with order (shared a)) held (λ l e. scope_alike order a b m l h e) ∙ ap (λ c. answer_by 23 b (loaded_with order c) x) (shared_alike a b m h)

function_alike : (order : ContributionOrder) (a b : Streams) (m x : ℕ) → NeedsAlike m a b → holder_with order a x ≡ Some m → function_with order a x ≡ function_with order b x
unfolding holder_with function_named
function_alike order a b m x h held =
    by_function a b m x (loaded_with order (shared a)) held (λ l e. scope_alike order a b m l h e) ∙ ap (λ c. function_by 23 b (loaded_with order c) x) (shared_alike a b m h)

line_alike : (f g : AddressAnswers) (x : ℕ) (line : List ℕ) → f x ≡ g x → address_of line ≡ Some x → line_text f line ≡ line_text g line
unfolding line_text
line_alike f g x line same is = rw (is, same) refl

-- the law
pub isolated : (a : List ℕ) → IsIsolated a
isolated a order b m x h held =
    let needs = needs_alike a b m h in
    let same = answer_alike order (streams a) (streams b) m x needs held in
    record {
      frames = same;
      functions = function_alike order (streams a) (streams b) m x needs held;
      lines = λ line is. line_alike (answer_with order (streams a)) (answer_with order (streams b)) x line same is;
    }

-- the same fault of loading, or none
pub loads_alike : (order : ContributionOrder) (a b : List ℕ) (m : ℕ) → AreAlikeFor m a b → load_fault_with order (streams a) ≡ load_fault_with order (streams b)
loads_alike order a b m h = ap (λ c. fault_in (loaded_with order c)) (shared_alike (streams a) (streams b) m (needs_alike a b m h))

-- ---- exchanged answers

exchanged_held : {A : Type 0} (m : ℕ) (o : Option ℕ) (own other : A) → (o ≡ Some m → own ≡ other) → own ≡ exchanged_if m o own other
exchanged_held m None own other same = refl
exchanged_held m (Some k) own other same = elim (eqb_tells k m) [
  | inl equal ↦ rw equal.0 (same (ap Some equal.1))
  | inr other_one ↦ rw other_one.0 refl
]

-- the answers of a file are those that another one has where the module holds the address
pub exchanged_alike : (order : ContributionOrder) (a b : List ℕ) (m : ℕ) → AreAlikeFor m a b → answer_with order (streams a) ≡ exchanged_with order m (streams a) (streams b)
exchanged_alike order a b m h = fun_ext λ x.
    exchanged_held m (holder_with order (streams a) x) (answer_with order (streams a) x) (answer_with order (streams b) x) (λ held. (isolated a order b m x h held).frames)

-- what is out by a file's own answers is out by exchanged ones
pub exchanged_out : {T E : Type 0} (order : ContributionOrder) (a : List ℕ) (result : Result T E) (input : Option (List ℕ)) (Q : List ℕ → Type 0) (P : AddressAnswers → List ℕ → Type 0)
    → OnOk result (IfSome input (λ input. Q input × P (answer_with order (streams a)) input))
    → OnOk result (IfSome input (λ input. (other : List ℕ) (m : ℕ) → AreAlikeFor m a other → P (exchanged_with order m (streams a) (streams other)) input))
exchanged_out order a (Err e) input Q P h = tt
exchanged_out order a (Ok x) None Q P h = tt
exchanged_out order a (Ok x) (Some input) Q P h = λ other m alike. subst (λ (answers : AddressAnswers). P answers input) (exchanged_alike order a other m alike) h.1
