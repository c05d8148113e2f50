-- A context over what is held of a loaded file answers as the file does.
use Rattle.std.proofs.Common.{◌≡◌, ℕ, List, Result, Ok, Err, refl, sym, ap, ◌∙◌}
use Rattle.std.specs.Prelude.{Option, Some}
use mathlib.Core.Path.{fun_ext}
use Rattle.pdb_container.specs.declared.error.Error.TheVariants as errors
use Rattle.pdb_addresses.specs.Addresses.{IsOrdered}
use Rattle.pdb_symbols_modules.specs.Machine.{machine_of}
use Rattle.pdb_symbols_modules.specs.Modules.{modules_of}
use Rattle.pdb_symbols_modules.specs.Shared.{shared}
use Rattle.pdb_symbols_modules.specs.Streams.{Streams, streams}
use Rattle.pdb_resolving.specs.declared.error.Error as context
use Rattle.pdb_resolving.specs.declared.error.Error.TheVariants as contexts
use Rattle.pdb_resolving.specs.Fault as answers
use Rattle.pdb_resolving.specs.Resolving.{Provided, none_failed}
use Rattle.pdb_module_items.specs.Reading.{pointer_bytes}
use Rattle.pdb_addr2line.specs.Printing.{Formatting}
use Rattle.pdb_addr2line.specs.Choice.{Parts}
use Rattle.pdb_loading.specs.declared.order.ContributionOrder.{ContributionOrder}
use Rattle.pdb_frames.specs.Scopes.{Scope, scope_of}
use Rattle.pdb_addr2line.specs.Context.{Context, context_over}
use Rattle.pdb_addr2line.specs.FailingParts.{no_failures}
use Rattle.pdb_frames.specs.FramesAt.{frames, function}
use Rattle.pdb_addr2line.specs.Formatters as held
use Rattle.pdb_frames.specs.Files.{files_of}
use Rattle.pdb_frames.specs.Runs.{database_of}
use Rattle.pdb_loading.specs.declared.load_fault.LoadFault.{LoadFault}
use Rattle.pdb_loading.specs.declared.load_fault.LoadFault.TheVariants as faults
use Rattle.pdb_loading.specs.Held.{Held, given, names_in, parts_held_with}
use Rattle.pdb_loading.specs.LoadFaults.{load_fault_in_context}
use Rattle.pdb_loading.specs.LoadedFile.{FileBytes, IsLoadedWith}
use Rattle.pdb_loading.specs.Loading.{Loaded, loaded_with}
use Rattle.pdb_loading.specs.ModuleInfos.{KeptInfo, answered_at}
use Rattle.pdb_addr2line.specs.Answer.{AnswersNamed, Listing, answer_named, answer_by, answered_in, database_named, database_by, files_named, files_by, frames_named, frames_by, function_named, function_by, given_in, listing_named, listing_by, map_with, map_by, scope_named}
use Rattle.pdb_frames.specs.FrameRuns.{frames_of_places}

-- a file that was loaded, by its bytes and the order
pub same_file : (f g : FileBytes) (bytes : List ℕ) (order : ContributionOrder) → f ≡ g → g.bytes ≡ bytes → g.order ≡ order → f ≡ record { bytes = bytes; order = order }
same_file f g bytes order is bytes_are order_is = is ∙ (λ i. record { bytes = bytes_are i; order = order_is i })

-- ---- a context answers as the file does

-- the context that was made, if one was
abbrev made_or : Context (List KeptInfo) → Result (Context (List KeptInfo)) answers.Fault → Context (List KeptInfo)
made_or c (Ok made) = made
made_or c (Err e) = c

memory_alone : (e : context.Error) (c : Context (List KeptInfo)) → answers.Fails e (Ok c) → load_fault_in_context e ≡ faults.OutOfMemory
memory_alone contexts.OutOfMemory c h = refl
memory_alone (contexts.PdbError errors.OutOfMemory) c h = absurd h
memory_alone (contexts.FormatError cause) c h = absurd h
memory_alone e c h = absurd cc

-- a formatter over what gives modules
abbrev over_given : ℕ → Provided → Option (List ℕ) → Held → Formatting Provided
over_given flags p names h = record {
  reading = record {
    modules = record { provider = p; entries = (modules_of h.debug_information.modules).items; names = names; failed = none_failed };
    types = h.tables.types;
    ids = h.tables.ids;
    pointer_size = pointer_bytes (machine_of h.debug_information.machine);
  };
  flags = flags;
}

-- what an answer in the module with an index depends on, by what gives modules
abbrev scope_given : ℕ → Provided → Option (List ℕ) → Held → ℕ → Scope
scope_given flags p names h m = scope_of (λ (q : Provided). q) p (over_given flags p names h) m

same_given : (s : Streams) (h : Held) → ((number : ℕ) → answered_at h.infos number ≡ given s number) → answered_in h.infos ≡ given_in s
same_given s h modules_are = fun_ext λ number. fun_ext λ entry. modules_are number

same_scope : (flags : ℕ) (s : Streams) (h : Held) (parts : Parts) (m : ℕ) → ((number : ℕ) → answered_at h.infos number ≡ given s number) → h.names ≡ names_in s
    → scope_of answered_in h.infos (held.formatting_of h flags) m ≡ scope_named flags s (record { debug_information = h.debug_information; tables = h.tables; parts = parts }) m
unfolding scope_named
same_scope flags s h parts m modules_are names_are =
    ap (λ p. scope_given flags p h.names h m) (same_given s h modules_are) ∙ ap (λ names. scope_given flags (given_in s) names h m) names_are

-- a context over what is stored
abbrev context_of : ℕ → Held → Parts → Context (List KeptInfo)
context_of flags h parts = record { provider = h.infos; parts = parts; formatting = held.formatting_of h flags; lookups = 0; failed = no_failures }

-- what its list of functions goes over
abbrev listing_in : Held → Parts → (ℕ → Scope) → Listing
listing_in h parts known = record { parts = parts; scope = known; entries = (modules_of h.debug_information.modules).items }

over_kept : (flags : ℕ) (order : ContributionOrder) (file : List ℕ) (h : Held) → IsLoadedWith order file h → (parts : Parts) → parts_held_with order h ≡ Ok parts
    → loaded_with order (shared (streams file)) ≡ Ok (record { debug_information = h.debug_information; tables = h.tables; parts = parts }) → AnswersNamed flags order answered_in (streams file) (context_of flags h parts)
unfolding answer_named function_named database_named frames_named files_named listing_named
over_kept flags order file h is parts parts_are loaded_is =
    let s = streams file in
    let l : Loaded = record { debug_information = h.debug_information; tables = h.tables; parts = parts } in
    let scopes = fun_ext (λ m. same_scope flags s h parts m is.modules_are is.names_are) in
    record {
      frames = fun_ext (λ a. ap (λ known. frames parts known a) scopes ∙ ap (λ r. answer_by flags s r a) (sym loaded_is));
      functions = fun_ext (λ a. ap (λ known. function parts known a) scopes ∙ ap (λ r. function_by flags s r a) (sym loaded_is));
      places = ap (λ known. database_of parts known) scopes ∙ ap (λ r. database_by flags s r) (sym loaded_is);
      by_frames = ap (λ known. frames_of_places parts known) scopes ∙ ap (λ r. frames_by flags s r) (sym loaded_is);
      by_file = ap (λ known. files_of parts known) scopes ∙ ap (λ r. files_by flags s r) (sym loaded_is);
      list = ap (λ known. Some (listing_in h parts known)) scopes ∙ ap (λ r. listing_by flags s r) (sym loaded_is);
    }

context_is : (flags : ℕ) (order : ContributionOrder) (file : List ℕ) (h : Held) (c : Context (List KeptInfo)) → (is : IsLoadedWith order file h) → held.context_with order h flags ≡ Ok c → context_of flags h is.parts ≡ c
context_is flags order file h c is made =
    ap (made_or c) (ap (λ r. context_over h.infos (held.formatting_of h flags) r) (sym is.parts_are) ∙ made)

-- the context that was made is that over what is stored
pub context_answers : (flags : ℕ) (order : ContributionOrder) (file : List ℕ) (h : Held) (c : Context (List KeptInfo)) → IsLoadedWith order file h → held.context_with order h flags ≡ Ok c → AnswersNamed flags order answered_in (streams file) c
context_answers flags order file h c is made =
    rw (sym (context_is flags order file h c is made)) (over_kept flags order file h is is.parts is.parts_are is.loaded_is)

-- nothing but memory keeps a context from being made
pub context_made : (flags : ℕ) (order : ContributionOrder) (file : List ℕ) (h : Held) (e : context.Error) → IsLoadedWith order file h → answers.Fails e (held.context_with order h flags) → load_fault_in_context e ≡ faults.OutOfMemory
context_made flags order file h e is failed = memory_alone e _ (rw is.parts_are at failed)

-- a context that was made was asked nothing
pub context_unasked : (flags : ℕ) (order : ContributionOrder) (file : List ℕ) (h : Held) (c : Context (List KeptInfo)) → IsLoadedWith order file h → held.context_with order h flags ≡ Ok c → c.lookups ≡ 0
context_unasked flags order file h c is made = sym (ap (λ (k : Context (List KeptInfo)). k.lookups) (context_is flags order file h c is made))

-- nothing stands as failed in a context that was made
pub context_unfailed : (flags : ℕ) (order : ContributionOrder) (file : List ℕ) (h : Held) (c : Context (List KeptInfo)) → IsLoadedWith order file h → held.context_with order h flags ≡ Ok c → c.failed ≡ no_failures
context_unfailed flags order file h c is made = sym (ap (λ (k : Context (List KeptInfo)). k.failed) (context_is flags order file h c is made))

-- the address map that is stored is the file's
pub map_kept : (order : ContributionOrder) (file : List ℕ) (h : Held) → IsLoadedWith order file h → map_with order (streams file) ≡ Some h.tables.map
unfolding map_with
map_kept order file h is = ap map_by is.loaded_is

-- it is in order
pub map_ordered : (order : ContributionOrder) (file : List ℕ) (h : Held) → IsLoadedWith order file h → IsOrdered h.tables.map
map_ordered order file h is = is.ordered
