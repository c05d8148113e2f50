-- Modules of a file that are read when they are asked for.
use Rattle.std.proofs.Common.{◌≡◌, ℕ, ◌+◌, ◌<◌, ◌⊎◌, zero, suc, List, [], ◌∷◌, ◌++◌, length, get_or, take, Result, Ok, Err, inl, inr, refl, sym, ap, subst, ◌∙◌, arith}
use Rattle.std.specs.Prelude.{Option, None, Some, option_map, slice_get}
use Rattle.std.specs.List.{All}
use Rattle.std.proofs.lemmas.List.{take_more, map-append}
use Rattle.std.proofs.lemmas.List.Elements.{All-get_or}
use Rattle.std.proofs.lemmas.Option.{get_or_from_slice_get, slice_get_within}
use Rattle.pdb_container.specs.declared.error.Error.{Error}
use Rattle.pdb_container.specs.declared.error.Error.TheVariants as errors
use Rattle.pdb_container.specs.Fault.{Fault, fault_of, kept_of, IsOutside, HasRisen, Gives}
use Rattle.pdb_loading.specs.declared.file_modules.ModuleSlot.{ModuleSlot}
use Rattle.pdb_loading.specs.declared.file_reader.ModuleParts.{ModuleParts}
use Rattle.pdb_loading.specs.FileModules.{parts_of, entry_of, kept_by, kept_in, IsOfFile}
use Rattle.pdb_loading.specs.Held.{kept_infos}
use Rattle.pdb_loading.specs.ModuleInfos.{KeptInfo, kept_info, kept_as, IsStreamFault, FailsAsStream}
use Rattle.pdb_loading.specs.Sharing.{in_parts_of}
use Rattle.pdb_loading.proofs.SharedStreams.{own_parts}
use Rattle.pdb_symbols_modules.specs.DatabaseCalls.{module_info}
use Rattle.pdb_symbols_modules.specs.ModuleStream.{ModuleStream}
use Rattle.pdb_symbols_modules.specs.Modules.{Module}
use Rattle.pdb_symbols_modules.specs.Shared.{info_in}
use Rattle.pdb_symbols_modules.specs.Streams.{streams}

-- ---- one module that is read

-- no failure was counted where the count can't rise
rise : HasRisen 0 0 → ⊥
rise h = omega (arith, h)

not_of_stream : (e : Fault) (read : Result (Option ModuleStream) Fault) → FailsAsStream read → read ≡ Err e → IsStreamFault e
not_of_stream e read fails h = rw h at fails

-- what is stored of a module, as a call gives it
abbrev gives : KeptInfo → Result KeptInfo Fault
gives info = Ok info

-- what was read is stored as it is
pub info_read : (found : Option ModuleStream) (read : Result (Option ModuleStream) Fault) → read ≡ Ok found → gives (kept_info read) ≡ gives (Ok found)
info_read found read h = ap (λ r. gives (kept_info r)) h

-- the fault of a stream is stored, and any other error is out of memory
pub info_given : (e : Error) (read : Result (Option ModuleStream) Fault) → FailsAsStream read
    → (IsOutside e (HasRisen 0 0) ⊎ (read ≡ Err (fault_of e))) → Gives {X = KeptInfo} {Y = KeptInfo} (λ k. k) ⊥ (kept_as (kept_of e)) (gives (kept_info read))
info_given errors.OutOfMemory read fails h = inl tt
info_given (errors.StreamNotFound n) read fails (inl h) = absurd h
info_given (errors.StreamNotFound n) read fails (inr h) = ap (λ r. gives (kept_info r)) h
info_given (errors.PageReferenceOutOfRange n) read fails (inl h) = absurd h
info_given (errors.PageReferenceOutOfRange n) read fails (inr h) = ap (λ r. gives (kept_info r)) h
info_given (errors.IoError kind) read fails (inl h) = absurd (rise h.1)
info_given (errors.IoError kind) read fails (inr h) = ap (λ r. gives (kept_info r)) h
info_given errors.UnexpectedEof read fails (inl h) = absurd h
info_given errors.UnexpectedEof read fails (inr h) = ap (λ r. gives (kept_info r)) h
info_given e read fails (inl h) = absurd h
info_given e read fails (inr h) = absurd (not_of_stream (fault_of e) read fails h)

-- a module that names the stream of another one has that one's bytes in its own parts
pub same_stream : (file : List ℕ) (p q : ModuleParts) → p.stream ≡ q.stream → in_parts_of (entry_of q) (kept_by file p) ≡ kept_by file q
same_stream file p q same = sym (own_parts (streams file) (entry_of p) (entry_of q) (sym same))

-- ---- slots

-- a slot among those of a file is one of the file
pub slot_of_file : (file : List ℕ) (slots : List ModuleSlot) (k : ℕ) (slot : ModuleSlot) → All (IsOfFile file) slots → slice_get slots k ≡ Some slot → IsOfFile file slot
slot_of_file file slots k slot all is = subst (IsOfFile file) (get_or_from_slice_get slots k slot slot is) (All-get_or (IsOfFile file) slots k slot (slice_get_within slots k slot is) all)

get_in : (file : List ℕ) (slots : List ModuleSlot) (k : ℕ) → slice_get (kept_in file slots) k ≡ option_map (λ (slot : ModuleSlot). kept_by file slot.parts) (slice_get slots k)
get_in file [] k = refl
get_in file (slot ∷ slots) zero = refl
get_in file (slot ∷ slots) (suc k) = get_in file slots k

abbrev gives_if : Option KeptInfo → Result (Option KeptInfo) Fault
gives_if info = Ok info

same_info : (k info : KeptInfo) → gives k ≡ gives info → k ≡ info
same_info k info same = cc

-- what is stored in a slot is there under the slot's index
pub slot_there : (file : List ℕ) (slots : List ModuleSlot) (k : ℕ) (slot : ModuleSlot) (info : KeptInfo) → slice_get slots k ≡ Some slot → gives (kept_by file slot.parts) ≡ gives info
    → gives_if (slice_get (kept_in file slots) k) ≡ gives_if (Some info)
slot_there file slots k slot info is same =
    ap gives_if
    (get_in file slots k ∙ ap (option_map (λ (s : ModuleSlot). kept_by file s.parts)) is
    ∙ ap (λ (x : KeptInfo). Some x) (same_info (kept_by file slot.parts) info same))

-- past the slots nothing is
pub slot_past : (file : List ℕ) (slots : List ModuleSlot) (k : ℕ) → slice_get slots k ≡ None → gives_if (slice_get (kept_in file slots) k) ≡ gives_if None
slot_past file slots k is = ap gives_if (get_in file slots k ∙ ap (option_map (λ (s : ModuleSlot). kept_by file s.parts)) is)

-- ---- a slot for each module

-- nothing that is stored depends on names
nameless : (file : List ℕ) (m : Module) → kept_by file (parts_of m) ≡ kept_info (module_info (streams file) m)
unfolding module_info info_in
nameless file m = refl

-- one slot more stores what the file has of one module more
pub slots_more : (file : List ℕ) (modules : List Module) (i : ℕ) (m : Module) (slots : List ModuleSlot) (slot : ModuleSlot) → i < length modules → m ≡ get_or modules i m → slot.parts ≡ parts_of m
    → kept_in file slots ≡ kept_infos (streams file) (take i modules) → kept_in file (slots ++ slot ∷ []) ≡ kept_infos (streams file) (take (i + 1) modules)
slots_more file modules i m slots slot lt is parts so_far =
    map-append (λ (s : ModuleSlot). kept_by file s.parts) slots (slot ∷ [])
    ∙ ap (λ (infos : List KeptInfo). infos ++ kept_by file slot.parts ∷ []) so_far
    ∙ ap (λ (k : KeptInfo). kept_infos (streams file) (take i modules) ++ k ∷ []) (ap (kept_by file) parts ∙ nameless file m)
    ∙ sym (map-append (λ (x : Module). kept_info (module_info (streams file) x)) (take i modules) (m ∷ []))
    ∙ ap (kept_infos (streams file)) (ap (λ (x : Module). take i modules ++ x ∷ []) is ∙ sym (take_more modules i m lt))
