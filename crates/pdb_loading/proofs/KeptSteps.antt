-- What is stored of a module's stream and of the names, by what calls of an open database answer.
use Rattle.std.proofs.Common.{◌≡◌, ℕ, ◌+◌, ◌<◌, ◌≤◌, ◌⊎◌, List, [], ◌∷◌, ◌++◌, length, get_or, take, Result, Ok, Err, inl, inr, refl, sym, ap, subst, ◌∙◌, arith}
use Rattle.std.specs.Prelude.{Option, None, Some, map}
use Rattle.std.specs.Result.{IsErrAnd}
use Rattle.std.proofs.lemmas.List.{take_more}
use Rattle.std.proofs.lemmas.List.Elements.{AllZip-push}
use Rattle.pdb_container.specs.declared.error.Error.{Error}
use Rattle.pdb_container.specs.declared.error.Error.TheVariants as errors
use Rattle.pdb_container.specs.Fault.{Fault, fault_of, kept_of, IsOutside, HasRisen}
use Rattle.pdb_symbols_modules.specs.ModuleStream.{ModuleStream}
use Rattle.pdb_loading.specs.ModuleInfos.{KeptInfo, kept_info, kept_as, if_read, Keeps, KeepsAt, KeepsInfo, KeepsInfos, KeepsNames, IsSourceFault, IsStreamFault, FailsAsStream}
use Rattle.pdb_loading.specs.Held.{kept_infos}
use Rattle.pdb_symbols_modules.specs.Modules.{Module}
use Rattle.pdb_symbols_modules.specs.DatabaseCalls.{module_info}
use Rattle.pdb_symbols_modules.specs.Streams.{Streams}

-- ---- failures that are counted over a longer time

-- a count that rose within a time rose within a longer one
pub risen_between : (a b c e : ℕ) → a ≤ b → c ≤ e → HasRisen b c → HasRisen a e
risen_between a b c e ab ce risen = omega arith

-- what stands for a failure since a later moment stands for one since an earlier moment
pub kept_wider : {A : Type 0} (stands : A → Type 0) (a b : Type 0) (kept there : A) → (a → b) → KeepsAt stands a kept there → KeepsAt stands b kept there
kept_wider stands a b kept there wider (inl is) = inl is
kept_wider stands a b kept there wider (inr h) = inr (wider h.0, h.1)

-- the same of modules
pub infos_wider : (a b : Type 0) (kept there : List KeptInfo) → (a → b) → KeepsInfos a kept there → KeepsInfos b kept there
infos_wider a b [] [] wider h = h
infos_wider a b [] (t ∷ there) wider h = h
infos_wider a b (k ∷ kept) [] wider h = h
infos_wider a b (k ∷ kept) (t ∷ there) wider h = (kept_wider (λ (x : KeptInfo). IsErrAnd x IsSourceFault) a b k t wider h.0, infos_wider a b kept there wider h.1)

-- ---- the names

-- what was read is there
pub names_there : (x : List ℕ) (failed : Type 0) (read : Result (List ℕ) Fault) → read ≡ Ok x → KeepsNames failed (Some x) (if_read read)
names_there x failed read h = inl (sym (ap if_read h))

-- a fault other than out of memory is the file's or the source's
pub names_missing : (e : Error) (failed : Type 0) (read : Result (List ℕ) Fault) → (e ≡ errors.OutOfMemory → ⊥)
    → (IsOutside e failed ⊎ (read ≡ Err (fault_of e))) → KeepsNames failed None (if_read read)
names_missing errors.OutOfMemory failed read other h = absurd (other refl)
names_missing (errors.IoError kind) failed read other (inl h) = inr (h.1, refl)
names_missing (errors.IoError kind) failed read other (inr h) = inl (sym (ap if_read h))
names_missing e failed read other (inl h) = absurd h
names_missing e failed read other (inr h) = inl (sym (ap if_read h))

-- ---- a module

-- a module that was read is stored as it is
pub info_there : (found : Option ModuleStream) (failed : Type 0) (read : Result (Option ModuleStream) Fault) → read ≡ Ok found → KeepsInfo failed (Ok found) (kept_info read)
info_there found failed read h = inl (sym (ap kept_info h))

not_of_stream : (e : Fault) (read : Result (Option ModuleStream) Fault) → FailsAsStream read → read ≡ Err e → IsStreamFault e
not_of_stream e read fails h = rw h at fails

-- the fault of a stream is stored, and any other error is out of memory
pub info_kept : (e : Error) (failed : Type 0) (read : Result (Option ModuleStream) Fault) → FailsAsStream read
    → (IsOutside e failed ⊎ (read ≡ Err (fault_of e))) → Keeps {X = KeptInfo} {Y = KeptInfo} (KeepsInfo failed) (λ k. k) (kept_as (kept_of e)) (kept_info read)
info_kept errors.OutOfMemory failed read fails h = tt
info_kept (errors.StreamNotFound n) failed read fails (inl h) = absurd h
info_kept (errors.StreamNotFound n) failed read fails (inr h) = inl (sym (ap kept_info h))
info_kept (errors.PageReferenceOutOfRange n) failed read fails (inl h) = absurd h
info_kept (errors.PageReferenceOutOfRange n) failed read fails (inr h) = inl (sym (ap kept_info h))
info_kept (errors.IoError kind) failed read fails (inl h) = inr (h.1, h.0)
info_kept (errors.IoError kind) failed read fails (inr h) = inl (sym (ap kept_info h))
info_kept errors.UnexpectedEof failed read fails (inl h) = absurd h
info_kept errors.UnexpectedEof failed read fails (inr h) = inl (sym (ap kept_info h))
info_kept e failed read fails (inl h) = absurd h
info_kept e failed read fails (inr h) = absurd (not_of_stream (fault_of e) read fails h)

-- ---- one module more

map_more : (f : Module → KeptInfo) (modules : List Module) (m : Module) → map f (modules ++ m ∷ []) ≡ map f modules ++ f m ∷ []
map_more f [] m = refl
map_more f (x ∷ modules) m = ap (λ rest. f x ∷ rest) (map_more f modules m)

-- one module more was stored after those before it
pub infos_more : (s : Streams) (modules : List Module) (i : ℕ) (m : Module) (infos : List KeptInfo) (k : KeptInfo) (a b : Type 0) → i < length modules → m ≡ get_or modules i m → (a → b)
    → KeepsInfos a infos (kept_infos s (take i modules)) → KeepsInfo b k (kept_info (module_info s m)) → KeepsInfos b (infos ++ k ∷ []) (kept_infos s (take (i + 1) modules))
infos_more s modules i m infos k a b lt is wider so_far new =
    let more : kept_infos s (take i modules) ++ kept_info (module_info s m) ∷ [] ≡ kept_infos s (take (i + 1) modules) =
    sym (map_more (λ x. kept_info (module_info s x)) (take i modules) m) ∙ ap (kept_infos s) (ap (λ (x : Module). take i modules ++ x ∷ []) is ∙ sym (take_more modules i m lt)) in
    subst (λ (there : List KeptInfo). KeepsInfos b (infos ++ k ∷ []) there) more
    (AllZip-push (KeepsInfo b) infos (kept_infos s (take i modules)) k (kept_info (module_info s m)) (infos_wider a b infos (kept_infos s (take i modules)) wider so_far) new)
