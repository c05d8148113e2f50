-- Modules that name one stream have the same bytes, each in its own parts.
use Rattle.std.proofs.Common.{◌≡◌, ℕ, ◌≤◌, List, Bool, true, false, Result, Ok, Err, inl, inr, refl, sym, ap, subst, ◌∙◌, cond, arith}
use Rattle.std.specs.Prelude.{Option, None, Some, option_map, IfOk}
use Rattle.std.specs.Cmp.{Equal-is}
use Rattle.std.specs.BTreeMap.{BTreeMap, get, is_at, Updates}
use Rattle.std.specs.Ordering.{nat_cmp}
use Rattle.std.specs.Result.{IsErrAnd}
use Rattle.std.proofs.lemmas.Option.{same_Some}
use Rattle.std.proofs.lemmas.Map.Lookups.{CmpEqualImpliesEq}
use Rattle.pdb_container.specs.declared.error.Error.{Error}
use Rattle.pdb_container.specs.Fault.{Fault, ◌>>=◌, Gives, HasRisen}
use Rattle.pdb_loading.proofs.KeptSteps.{risen_between}
use Rattle.pdb_loading.specs.ModuleInfos.{KeptInfo, kept_info, IsSourceFault, KeepsInfo}
use Rattle.pdb_loading.specs.Sharing.{in_parts_of, IsOfStream, KeepsStream, AreOfStreams, IsShared}
use Rattle.pdb_symbols_modules.specs.DatabaseCalls.{module_info}
use Rattle.pdb_symbols_modules.specs.Modules.{Module}
use Rattle.pdb_symbols_modules.specs.Shared.{info_in, module_stream}
use Rattle.pdb_symbols_modules.specs.Streams.{Streams, if_named}

-- ---- one stream

found_parts : (m n : Module) (found : Result (Option (List ℕ)) Fault)
    → kept_info (found >>= λ f. Ok (option_map (module_stream n) f)) ≡ in_parts_of n (kept_info (found >>= λ f. Ok (option_map (module_stream m) f)))
found_parts m n (Ok None) = refl
found_parts m n (Ok (Some bytes)) = refl
found_parts m n (Err e) = refl

-- what is stored of one module is what another one has that names the same stream
pub own_parts : (s : Streams) (m : Module) → IsOfStream s m.stream (kept_info (module_info s m))
unfolding module_info info_in
own_parts s m n same = subst (λ (number : ℕ). kept_info (if_named number (s.at number) >>= λ f. Ok (option_map (module_stream n) f)) ≡ in_parts_of n (kept_info (if_named m.stream (s.at m.stream) >>= λ f. Ok (option_map (module_stream m) f))))
    (sym same) (found_parts m n (if_named m.stream (s.at m.stream)))

-- a fault is one fault in the parts of each module
same_fault : (m : Module) (kept : KeptInfo) → IsErrAnd kept IsSourceFault → IsErrAnd (in_parts_of m kept) IsSourceFault
same_fault m (Ok None) h = h
same_fault m (Ok (Some info)) h = h
same_fault m (Err fault) h = h

-- a module has what was stored of the stream that it names
of_stream : (s : Streams) (m : Module) (failed : Type 0) (kept : KeptInfo) → KeepsStream s failed m.stream kept → KeepsInfo failed (in_parts_of m kept) (kept_info (module_info s m))
of_stream s m failed kept (inl h) = inl (sym (h m refl))
of_stream s m failed kept (inr h) = inr (h.0, same_fault m kept h.1)

-- what was read for a module is stored of the stream that it names
first_of_stream : (s : Streams) (m : Module) (failed : Type 0) (kept : KeptInfo) → KeepsInfo failed kept (kept_info (module_info s m)) → KeepsStream s failed m.stream kept
first_of_stream s m failed kept (inl h) = inl (subst (λ (k : KeptInfo). IsOfStream s m.stream k) (sym h) (own_parts s m))
first_of_stream s m failed kept (inr h) = inr h

-- ---- one module more

-- what was shared, as a call gives it
abbrev gives : KeptInfo → Result KeptInfo Fault
gives info = Ok info

same_info : (k info : KeptInfo) → gives k ≡ gives info → k ≡ info
same_info k info same = cc

-- a stream that was read before, by what was shared then
pub shared_again : (s : Streams) (m : Module) (old number : ℕ) (read : BTreeMap ℕ KeptInfo) (kept : KeptInfo) (r : Result KeptInfo Error) → number ≡ m.stream → get nat_cmp read number ≡ Some kept
    → Gives (λ k. k) ⊥ r (gives (in_parts_of m kept)) → IfOk r (λ k. (before : ℕ) → before ≤ old → AreOfStreams s (HasRisen before old) read → IsShared s m (HasRisen before old) k read)
shared_again s m old number read kept (Ok info) named found shared = λ before low are.
    let own = of_stream s m (HasRisen before old) kept (are.each m.stream kept (subst (λ (n : ℕ). get nat_cmp read n ≡ Some kept) named found)) in
    record { own = subst (λ (k : KeptInfo). KeepsInfo (HasRisen before old) k (kept_info (module_info s m))) (same_info (in_parts_of m kept) info shared) own; others = are }
shared_again s m old number read kept (Err e) named found shared = tt

stream_wider : (s : Streams) (a b : Type 0) (number : ℕ) (kept : KeptInfo) → (a → b) → KeepsStream s a number kept → KeepsStream s b number kept
stream_wider s a b number kept wider (inl h) = inl h
stream_wider s a b number kept wider (inr h) = inr (wider h.0, h.1)

-- a stream that is read for the first time
pub shared_first : (s : Streams) (m : Module) (before old new : ℕ) (read after : BTreeMap ℕ KeptInfo) (kept : KeptInfo) → CmpEqualImpliesEq nat_cmp → before ≤ old → old ≤ new
    → KeepsInfo (HasRisen old new) kept (kept_info (module_info s m)) → Updates nat_cmp read after m.stream (Some kept)
    → AreOfStreams s (HasRisen before old) read → IsShared s m (HasRisen before new) (in_parts_of m kept) after
shared_first s m before old new read after kept exact low high is updated are =
    record { own = of_stream s m (HasRisen before new) kept first; others = record { each = λ number there e. step number there (is_at (nat_cmp m.stream) number) refl (sym (updated.0 number) ∙ e) } }
  where
    first : KeepsStream s (HasRisen before new) m.stream kept
    first = stream_wider s (HasRisen old new) (HasRisen before new) m.stream kept (risen_between before old new new low (omega arith)) (first_of_stream s m (HasRisen old new) kept is)

    step : (number : ℕ) (there : KeptInfo) (b : Bool) → is_at (nat_cmp m.stream) number ≡ b → cond (is_at (nat_cmp m.stream) number) (Some kept) (get nat_cmp read number) ≡ Some there
        → KeepsStream s (HasRisen before new) number there
    step number there true t e =
        let same : m.stream ≡ number = exact m.stream number ((Equal-is (nat_cmp m.stream number)).0 t) in
        let w : kept ≡ there = same_Some _ _ (sym (ap (λ b. cond b (Some kept) (get nat_cmp read number)) t) ∙ e) in
        subst (λ (z : ℕ). KeepsStream s (HasRisen before new) z there) same (subst (λ (z : KeptInfo). KeepsStream s (HasRisen before new) m.stream z) w first)
    step number there false t e =
        stream_wider s (HasRisen before old) (HasRisen before new) number there (risen_between before before old new (omega arith) high) (are.each number there (sym (ap (λ b. cond b (Some kept) (get nat_cmp read number)) t) ∙ e))

-- the same by the number that was read, and by what was shared then
pub shared_then : (s : Streams) (m : Module) (before old new : ℕ) (read after : BTreeMap ℕ KeptInfo) (kept info : KeptInfo) (number : ℕ) → CmpEqualImpliesEq nat_cmp → number ≡ m.stream → old ≤ new
    → KeepsInfo (HasRisen old new) kept (kept_info (module_info s m)) → gives (in_parts_of m kept) ≡ gives info → Updates nat_cmp read after number (Some kept)
    → before ≤ old → AreOfStreams s (HasRisen before old) read → IsShared s m (HasRisen before new) info after
shared_then s m before old new read after kept info number exact named high is shared updated low are =
    let own = shared_first s m before old new read after kept exact low high is (subst (λ (n : ℕ). Updates nat_cmp read after n (Some kept)) named updated) are in
    subst (λ (k : KeptInfo). IsShared s m (HasRisen before new) k after) (same_info (in_parts_of m kept) info shared) own
