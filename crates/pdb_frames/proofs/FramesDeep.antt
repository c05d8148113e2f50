-- There are as many frames as the deepest site is deep, and the function's.
use Rattle.std.proofs.Common.{◌≡◌, ℕ, ◌+◌, Result, Ok, Err, List, [], ◌∷◌, ◌++◌, length, refl, sym, ap, ◌∙◌, length-append}
use Rattle.std.specs.Prelude.{Option, None, Some, map, slice_get}
use Rattle.std.proofs.lemmas.List.{length-map}
use Rattle.pdb_container.specs.Fault as container
use Rattle.pdb_container.specs.Fault.{◌>>=◌}
use Rattle.pdb_addresses.specs.declared.internal_section_offset.PdbInternalSectionOffset.{PdbInternalSectionOffset}
use Rattle.pdb_contributions.specs.declared.contribution.ModuleSectionContribution.{ModuleSectionContribution}
use Rattle.pdb_lines.specs.Inlinees.{InlinedFunction}
use Rattle.pdb_symbols_modules.specs.ModuleStream.{ModuleStream, iteration_in}
use Rattle.pdb_module_data.specs.Forest.{Site, SitesFault, past, sites_from, sites_of}
use Rattle.pdb_module_data.specs.Forest as forest
use Rattle.pdb_module_data.specs.FunctionLine.{function_row}
use Rattle.pdb_module_data.specs.InlinedCalls.{IsNested, call_rows, calls_over, deepest}
use Rattle.pdb_module_data.specs.Procedures.{Procedure}
use Rattle.pdb_module_data.specs.declared.function_rows.LineRow.{LineRow}
use Rattle.pdb_module_data.specs.declared.inlined_calls.InlinedCall.{InlinedCall}
use Rattle.pdb_module_data.proofs.ChainSteps.{calls_deep}
use Rattle.pdb_module_data.proofs.ChainSteps as chains
use Rattle.pdb_module_data.proofs.NestedSites.{forest_nested}
use Rattle.pdb_resolving.specs.Fault.{Fault, lifted}
use Rattle.pdb_names.specs.Env.{Env}
use Rattle.pdb_owners.specs.Frames.{Frame, FunctionFrames}
use Rattle.pdb_known_modules.specs.KnownModules.{ModuleData, ExtendedModule, extended_of, module_data, procedure_calls, procedure_sites, procedures_in, sites_lifted}
use Rattle.pdb_frames.specs.Choice.{Parts, Chosen, Proc, Public, chosen, held_at, place_of, start_address, start_of}
use Rattle.pdb_frames.specs.ChosenNames.{name_of}
use Rattle.pdb_frames.specs.Depth.{AreAsDeep, depth_at, depth_among, depth_by, depth_in, depth_of}
use Rattle.pdb_frames.specs.FramesAt.{call_frame, calls_in, found_frames, frames, frames_at, frames_if_held, frames_in, frames_in_data, frames_of_chosen, function_frame, row_and_calls}
use Rattle.pdb_frames.specs.Scopes.{Scope}

-- ---- chains of readings

err_is_not_ok : {A F : Type 0} {x : A} {e : F} → Err e ≡ Ok x → ⊥
err_is_not_ok {A} {F} {x} {e} h = cc

none_is_not_some : {A : Type 0} {x : A} → None ≡ Some x → ⊥
none_is_not_some {A} {x} h = cc

same_ok : {A F : Type 0} {x y : A} → (let r : Result A F = Ok x in r) ≡ Ok y → x ≡ y
same_ok {A} {F} {x} {y} h = cc

same_some : {A : Type 0} {x y : A} → Some x ≡ Some y → x ≡ y
same_some {A} {x} {y} h = cc

-- what a chain that has a value goes through
step : {A B F : Type 0} (r : Result A F) (next : A → Result B F) (y : B) → (r >>= next) ≡ Ok y → (x : A) × (r ≡ Ok x) × (next x ≡ Ok y)
step (Ok x) next y h = (x, refl, h)
step (Err e) next y h = absurd (err_is_not_ok h)

two_steps : {S T C : Type 0} (first : Result S Fault) (second : S → Result T Fault) (made : T → C) (y : C) → (first >>= λ s. second s >>= λ t. Ok (made t)) ≡ Ok y
    → (s : S) × (t : T) × (second s ≡ Ok t) × ((first >>= λ s. second s) ≡ Ok t) × (made t ≡ y)
two_steps (Ok s) second made y h =
    let last = step (second s) (λ t. Ok (made t)) y h in
    (s, last.0, last.1, last.1, same_ok last.2)
two_steps (Err e) second made y h = absurd (err_is_not_ok h)

of_sites : {A : Type 0} (r : Result A SitesFault) (x : A) → sites_lifted r ≡ Ok x → r ≡ Ok x
of_sites {A} (Ok y) x h = ap (λ (v : A). let r : Result A SitesFault = Ok v in r) (same_ok h)
of_sites {A} (Err (forest.InSymbols e)) x h = absurd (err_is_not_ok h)
of_sites {A} (Err forest.Unsuccessful) x h = absurd (err_is_not_ok h)

-- ---- sites

nested : (bytes : List ℕ) (index end : ℕ) (sites : List Site) → sites_of bytes index end ≡ Ok sites → IsNested sites
nested bytes index end sites h =
    let read = step (forest.in_symbols (past bytes index)) (sites_from bytes end) sites h in
    forest_nested bytes end read.0 sites read.2

same_depth : (site : Option Site) → chains.depth_of site ≡ depth_of site
same_depth None = refl
same_depth (Some s) = refl

depth_same : (sites : List Site) (number : Option ℕ) → chains.depth_at sites number ≡ depth_at sites number
depth_same sites None = refl
depth_same sites (Some k) = same_depth (slice_get sites k)

calls_are : (stream : ModuleStream) (inlinees : ℕ → Option InlinedFunction) (q : Procedure) (place : PdbInternalSectionOffset) (calls : List InlinedCall)
    → procedure_calls stream inlinees q place ≡ Ok calls → length calls ≡ depth_among inlinees q place (procedure_sites stream q)
unfolding procedure_calls
calls_are stream inlinees q place calls h =
    let read = two_steps (lifted (iteration_in stream 4)) (λ symbols. sites_lifted (sites_of symbols.bytes (q.symbol_index).0 (q.end_symbol_index).0)) (λ sites. calls_over (call_rows inlinees q.offset) sites place) calls h in
    let found = of_sites (sites_of read.0.bytes (q.symbol_index).0 (q.end_symbol_index).0) read.1 read.2 in
    let deep = calls_deep (call_rows inlinees q.offset) place read.1 (deepest (call_rows inlinees q.offset) read.1 place) (nested read.0.bytes (q.symbol_index).0 (q.end_symbol_index).0 read.1 found) in
    let same = depth_same read.1 (deepest (call_rows inlinees q.offset) read.1 place) in
    let by_sites = ap (depth_among inlinees q place) read.3 in
    ap length (sym read.4) ∙ deep ∙ same ∙ sym by_sites

chosen_calls : (stream : ModuleStream) (extended : ExtendedModule) (c : Chosen) (place : PdbInternalSectionOffset) (calls : List InlinedCall)
    → calls_in stream extended.inlinees c place ≡ Ok calls → length calls ≡ depth_by stream (Ok extended) c place
chosen_calls stream extended (Proc q) place calls h = calls_are stream extended.inlinees q place calls h
chosen_calls stream extended (Public f) place calls h = ap length (sym (same_ok h))

abbrev pair : Option LineRow → List InlinedCall → Option LineRow × List InlinedCall
pair row calls = (row, calls)

row_calls : (stream : ModuleStream) (extended : ExtendedModule) (c : Chosen) (place : PdbInternalSectionOffset) (row : Option LineRow) (calls : List InlinedCall)
    → row_and_calls stream extended c place ≡ Ok (pair row calls) → calls_in stream extended.inlinees c place ≡ Ok calls
unfolding row_and_calls
row_calls stream extended c place row calls h =
    let first = step (lifted (function_row extended.program (start_of c) place)) (λ r. calls_in stream extended.inlinees c place >>= λ k. Ok (pair r k)) (pair row calls) h in
    let second = step (calls_in stream extended.inlinees c place) (λ k. Ok (pair first.0 k)) (pair row calls) first.2 in
    second.1 ∙ ap (λ (f : Option LineRow × List InlinedCall). let r : Result (List InlinedCall) Fault = Ok f.1 in r) (same_ok second.2)

-- ---- frames

one_more : {A B : Type 0} (f : A → B) (xs : List A) (y : B) → length (map f xs ++ y ∷ []) ≡ length xs + 1
one_more f xs y = length-append (map f xs) (y ∷ []) ∙ ap (λ (n : ℕ). n + 1) (length-map xs f)

in_data : (stream : ModuleStream) (c : Chosen) (place : PdbInternalSectionOffset) (extended : Result ExtendedModule container.Fault) (made : ExtendedModule → Option LineRow × List InlinedCall → List Frame) (all : List Frame)
    → ((x : ExtendedModule) (found : Option LineRow × List InlinedCall) → length (made x found) ≡ length found.1 + 1)
    → (lifted extended >>= λ x. row_and_calls stream x c place >>= λ found. Ok (made x found)) ≡ Ok all → length all ≡ depth_by stream extended c place + 1
in_data stream c place (Err e) made all more h = absurd (err_is_not_ok h)
in_data stream c place (Ok x) made all more h =
    let found = step (row_and_calls stream x c place) (λ f. Ok (made x f)) all h in
    let calls = chosen_calls stream x c place found.0.1 (row_calls stream x c place found.0.0 found.0.1 found.1) in
    ap length (sym (same_ok found.2)) ∙ more x found.0 ∙ ap (λ (n : ℕ). n + 1) calls

in_module : (p : Parts) (env : Env) (known : Option ModuleData) (c : Chosen) (place : PdbInternalSectionOffset) (all : List Frame) → frames_in p env known c place ≡ Ok all → length all ≡ depth_in known c place + 1
unfolding frames_in_data
in_module p env None c place all h = ap length (sym (same_ok h))
in_module p env (Some known) c place all h =
    let last = λ (x : ExtendedModule) (row : Option LineRow).
    function_frame p x.program (name_of p env c) (start_of c).section row in
    in_data known.stream c place (extended_of known.stream)
    (λ x found. map (call_frame p env x.program) found.1 ++ last x found.0 ∷ []) all
    (λ x found. one_more (call_frame p env x.program) found.1 (last x found.0)) h

found_is : (p : Parts) (c : Chosen) (all : List Frame) (start : Option ℕ) (found : FunctionFrames) → found_frames p c all start ≡ Some found → found.frames ≡ all
found_is p c all None found h = absurd (none_is_not_some h)
found_is p c all (Some a) found h = ap (λ (f : FunctionFrames). f.frames) (sym (same_some h))

of_chosen : (p : Parts) (env : Env) (known : Option ModuleData) (place : PdbInternalSectionOffset) (c : Option Chosen) (found : FunctionFrames) → frames_of_chosen p env known place c ≡ Ok (Some found)
    → (function : Chosen) × (c ≡ Some function) × (length found.frames ≡ depth_in known function place + 1)
of_chosen p env known place None found h = absurd (none_is_not_some (same_ok h))
of_chosen p env known place (Some c) found h =
    let all = step (frames_in p env known c place) (λ frames. Ok (found_frames p c frames (start_address p c))) (Some found) h in
    (c, refl, ap length (found_is p c all.0 (start_address p c) found (same_ok all.2)) ∙ in_module p env known c place all.0 all.1)

if_held : (p : Parts) (scope : ℕ → Scope) (held : Option (ModuleSectionContribution × PdbInternalSectionOffset)) (a : ℕ) (found : FunctionFrames) → held_at p (place_of p a) ≡ held → frames_if_held p scope held ≡ Ok (Some found)
    → AreAsDeep p scope a found.frames
unfolding frames_at
if_held p scope None a found at h = absurd (none_is_not_some (same_ok h))
if_held p scope (Some held) a found at h =
    let s = scope (held.0).module_index in
    let deep = of_chosen p s.env (module_data s.own) held.1 (chosen p (procedures_in (module_data s.own)) held.0 held.1) found h in
    record { holder = held.0; place = held.1; held = at; function = deep.0; is_chosen = deep.1; depth = deep.2 }

pub frames_deep : (p : Parts) (scope : ℕ → Scope) (a : ℕ) (found : FunctionFrames) → frames p scope a ≡ Ok (Some found) → AreAsDeep p scope a found.frames
unfolding frames
frames_deep p scope a found h = if_held p scope (held_at p (place_of p a)) a found refl h
