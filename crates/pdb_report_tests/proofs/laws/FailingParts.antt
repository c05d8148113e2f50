-- An answer that has a fault has a part that fails.
use Rattle.std.proofs.Common.{◌≡◌, ℕ, Result, Ok, Err, true, refl, ap}
use Rattle.std.specs.Prelude.{Option, None, Some, List, is_some}
use Rattle.pdb_container.specs.Fault as container
use Rattle.pdb_container.specs.Fault.{◌>>=◌}
use Rattle.pdb_addresses.specs.declared.internal_section_offset.PdbInternalSectionOffset.{PdbInternalSectionOffset}
use Rattle.pdb_contributions.specs.declared.contribution.ModuleSectionContribution.{ModuleSectionContribution}
use Rattle.pdb_lines.specs.Inlinees.{InlinedFunction}
use Rattle.pdb_symbols_modules.specs.ModuleStream.{ModuleStream, iteration_in}
use Rattle.pdb_module_data.specs.FunctionLine.{function_rows, row_at}
use Rattle.pdb_module_data.specs.Forest.{sites_of}
use Rattle.pdb_module_data.specs.InlinedCalls.{call_rows, calls_over}
use Rattle.pdb_resolving.specs.Fault.{Fault, lifted}
use Rattle.pdb_names.specs.Env.{Env}
use Rattle.pdb_frames.specs.Failing as parts
use Rattle.pdb_frames.specs.Choice.{Parts, Chosen, Proc, Public, chosen, place_of, start_address, start_of, held_at}
use Rattle.pdb_frames.specs.Scopes.{Scope}
use Rattle.pdb_frames.specs.Failing.{Part, failing, failing_if_held}
use Rattle.pdb_frames.specs.FailingParts.{failing_by, failing_first, failing_in, failing_of_chosen, failing_procedure, failing_sites}
use Rattle.pdb_frames.specs.FramesAt.{calls_in, found_frames, frames, frames_at, frames_if_held, frames_in, frames_in_data, frames_of_chosen, row_and_calls}
use Rattle.pdb_known_modules.specs.KnownModules.{ModuleData, ExtendedModule, extended_of, module_data, procedure_calls, procedures_in, sites_lifted}

ok_is_not_err : {A : Type 0} {x : A} {e : Fault} → Ok x ≡ Err e → ⊥
ok_is_not_err {A} {x} {e} h = cc

-- what fails after a reading that can't fail fails in the reading
behind : {A B X : Type 0} (r : Result A Fault) (k : A → B) (e : Fault) → (r >>= λ x. Ok (k x)) ≡ Err e → ((f : Fault) → r ≡ Err f → X) → X
behind (Ok x) k e h fails = absurd (ok_is_not_err h)
behind (Err f) k e h fails = fails f refl

-- sites
sites_part : {S T C : Type 0} (symbols : Result S Fault) (sites : S → Result T Fault) (g : T → C) (part : Part) (e : Fault)
    → (symbols >>= λ s. sites s >>= λ t. Ok (g t)) ≡ Err e → is_some (failing_first (symbols >>= λ s. sites s) part None) ≡ true
sites_part (Ok s) sites g part e h = behind (sites s) g e h (λ f is. ap (λ r. is_some (failing_first r part None)) is)
sites_part (Err f) sites g part e h = refl

calls_part : (m : ℕ) (stream : ModuleStream) (inlinees : ℕ → Option InlinedFunction) (c : Chosen) (place : PdbInternalSectionOffset) (e : Fault)
    → calls_in stream inlinees c place ≡ Err e → is_some (failing_sites m stream c) ≡ true
unfolding procedure_calls
calls_part m stream inlinees (Proc q) place e h =
    sites_part (lifted (iteration_in stream 4)) (λ symbols. sites_lifted (sites_of symbols.bytes (q.symbol_index).0 (q.end_symbol_index).0)) (λ sites. calls_over (call_rows inlinees q.offset) sites place) (parts.ProcedureInlineRanges m q.offset) e h
calls_part m stream inlinees (Public f) place e h = absurd (ok_is_not_err h)

-- rows before them
abbrev pair : {L C : Type 0} → L → C → L × C
pair row found = (row, found)

rows_part : {R L C : Type 0} (rows : Result R container.Fault) (f : R → L) (calls : Result C Fault) (part : Part) (others : Option Part) (e : Fault)
    → ((x : Fault) → calls ≡ Err x → is_some others ≡ true)
    → (lifted (rows >>= λ r. Ok (f r)) >>= λ row. calls >>= λ found. Ok (pair row found)) ≡ Err e → is_some (failing_first rows part others) ≡ true
rows_part (Ok r) f calls part others e calls_fail h = behind calls (pair (f r)) e h calls_fail
rows_part (Err x) f calls part others e calls_fail h = refl

procedure_part : (m : ℕ) (stream : ModuleStream) (extended : ExtendedModule) (c : Chosen) (place : PdbInternalSectionOffset) (e : Fault)
    → row_and_calls stream extended c place ≡ Err e → is_some (failing_procedure m stream extended c) ≡ true
unfolding row_and_calls
procedure_part m stream extended c place e h =
    rows_part (function_rows extended.program (start_of c)) (λ rows. row_at rows place.offset) (calls_in stream extended.inlinees c place) (parts.ProcedureLines m (start_of c)) (failing_sites m stream c) e
    (calls_part m stream extended.inlinees c place) h

-- line program and inlinees before those
module_part : {F : Type 0} (m : ℕ) (stream : ModuleStream) (c : Chosen) (place : PdbInternalSectionOffset) (extended : Result ExtendedModule container.Fault) (k : ExtendedModule → (Option _ × List _) → F) (e : Fault)
    → (lifted extended >>= λ x. row_and_calls stream x c place >>= λ found. Ok (k x found)) ≡ Err e → is_some (failing_by m stream c extended) ≡ true
module_part m stream c place (Ok x) k e h = behind (row_and_calls stream x c place) (k x) e h (procedure_part m stream x c place)
module_part m stream c place (Err f) k e h = refl

data_part : (m : ℕ) (p : Parts) (env : Env) (known : Option ModuleData) (c : Chosen) (place : PdbInternalSectionOffset) (e : Fault)
    → frames_in p env known c place ≡ Err e → is_some (failing_in m known c) ≡ true
unfolding frames_in_data
data_part m p env None c place e h = absurd (ok_is_not_err h)
data_part m p env (Some known) c place e h = module_part m known.stream c place (extended_of known.stream) _ e h

chosen_part : (m : ℕ) (p : Parts) (env : Env) (known : Option ModuleData) (place : PdbInternalSectionOffset) (c : Option Chosen) (e : Fault)
    → frames_of_chosen p env known place c ≡ Err e → is_some (failing_of_chosen m known c) ≡ true
chosen_part m p env known place None e h = absurd (ok_is_not_err h)
chosen_part m p env known place (Some c) e h = behind (frames_in p env known c place) (λ frames. found_frames p c frames (start_address p c)) e h (data_part m p env known c place)

held_part : (p : Parts) (scope : ℕ → Scope) (held : Option (ModuleSectionContribution × PdbInternalSectionOffset)) (e : Fault)
    → frames_if_held p scope held ≡ Err e → is_some (failing_if_held p scope held) ≡ true
unfolding frames_at
held_part p scope None e h = absurd (ok_is_not_err h)
held_part p scope (Some held) e h =
    let s = scope (held.0).module_index in
    chosen_part (held.0).module_index p s.env (module_data s.own) held.1 (chosen p (procedures_in (module_data s.own)) held.0 held.1) e h

pub answers_fail_in_a_part : (p : Parts) (scope : ℕ → Scope) (a : ℕ) (e : Fault) → frames p scope a ≡ Err e → is_some (failing p scope a) ≡ true
unfolding frames
answers_fail_in_a_part p scope a e h = held_part p scope (held_at p (place_of p a)) e h
