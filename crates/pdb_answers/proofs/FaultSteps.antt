-- Where a part of a chosen function can't be read, its frames have a fault; and what is reported of
-- it where the part stands as failed.
use Rattle.std.proofs.Common.{◌≡◌, ℕ, true, List, Option, None, Some, Result, Ok, Err, ap, ◌∙◌}
use Rattle.std.specs.Prelude.{if◌then◌else◌}
use Rattle.pdb_container.specs.Fault as container
use Rattle.pdb_container.specs.Fault.{◌>>=◌}
use Rattle.pdb_addresses.specs.declared.internal_section_offset.PdbInternalSectionOffset.{PdbInternalSectionOffset}
use Rattle.pdb_symbols_modules.specs.ModuleStream.{ModuleStream, iteration_in}
use Rattle.pdb_module_data.specs.declared.function_rows.LineRow.{LineRow}
use Rattle.pdb_module_data.specs.declared.inlined_calls.InlinedCall.{InlinedCall}
use Rattle.pdb_module_data.specs.Forest.{Site, sites_of}
use Rattle.pdb_module_data.specs.FunctionLine.{function_rows, row_at}
use Rattle.pdb_module_data.specs.InlinedCalls.{call_rows, calls_over}
use Rattle.pdb_resolving.specs.Fault.{Fault, Fails, lifted}
use Rattle.pdb_known_modules.specs.KnownModules.{ModuleData, ExtendedModule, extended_of, procedure_calls, sites_lifted}
use Rattle.pdb_frames.specs.Choice.{Parts, Chosen, Proc, Public, start_of}
use Rattle.pdb_frames.specs.FailingParts.{Failures, failing_first, failing_sites, failing_procedure, failing_by, failing_in, failed_after, has_failed, told, unsuccessful, unsuccessful_error, with_failed}
use Rattle.pdb_frames.specs.Failing.{Part, ExtendedModule as Extended, ProcedureLines, ProcedureInlineRanges}
use Rattle.pdb_frames.specs.FramesAt.{calls_in, row_and_calls, frames_in_data, frames_of_chosen}

-- reading has a fault
abbrev pub IsFault : {A E : Type 0} → Result A E → Type 0
IsFault (Ok x) = ⊥
IsFault (Err e) = Unit {0}

pub then_fault : {A B E : Type 0} (read : Result A E) (next : A → Result B E) → IsFault read → IsFault (read >>= next)
then_fault (Ok x) next h = absurd h
then_fault (Err e) next h = tt

pub none_is_some : (part : Part) → None ≡ Some part → ⊥
none_is_some part h = cc

-- ---- sites, rows, line program

sites_fault : {A : Type 0} (sites : Result (List Site) Fault) (f : List Site → A) (this part : Part) → failing_first sites this None ≡ Some part → IsFault (sites >>= λ t. Ok (f t))
sites_fault (Ok t) f this part h = absurd (none_is_some part h)
sites_fault (Err e) f this part h = tt

symbols_fault : {S A : Type 0} (symbols : Result S container.Fault) (sites : S → Result (List Site) Fault) (f : List Site → A) (this part : Part) → failing_first (lifted symbols >>= sites) this None ≡ Some part
    → IsFault (lifted symbols >>= λ s. sites s >>= λ t. Ok (f t))
symbols_fault (Ok s) sites f this part h = sites_fault (sites s) f this part h
symbols_fault (Err e) sites f this part h = tt

calls_fault : (m : ℕ) (stream : ModuleStream) (extended : ExtendedModule) (c : Chosen) (place : PdbInternalSectionOffset) (part : Part) → failing_sites m stream c ≡ Some part → IsFault (calls_in stream extended.inlinees c place)
unfolding procedure_calls
calls_fault m stream extended (Proc q) place part h =
    symbols_fault (iteration_in stream 4) (λ symbols. sites_lifted (sites_of symbols.bytes (q.symbol_index).0 (q.end_symbol_index).0)) (λ sites. calls_over (call_rows extended.inlinees q.offset) sites place) (ProcedureInlineRanges m q.offset) part h
calls_fault m stream extended (Public f) place part h = absurd (none_is_some part h)

-- calls after a row
abbrev with_calls : {A B : Type 0} → Result A Fault → B → Result (B × A) Fault
with_calls calls row = calls >>= λ found. Ok (row, found)

rows_fault : {R A B : Type 0} (rows : Result R container.Fault) (calls : Result A Fault) (f : R → B) (this part : Part) (others : Option Part) → failing_first rows this others ≡ Some part → (others ≡ Some part → IsFault calls)
    → IsFault (lifted (rows >>= λ r. Ok (f r)) >>= with_calls calls)
rows_fault (Ok r) calls f this part others h thence = then_fault calls _ (thence h)
rows_fault (Err e) calls f this part others h thence = tt

found_fault : (m : ℕ) (stream : ModuleStream) (extended : ExtendedModule) (c : Chosen) (place : PdbInternalSectionOffset) (part : Part) → failing_procedure m stream extended c ≡ Some part → IsFault (row_and_calls stream extended c place)
unfolding row_and_calls
found_fault m stream extended c place part h =
    rows_fault (function_rows extended.program (start_of c)) (calls_in stream extended.inlinees c place) (λ rows. row_at rows place.offset) (ProcedureLines m (start_of c)) part (failing_sites m stream c) h
    (calls_fault m stream extended c place part)

read_fault : {A : Type 0} (m : ℕ) (stream : ModuleStream) (read : Result ExtendedModule container.Fault) (c : Chosen) (place : PdbInternalSectionOffset) (part : Part) (f : ExtendedModule → Option LineRow × List InlinedCall → A)
    → failing_by m stream c read ≡ Some part → IsFault (lifted read >>= λ extended. row_and_calls stream extended c place >>= λ found. Ok (f extended found))
read_fault m stream (Ok extended) c place part f h = then_fault (row_and_calls stream extended c place) _ (found_fault m stream extended c place part h)
read_fault m stream (Err e) c place part f h = tt

data_fault : (p : Parts) (env : _) (m : ℕ) (held : ModuleData) (c : Chosen) (place : PdbInternalSectionOffset) (part : Part) → failing_in m (Some held) c ≡ Some part → IsFault (frames_in_data p env held c place)
unfolding frames_in_data
data_fault p env m held c place part h = read_fault m held.stream (extended_of held.stream) c place part _ h

pub frames_fault : (p : Parts) (env : _) (m : ℕ) (known : Option ModuleData) (c : Chosen) (place : PdbInternalSectionOffset) (part : Part) → failing_in m known c ≡ Some part → IsFault (frames_of_chosen p env known place (Some c))
frames_fault p env m None c place part h = absurd (none_is_some part h)
frames_fault p env m (Some held) c place part h = then_fault (frames_in_data p env held c place) _ (data_fault p env m held c place part h)

-- ---- what is reported

is_unsuccessful : {A : Type 0} (part : Part) (read : Result A Fault) → read ≡ Err (unsuccessful part) → Fails (unsuccessful_error part) read
is_unsuccessful (Extended m) read h = h
is_unsuccessful (ProcedureLines m start) read h = h
is_unsuccessful (ProcedureInlineRanges m start) read h = h

told_stands : {A : Type 0} (f : Failures) (part : Part) (read : Result A Fault) → has_failed f part ≡ true → IsFault read → told f (Some part) read ≡ Err (unsuccessful part)
told_stands f part (Ok x) stands h = absurd h
told_stands f part (Err e) stands h = ap (λ b. Err (if b then unsuccessful part else e)) stands

-- of a part that stands as failed and is the first that can't be read, it is reported that it
-- stands so
pub told_standing : (p : Parts) (env : _) (m : ℕ) (known : Option ModuleData) (c : Chosen) (place : PdbInternalSectionOffset) (f : Failures) (part : Part)
    → failing_in m known c ≡ Some part → has_failed f part ≡ true → Fails (unsuccessful_error part) (told f (failing_in m known c) (frames_of_chosen p env known place (Some c)))
told_standing p env m known c place f part failing stands =
    is_unsuccessful part _ (ap (λ o. told f o (frames_of_chosen p env known place (Some c))) failing ∙ told_stands f part (frames_of_chosen p env known place (Some c)) stands (frames_fault p env m known c place part failing))

-- and it goes on to stand so
pub after_standing : (A : Type 0) (failing : Option Part) (part : Part) (old new : Failures) → failing ≡ Some part → new ≡ with_failed old part → new ≡ failed_after {A = A} failing (Err (unsuccessful_error part)) old
after_standing A failing (Extended m) old new is now = rw is now
after_standing A failing (ProcedureLines m start) old new is now = rw is now
after_standing A failing (ProcedureInlineRanges m start) old new is now = rw is now
