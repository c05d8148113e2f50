-- Where a part of a chosen function can't be read, a run of its file is unreadable.
use Rattle.std.proofs.Common.{◌≡◌, ℕ, List, Option, None, Some, Result, Ok, Err, refl}
use Rattle.pdb_answers.proofs.FaultSteps.{IsFault, none_is_some, then_fault}
use Rattle.pdb_addresses.specs.declared.internal_section_offset.PdbInternalSectionOffset.{PdbInternalSectionOffset}
use Rattle.pdb_container.specs.Fault as container
use Rattle.pdb_container.specs.Fault.{◌>>=◌}
use Rattle.pdb_frames.specs.Choice.{Chosen, Proc, Public}
use Rattle.pdb_frames.specs.FailingParts.{failing_by, failing_first, failing_in, failing_procedure}
use Rattle.pdb_frames.specs.FailingParts.{failing_sites}
use Rattle.pdb_frames.specs.Failing.{Part, ProcedureLines, ProcedureInlineRanges}
use Rattle.pdb_frames.specs.FileRuns.{file_run_in, file_run_of, rows_in, run_by_rows, run_reported}
use Rattle.pdb_owners.specs.declared.file_key.FileKey.{FileKey}
use Rattle.pdb_owners.specs.declared.file_key.FileKey.TheVariants as keys
use Rattle.pdb_known_modules.specs.KnownModules.{ModuleData, ExtendedModule, extended_of}
use Rattle.pdb_known_modules.specs.KnownModules.{extended_procedure_of, procedure_sites}
use Rattle.pdb_module_data.specs.Forest.{Site}
use Rattle.pdb_module_data.specs.FunctionLine.{function_rows}
use Rattle.pdb_module_data.specs.declared.function_rows.LineRow.{LineRow}
use Rattle.pdb_resolving.specs.Fault.{Fault, lifted}
use Rattle.pdb_symbols_modules.specs.ModuleStream.{ModuleStream}

sites_fault : {B : Type 0} (sites : Result (List Site) Fault) (next : List Site → Result B Fault)
    (this part : Part) → failing_first sites this None ≡ Some part → IsFault (sites >>= next)
sites_fault (Ok t) next this part h = absurd (none_is_some part h)
sites_fault (Err e) next this part h = tt

rows_fault : {A B : Type 0} (rows : Result A container.Fault) (next : A → Result B Fault)
    (this part : Part) (others : Option Part) → failing_first rows this others ≡ Some part
    → ((r : A) → others ≡ Some part → IsFault (next r)) → IsFault (lifted rows >>= next)
rows_fault (Ok r) next this part others h thence = thence r h
rows_fault (Err e) next this part others h thence = tt

public_fault : {A : Type 0} (rows : Result A container.Fault) (this part : Part)
    → failing_first rows this None ≡ Some part → IsFault (lifted rows)
public_fault (Ok r) this part h = absurd (none_is_some part h)
public_fault (Err e) this part h = tt

read_fault : (m : ℕ) (stream : ModuleStream) (extended : ExtendedModule) (c : Chosen) (part : Part)
    → failing_procedure m stream extended c ≡ Some part
    → IsFault (rows_in stream extended.program c)
unfolding extended_procedure_of
read_fault m stream extended (Proc q) part h =
    then_fault _ _ (rows_fault (function_rows extended.program q.offset) _
    (ProcedureLines m q.offset) part (failing_sites m stream (Proc q)) h
    (λ rows. sites_fault (procedure_sites stream q) _ (ProcedureInlineRanges m q.offset) part))
read_fault m stream extended (Public f) part h =
    public_fault (function_rows extended.program f.start_offset) (ProcedureLines m f.start_offset)
    part h

extended_fault : (m : ℕ) (stream : ModuleStream) (read : Result ExtendedModule container.Fault) (c : Chosen)
    (part : Part) (by : ExtendedModule → List LineRow → FileKey × ℕ)
    → failing_by m stream c read ≡ Some part
    → IsFault (lifted read >>= λ extended. rows_in stream extended.program c
    >>= λ rows. Ok (by extended rows))
extended_fault m stream (Ok extended) c part by h =
    then_fault (rows_in stream extended.program c) _ (read_fault m stream extended c part h)
extended_fault m stream (Err e) c part by h = tt

run_fault : (m : ℕ) (known : Option ModuleData) (c : Chosen) (place : PdbInternalSectionOffset)
    (far : ℕ) (part : Part) → failing_in m known c ≡ Some part
    → IsFault (file_run_of known c place far)
unfolding file_run_in
run_fault m None c place far part h = absurd (none_is_some part h)
run_fault m (Some known) c place far part h =
    extended_fault m known.stream (extended_of known.stream) c part
    (λ extended. run_by_rows extended.program place far) h

reported : (start : Option ℕ) (far : ℕ) (run : Result (FileKey × ℕ) Fault) → IsFault run
    → run_reported start far run ≡ (Some keys.Unreadable, far)
reported start far (Ok run) h = absurd h
reported start far (Err e) h = refl

-- where a part is known as the first that can't be read, the run is unreadable
pub known_unreadable : (m : ℕ) (known : Option ModuleData) (c : Chosen)
    (place : PdbInternalSectionOffset) (far : ℕ) (start : Option ℕ) (part : Part)
    → failing_in m known c ≡ Some part
    → run_reported start far (file_run_of known c place far) ≡ (Some keys.Unreadable, far)
known_unreadable m known c place far start part h =
    reported start far (file_run_of known c place far) (run_fault m known c place far part h)
