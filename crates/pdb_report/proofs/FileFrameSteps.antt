-- How a report on lines ends, over a file that is read on demand.
use Rattle.std.proofs.Common.{◌≡◌, ◌⊎◌, ℕ, ◌<◌, ◌≤◌, List, length, take, Ok, Err, inl, inr, refl}
use Rattle.std.specs.Prelude.{Option, None, IfSome}
use Rattle.std.specs.declared.io.ErrorKind.TheVariants as kinds
use Rattle.pdb_engine.specs.declared.fault.InputFault.{InputFault}
use Rattle.pdb_engine.specs.declared.watched.Watched.{Watched}
use Rattle.pdb_engine.specs.InputFaults as inputs
use Rattle.pdb_engine.specs.InputLines.{report, report_of_ended}
use Rattle.pdb_engine.specs.Watched.{inner_of, CountsFailure, IsQuiet, Takes, Writes, WritesFront}
use Rattle.pdb_loading.specs.declared.load_fault.LoadFault.TheVariants as faults
use Rattle.pdb_loading.specs.declared.on_demand.FileFault.{FileFault}
use Rattle.pdb_loading.specs.declared.on_demand.FileFault.TheVariants as files
use Rattle.pdb_loading.specs.FileFaults.{OnLoadFault}
use Rattle.pdb_loading.specs.LoadedFile.{FileBytes}
use Rattle.pdb_loading.specs.LoadFaults.{IsFileFault, Refuses}
use Rattle.pdb_report.specs.Answer.{answer_with}
use Rattle.pdb_report.specs.FrameReports.{FramesOf, LineText, ReportsIfKnown, frames_loaded}
use Rattle.pdb_report.specs.declared.fault.RunFault.{RunFault}
use Rattle.pdb_report.specs.declared.fault.RunFault.TheVariants as runs
use Rattle.pdb_report.specs.RunFaults.{IsOfFileFrames, OnLoad, OnMemoryOrFile, run_fault_of_file, run_fault_of_input}
use Rattle.pdb_report.proofs.InputFaultSteps.{on_read, on_write, on_too_long, on_load, unless_load}
use Rattle.pdb_symbols_modules.specs.Streams.{streams}
use Rattle.pdb_report.proofs.FileFaults.{IsOfOpening, if_refused, nothing_out, of_file, of_file_frames, of_loading, of_memory}

module _ {R W : Type 0} (text : LineText) (remaining : R → Option (List ℕ)) (contents : W → Option (List ℕ)) (limit : ℕ) where
  -- a run ends by a fault of opening the file
  ended_by : {T : Type 0} (known : Type 0) (f : FramesOf) (reader reader' : Watched R) (writer writer' : Watched W) (fault : RunFault) → IsOfOpening fault
      → OnLoad fault (λ cause. ((reader' ≡ reader) × (writer' ≡ writer)) × (known → IsFileFault cause f.fault)) → IsOfFileFrames fault
      → (f.fault ≡ None) ⊎ ((reader' ≡ reader) × (writer' ≡ writer))
      → (known → IfSome (remaining (inner_of reader)) (λ input. WritesFront contents writer writer' (report (text f.answer) input)))
      → ReportsIfKnown {T = T} known text f limit remaining contents reader reader' writer writer' (Err fault)
  ended_by known f reader reader' writer writer' fault opening load kind memory part = record {
    load = load;
    loaded = λ k. opening.loaded _;
    kind = kind;
    memory = λ k. if_refused fault _ memory;
    ok = λ k. tt;
    quiet = tt;
    read_fails = opening.on_read _;
    write_fails = opening.on_write _;
    read_out = λ k. opening.on_read _;
    too_long = λ k. opening.on_too_long _;
    part = part;
  }

  -- with nothing read and nothing written
  untouched : {T : Type 0} (known : Type 0) (f : FramesOf) (reader : Watched R) (writer : Watched W) (fault : RunFault) → IsOfOpening fault
      → OnLoad fault (λ cause. ((reader ≡ reader) × (writer ≡ writer)) × (known → IsFileFault cause f.fault)) → IsOfFileFrames fault
      → ReportsIfKnown {T = T} known text f limit remaining contents reader reader writer writer (Err fault)
  untouched known f reader writer fault opening load kind = ended_by known f reader reader writer writer fault opening load kind (inr (refl, refl))
      (λ k. nothing_out contents writer (remaining (inner_of reader)) (report (text f.answer)))

  -- nothing was read and nothing written, where a file is refused
  pub file_refused : {T : Type 0} (known : Type 0) (f : FramesOf) (reader : Watched R) (writer : Watched W) (e : FileFault) → (known → OnLoadFault e (λ cause. Refuses cause f.fault))
      → ReportsIfKnown {T = T} known text f limit remaining contents reader reader writer writer (Err (run_fault_of_file e))
  file_refused known f reader writer (files.Load faults.OutOfMemory) h = untouched known f reader writer runs.OutOfMemory of_memory tt tt
  file_refused known f reader writer (files.Load e) h = untouched known f reader writer _ (of_loading _) ((refl, refl), h) tt
  file_refused known f reader writer (files.File kinds.OutOfMemory) h = untouched known f reader writer runs.OutOfMemory of_memory tt tt
  file_refused known f reader writer (files.File kind) h = untouched known f reader writer _ (of_file _) tt (λ same. cc)

  module _ {T : Type 0} (known : Type 0) (reader reader' : Watched R) (writer writer' : Watched W) (file : FileBytes) where
    -- what a run by a file that was loaded says, where it ends well
    pub known_well : (done : T)
        → (known → IfSome (remaining (inner_of reader)) (λ input. (length input ≤ limit) × Writes contents writer writer' (report (text (answer_with file.order (streams file.bytes))) input)))
        → IsQuiet reader reader' × IsQuiet writer writer'
        → ReportsIfKnown known text (frames_loaded file) limit remaining contents reader reader' writer writer' (Ok done)
    known_well done ok quiet = record {
      load = tt;
      loaded = λ k. refl;
      kind = tt;
      memory = λ k. tt;
      ok = ok;
      quiet = quiet;
      read_fails = tt;
      write_fails = tt;
      read_out = λ k. tt;
      too_long = λ k. tt;
      part = λ k. tt;
    }

    -- where it ends early
    pub known_early : (fault : InputFault) → inputs.IsOfRunning fault
        → inputs.OnRead fault (λ kind. CountsFailure reader reader' kind)
        → inputs.OnWrite fault (λ kind. CountsFailure writer writer' kind)
        → (known → inputs.OnRead fault (λ _. (taken : List ℕ) × Takes remaining reader reader' taken × Writes contents writer writer' (report_of_ended (text (answer_with file.order (streams file.bytes))) taken)))
        → (known → inputs.OnTooLong fault (IfSome (remaining (inner_of reader)) (λ input. (limit < length input) × Writes contents writer writer' (report_of_ended (text (answer_with file.order (streams file.bytes))) (take limit input)))))
        → (known → IfSome (remaining (inner_of reader)) (λ input. WritesFront contents writer writer' (report (text (answer_with file.order (streams file.bytes))) input)))
        → ReportsIfKnown {T = T} known text (frames_loaded file) limit remaining contents reader reader' writer writer' (Err (run_fault_of_input fault))
    known_early fault kind read_fails write_fails read_out too_long part = record {
      load = on_load fault _;
      loaded = λ k. unless_load {A = T} (Err (run_fault_of_input fault)) _ refl;
      kind = of_file_frames fault kind;
      memory = λ k. if_refused (run_fault_of_input fault) _ (inl refl);
      ok = λ k. tt;
      quiet = tt;
      read_fails = on_read fault _ read_fails;
      write_fails = on_write fault _ write_fails;
      read_out = λ k. on_read fault _ (read_out k);
      too_long = λ k. on_too_long fault _ (too_long k);
      part = part;
    }

    -- and where memory ran out, or the file couldn't be read
    pub known_short : (fault : RunFault) → OnMemoryOrFile fault
        → (known → IfSome (remaining (inner_of reader)) (λ input. WritesFront contents writer writer' (report (text (answer_with file.order (streams file.bytes))) input)))
        → ReportsIfKnown {T = T} known text (frames_loaded file) limit remaining contents reader reader' writer writer' (Err fault)
    known_short runs.OutOfMemory h part = ended_by known (frames_loaded file) reader reader' writer writer' runs.OutOfMemory of_memory tt tt (inl refl) part
    known_short (runs.File kind) h part = ended_by known (frames_loaded file) reader reader' writer writer' (runs.File kind) (of_file kind) tt h (inl refl) part
    known_short (runs.Load cause) h part = absurd h
    known_short runs.ReversedRange h part = absurd h
    known_short (runs.Read kind) h part = absurd h
    known_short (runs.Write kind) h part = absurd h
    known_short runs.InputTooLong h part = absurd h
