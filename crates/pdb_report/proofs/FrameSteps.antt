-- How a report on lines ends.
use Rattle.std.proofs.Common.{◌≡◌, ℕ, ◌<◌, ◌≤◌, List, length, take, Result, Ok, Err, inl, inr, refl, sym, subst}
use Rattle.std.specs.Prelude.{Option, None, IfSome}
use Rattle.pdb_engine.specs.declared.fault.InputFault.{InputFault}
use Rattle.pdb_engine.specs.declared.watched.Watched.{Watched}
use Rattle.pdb_engine.specs.InputFaults as inputs
use Rattle.pdb_engine.specs.InputLines.{report, report_of_ended}
use Rattle.pdb_engine.specs.Watched.{inner_of, CountsFailure, IsQuiet, Takes, Writes, WritesFront}
use Rattle.pdb_loading.specs.declared.load_fault.LoadFault.{LoadFault}
use Rattle.pdb_loading.specs.declared.load_fault.LoadFault.TheVariants as faults
use Rattle.pdb_loading.specs.declared.order.ContributionOrder.{ContributionOrder}
use Rattle.pdb_loading.specs.LoadedFile.{FileBytes}
use Rattle.pdb_loading.specs.LoadFaults.{IsFileFault, Refuses}
use Rattle.pdb_loading.specs.Loading.{LoadingFault, load_fault_with}
use Rattle.pdb_report.specs.Answer.{answer_with}
use Rattle.pdb_report.specs.FrameReports.{FramesOf, LineText, ReportsFramesIn, frames_with, frames_loaded}
use Rattle.pdb_report.specs.AddressText.{AddressAnswers}
use Rattle.pdb_report.specs.declared.fault.RunFault.{RunFault}
use Rattle.pdb_report.specs.declared.fault.RunFault.TheVariants as runs
use Rattle.pdb_report.specs.RunFaults.{IsOfFrames, OnLoad, run_fault_of, run_fault_of_input}
use Rattle.pdb_report.proofs.InputFaultSteps.{on_read, on_write, on_too_long, of_frames, on_memory, on_load, unless_load}
use Rattle.pdb_symbols_modules.specs.Streams.{streams}
use Rattle.pdb_report.proofs.FileFaults.{IsOfOpening, if_memory, nothing_out, of_loading, of_memory}
use Rattle.pdb_report.proofs.IsolationLaw.{exchanged_out, isolated}

module _ {R W : Type 0} (text : LineText) (remaining : R → Option (List ℕ)) (contents : W → Option (List ℕ)) (limit : ℕ) where
  -- a run ends by a fault of opening the file, with nothing read and nothing written
  untouched : {T : Type 0} (f : FramesOf) (reader : Watched R) (writer : Watched W) (fault : RunFault) → IsOfOpening fault
      → OnLoad fault (λ cause. IsFileFault cause f.fault × ((reader ≡ reader) × (writer ≡ writer))) → IsOfFrames fault
      → ReportsFramesIn {T = T} text f limit remaining contents reader reader writer writer (Err fault)
  untouched f reader writer fault opening load kind = record {
    load = load;
    loaded = opening.loaded _;
    kind = kind;
    memory = if_memory fault _ (inr (refl, refl));
    ok = tt;
    quiet = tt;
    read_fails = opening.on_read _;
    write_fails = opening.on_write _;
    read_out = opening.on_read _;
    too_long = opening.on_too_long _;
    part = nothing_out contents writer (remaining (inner_of reader)) (report (text f.answer));
    isolated = isolated f.bytes;
    exchanged = tt;
  }

  -- nothing was read and nothing written, where a file is refused
  pub refused : {T : Type 0} (f : FramesOf) (reader : Watched R) (writer : Watched W) (e : LoadFault) → Refuses e f.fault
      → ReportsFramesIn {T = T} text f limit remaining contents reader reader writer writer (Err (run_fault_of e))
  refused f reader writer faults.OutOfMemory h = untouched f reader writer runs.OutOfMemory of_memory tt tt
  refused f reader writer e h = untouched f reader writer _ (of_loading _) (h, (refl, refl)) tt

  -- nor where memory is short
  pub lacking : {T : Type 0} (f : FramesOf) (reader : Watched R) (writer : Watched W)
      → ReportsFramesIn {T = T} text f limit remaining contents reader reader writer writer (Err runs.OutOfMemory)
  lacking f reader writer = refused f reader writer faults.OutOfMemory tt

  module _ {T : Type 0} (reader reader' : Watched R) (writer writer' : Watched W) where
    -- a file that was loaded has no loading fault
    pub of_loaded : (order : ContributionOrder) (file : FileBytes) (bytes : List ℕ) (result : Result T RunFault) → file ≡ record { bytes = bytes; order = order } → load_fault_with order (streams bytes) ≡ None
        → ReportsFramesIn text (frames_loaded file) limit remaining contents reader reader' writer writer' result
        → ReportsFramesIn text (frames_with order bytes) limit remaining contents reader reader' writer writer' result
    of_loaded order file bytes result same none r =
        subst (λ (fault : Option LoadingFault). ReportsFramesIn text (record { bytes = bytes; order = order; fault = fault; answer = answer_with order (streams bytes) }) limit remaining contents reader reader' writer writer' result) (sym none)
        (subst (λ (f : FileBytes). ReportsFramesIn text (frames_loaded f) limit remaining contents reader reader' writer writer' result) same r)

    -- what a run by answers that are the file's says, where it ends well
    pub ended_well : (file : FileBytes) (own : AddressAnswers) (done : T) → own ≡ answer_with file.order (streams file.bytes)
        → IfSome (remaining (inner_of reader)) (λ input. (length input ≤ limit) × Writes contents writer writer' (report (text own) input))
        → IsQuiet reader reader' × IsQuiet writer writer'
        → ReportsFramesIn text (frames_loaded file) limit remaining contents reader reader' writer writer' (Ok done)
    ended_well file own done same ok quiet =
        let out : IfSome (remaining (inner_of reader)) (λ input. (length input ≤ limit) × Writes contents writer writer' (report (text (answer_with file.order (streams file.bytes))) input)) =
        subst (λ (f : AddressAnswers). IfSome (remaining (inner_of reader)) (λ input. (length input ≤ limit) × Writes contents writer writer' (report (text f) input))) same ok in
        record {
          load = tt;
          loaded = refl;
          kind = tt;
          memory = tt;
          ok = out;
          quiet = quiet;
          read_fails = tt;
          write_fails = tt;
          read_out = tt;
          too_long = tt;
          part = tt;
          isolated = isolated file.bytes;
          exchanged = exchanged_out {T = T} {E = RunFault} file.order file.bytes (Ok done) (remaining (inner_of reader)) (λ input. length input ≤ limit) (λ answers input. Writes contents writer writer' (report (text answers) input)) out;
        }

    -- and where it ends early
    pub ended_early : (file : FileBytes) (own : AddressAnswers) (fault : InputFault) → own ≡ answer_with file.order (streams file.bytes)
        → inputs.IsOfRunning fault
        → inputs.OnRead fault (λ kind. CountsFailure reader reader' kind)
        → inputs.OnWrite fault (λ kind. CountsFailure writer writer' kind)
        → inputs.OnRead fault (λ _. (taken : List ℕ) × Takes remaining reader reader' taken × Writes contents writer writer' (report_of_ended (text own) taken))
        → inputs.OnTooLong fault (IfSome (remaining (inner_of reader)) (λ input. (limit < length input) × Writes contents writer writer' (report_of_ended (text own) (take limit input))))
        → IfSome (remaining (inner_of reader)) (λ input. WritesFront contents writer writer' (report (text own) input))
        → ReportsFramesIn {T = T} text (frames_loaded file) limit remaining contents reader reader' writer writer' (Err (run_fault_of_input fault))
    ended_early file own fault same kind read_fails write_fails read_out too_long part = record {
      load = on_load fault _;
      loaded = unless_load {A = T} (Err (run_fault_of_input fault)) _ refl;
      kind = of_frames fault kind;
      memory = on_memory fault _ (inl refl);
      ok = tt;
      quiet = tt;
      exchanged = tt;
      isolated = isolated file.bytes;
      read_fails = on_read fault _ read_fails;
      write_fails = on_write fault _ write_fails;
      read_out = on_read fault _ (subst (λ (f : AddressAnswers). inputs.OnRead fault (λ _. (taken : List ℕ) × Takes remaining reader reader' taken × Writes contents writer writer' (report_of_ended (text f) taken))) same read_out);
      too_long = on_too_long fault _ (subst (λ (f : AddressAnswers). inputs.OnTooLong fault (IfSome (remaining (inner_of reader)) (λ input. (limit < length input) × Writes contents writer writer' (report_of_ended (text f) (take limit input))))) same too_long);
      part = subst (λ (f : AddressAnswers). IfSome (remaining (inner_of reader)) (λ input. WritesFront contents writer writer' (report (text f) input))) same part;
    }
