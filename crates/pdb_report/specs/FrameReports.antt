-- Reports on lines of addresses: how a run on an input ends, and what is out then.
use Rattle.std.specs.Prelude.{◌≡◌, ℕ, ◌^◌, ◌<◌, ◌≤◌, ◌⊎◌, true, List, length, take, Option, None}
use Rattle.std.specs.Prelude.{Result, IfErr, IfSome, OnErr, OnOk}
use Rattle.pdb_addr2line.specs.FileAnswers.{FileAnswers}
use Rattle.pdb_engine.specs.declared.watched.Watched.{Watched}
use Rattle.pdb_engine.specs.InputLines.{report, report_of_ended}
use Rattle.pdb_engine.specs.Watched.{inner_of, CountsFailure, IsQuiet, Takes, Writes, WritesFront}
use Rattle.pdb_file_views.specs.Views.{agrees}
use Rattle.pdb_loading.specs.LoadFaults.{IsFileFault}
use Rattle.pdb_loading.specs.declared.order.ContributionOrder.{ContributionOrder}
use Rattle.pdb_loading.specs.declared.order.ContributionOrder.TheVariants.{InOrder}
use Rattle.pdb_loading.specs.LoadedFile.{FileBytes}
use Rattle.pdb_loading.specs.Loading.{LoadingFault, load_fault_with}
use Rattle.pdb_report.specs.Answer.{answer_with}
use Rattle.pdb_report.specs.declared.file_report.FileRun.{FileRun}
use Rattle.pdb_report.specs.FileReports.{FileOnDemand, IfRefused}
pub use Rattle.pdb_report.specs.Forms.{LineText}
use Rattle.pdb_report.specs.Isolation.{AreAlikeFor, IsIsolated, exchanged_with}
use Rattle.pdb_report.specs.AddressText.{AddressAnswers, line_text}
use Rattle.pdb_report.specs.declared.fault.RunFault.{RunFault}
use Rattle.pdb_report.specs.RunFaults.{OnLoad, OnMemory, OnRead, OnTooLong, OnWrite}
use Rattle.pdb_report.specs.RunFaults.{IsOfFileFrames, IsOfFrames, UnlessLoad}
use Rattle.pdb_symbols_modules.specs.Streams.{streams}

-- all that a report on lines goes over: a file's bytes, the order in which its section
-- contributions have to stand, its loading fault, if it has one, and the answers for its addresses
pub record FramesOf : Type 0 where
  pub bytes : List ℕ
  pub order : ContributionOrder
  pub fault : Option LoadingFault
  pub answer : AddressAnswers

-- the same of a file, where section contributions have to stand in this order
abbrev pub frames_with : ContributionOrder → List ℕ → FramesOf
frames_with order bytes = record {
  bytes = bytes;
  order = order;
  fault = load_fault_with order (streams bytes);
  answer = answer_with order (streams bytes);
}

-- the same of a file
abbrev pub frames_in : List ℕ → FramesOf
frames_in bytes = frames_with InOrder bytes

-- the same of a file that was loaded, and so has no loading fault
abbrev pub frames_loaded : FileBytes → FramesOf
frames_loaded file = record {
  bytes = file.bytes;
  order = file.order;
  fault = None;
  answer = answer_with file.order (streams file.bytes);
}

-- the same of a file that is read on demand
abbrev pub frames_of : {F : Type 0} → FileOnDemand F → FramesOf
frames_of source = frames_with source.order source.contents.numbers

-- the answers of a file from what was read of it
abbrev pub answers_in : FileAnswers → AddressAnswers
answers_in f = answer_with f.order (streams f.contents)

-- The report on an input of up to so many bytes, with what is written for a line: how the run ends,
-- by what the reader has left and the writer contains, where that is known, and by both before and
-- after the run.
pub record ReportsFramesIn {R W T : Type 0} (text : LineText) (f : FramesOf) (limit : ℕ)
    (remaining : R → Option (List ℕ)) (contents : W → Option (List ℕ))
    (reader reader' : Watched R) (writer writer' : Watched W) (result : Result T RunFault)
    : Type 0 where
  -- `Load` is the file's loading fault, and nothing was read and nothing written
  pub load : IfErr result (λ fault. OnLoad fault (λ cause. IsFileFault cause f.fault
      × ((reader' ≡ reader) × (writer' ≡ writer))))
  -- every other end but out of memory says that the file has no loading fault
  pub loaded : UnlessLoad result (f.fault ≡ None)
  -- the faults are faults of a report on lines
  pub kind : IfErr result IsOfFrames
  -- out of memory is returned with both ends untouched, or where there is no loading fault
  pub memory : IfErr result (λ fault. OnMemory fault
      ((f.fault ≡ None) ⊎ ((reader' ≡ reader) × (writer' ≡ writer))))
  -- where the run ends well, the report on the whole input is out
  pub ok : OnOk result (IfSome (remaining (inner_of reader)) (λ input. (length input ≤ limit)
      × Writes contents writer writer' (report (text f.answer) input)))
  -- and neither end failed
  pub quiet : OnOk result (IsQuiet reader reader' × IsQuiet writer writer')
  -- a failed read is one of this run, with its kind
  pub read_fails : IfErr result (λ fault. OnRead fault (λ k. CountsFailure reader reader' k))
  -- a failed write is one of this run, with its kind
  pub write_fails : IfErr result (λ fault. OnWrite fault (λ k. CountsFailure writer writer' k))
  -- the complete lines before a failed read are answered
  pub read_out : IfErr result (λ fault. OnRead fault (λ _. (taken : List ℕ)
      × Takes remaining reader reader' taken
      × Writes contents writer writer' (report_of_ended (text f.answer) taken)))
  -- the complete lines among the first bytes of a too long input are answered
  pub too_long : IfErr result (λ fault. OnTooLong fault
      (IfSome (remaining (inner_of reader)) (λ input. (limit < length input)
      × Writes contents writer writer' (report_of_ended (text f.answer) (take limit input)))))
  -- at every fault what is out is a prefix of the report
  pub part : OnErr result (IfSome (remaining (inner_of reader)) (λ input.
      WritesFront contents writer writer' (report (text f.answer) input)))
  -- every file that is alike for the module that holds an address answers it alike
  pub isolated : IsIsolated f.bytes
  -- where the run ends well, the report is also that with the lines of one module's addresses
  -- answered by such a file
  pub exchanged : OnOk result (IfSome (remaining (inner_of reader)) (λ input.
      (other : List ℕ) (m : ℕ) → AreAlikeFor m f.bytes other → Writes contents writer writer'
      (report (text (exchanged_with f.order m (streams f.bytes) (streams other))) input)))

-- The same with lines of text.
abbrev pub ReportsFrames : {R W T : Type 0} → FramesOf → ℕ → (R → Option (List ℕ))
    → (W → Option (List ℕ)) → Watched R → Watched R → Watched W → Watched W → Result T RunFault
    → Type 0
ReportsFrames f limit remaining contents reader reader' writer writer' result =
    ReportsFramesIn line_text f limit remaining contents reader reader' writer writer' result

-- The same over a file that is read on demand. What is said of the file's bytes holds where they
-- agree with what was read, which `known` says.
pub record ReportsIfKnown {R W T : Type 0} (known : Type 0) (text : LineText) (f : FramesOf)
    (limit : ℕ) (remaining : R → Option (List ℕ)) (contents : W → Option (List ℕ))
    (reader reader' : Watched R) (writer writer' : Watched W) (result : Result T RunFault)
    : Type 0 where
  -- `Load` comes with nothing read and nothing written, and is the file's loading fault
  pub load : IfErr result (λ fault. OnLoad fault (λ cause.
      ((reader' ≡ reader) × (writer' ≡ writer)) × (known → IsFileFault cause f.fault)))
  -- every other end but out of memory and a file that couldn't be read says that the file has no
  -- loading fault
  pub loaded : known → UnlessLoad result (f.fault ≡ None)
  -- the faults are faults of a report on lines, or the file couldn't be read
  pub kind : IfErr result IsOfFileFrames
  -- out of memory, and a file that couldn't be read, are returned with both ends untouched, or
  -- where there is no loading fault
  pub memory : known → IfErr result (λ fault. IfRefused fault
      ((f.fault ≡ None) ⊎ ((reader' ≡ reader) × (writer' ≡ writer))))
  -- where the run ends well, the report on the whole input is out
  pub ok : known → OnOk result (IfSome (remaining (inner_of reader)) (λ input.
      (length input ≤ limit)
      × Writes contents writer writer' (report (text f.answer) input)))
  -- and neither end failed
  pub quiet : OnOk result (IsQuiet reader reader' × IsQuiet writer writer')
  -- a failed read is one of this run, with its kind
  pub read_fails : IfErr result (λ fault. OnRead fault (λ k. CountsFailure reader reader' k))
  -- a failed write is one of this run, with its kind
  pub write_fails : IfErr result (λ fault. OnWrite fault (λ k. CountsFailure writer writer' k))
  -- the complete lines before a failed read are answered
  pub read_out : known → IfErr result (λ fault. OnRead fault (λ _. (taken : List ℕ)
      × Takes remaining reader reader' taken
      × Writes contents writer writer' (report_of_ended (text f.answer) taken)))
  -- the complete lines among the first bytes of a too long input are answered
  pub too_long : known → IfErr result (λ fault. OnTooLong fault
      (IfSome (remaining (inner_of reader)) (λ input. (limit < length input)
      × Writes contents writer writer' (report_of_ended (text f.answer) (take limit input)))))
  -- at every fault what is out is a prefix of the report
  pub part : known → OnErr result (IfSome (remaining (inner_of reader)) (λ input.
      WritesFront contents writer writer' (report (text f.answer) input)))

-- The report on an input of up to 2^30 bytes from a file that is read on demand, with the text that
-- is written for a line, and what is left of the file: it is taken to have the same bytes, and what
-- is said of these holds if they agree with what was read.
pub record ReportsFileFramesIn {F R W : Type 0} (text : LineText) (f : FramesOf)
    (remaining : R → Option (List ℕ)) (written : W → Option (List ℕ))
    (reader reader' : Watched R) (writer writer' : Watched W) (result : FileRun F) : Type 0 where
  pub contents : result.source.contents.numbers ≡ f.bytes
  pub run : ReportsIfKnown (agrees result.source.views f.bytes ≡ true) text f (2 ^ 30) remaining
      written reader reader' writer writer' result.outcome

-- The same with lines of text.
abbrev pub ReportsFileFrames : {F R W : Type 0} → FramesOf → (R → Option (List ℕ))
    → (W → Option (List ℕ)) → Watched R → Watched R → Watched W → Watched W → FileRun F → Type 0
ReportsFileFrames f remaining written reader reader' writer writer' result =
    ReportsFileFramesIn line_text f remaining written reader reader' writer writer' result

-- Where such a run ends well, the report is also that with the lines of one module's addresses
-- answered by a file that is alike for the module.
abbrev pub ExchangesFramesIn : {F R W : Type 0} → LineText → FramesOf → (R → Option (List ℕ))
    → (W → Option (List ℕ)) → Watched R → Watched W → Watched W → FileRun F → Type 0
ExchangesFramesIn text f remaining contents reader writer writer' result =
    agrees result.source.views f.bytes ≡ true → OnOk result.outcome
    (IfSome (remaining (inner_of reader)) (λ input.
    (other : List ℕ) (m : ℕ) → AreAlikeFor m f.bytes other → Writes contents writer writer'
    (report (text (exchanged_with f.order m (streams f.bytes) (streams other))) input)))

-- The same with lines of text.
abbrev pub ExchangesFrames : {F R W : Type 0} → FramesOf → (R → Option (List ℕ))
    → (W → Option (List ℕ)) → Watched R → Watched W → Watched W → FileRun F → Type 0
ExchangesFrames f remaining contents reader writer writer' result =
    ExchangesFramesIn line_text f remaining contents reader writer writer' result
