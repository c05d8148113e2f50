-- The report that a task asks for: how the run ends, and what is out then.
use Rattle.std.specs.Prelude.{◌≡◌, ℕ, ◌<◌, ◌≤◌, ◌⊎◌, Bool, true, List, Option, None, Result}
use Rattle.std.specs.Prelude.{IfErr, OnErr, OnOk}
use Rattle.pdb_arguments.specs.declared.task.Task.{Task}
use Rattle.pdb_engine.specs.declared.watched.Watched.{Watched}
use Rattle.pdb_engine.specs.Watched.{CountsFailure, IsQuiet, Writes, WritesFront, inner_of}
use Rattle.pdb_file_views.specs.Views.{agrees}
use Rattle.pdb_loading.specs.LoadFaults.{IsFileFault}
use Rattle.pdb_loading.specs.Loading.{load_fault_with}
use Rattle.pdb_report.specs.declared.file_report.FileRun.{FileRun}
use Rattle.pdb_report.specs.FileReports.{FileOnDemand}
use Rattle.pdb_report.specs.declared.fault.RunFault.{RunFault}
use Rattle.pdb_report.specs.RunFaults.{OnCounted, OnLoad, OnReversed, OnWrite, UnlessLoad}
use Rattle.pdb_symbolizer.specs.Tasks.{IsInOrder, IsReversed, OnRangeReport, OnReport, order_of}
use Rattle.pdb_symbols_modules.specs.Streams.{streams}

-- The task's report from a file in memory, with the clauses of `run_frames`, `run_sizes` and
-- `run_sizes_by_file`.
pub record DoesTask {R W T : Type 0} (task : Task) (bytes : List ℕ)
    (remaining : R → Option (List ℕ)) (contents : W → Option (List ℕ))
    (reader : Watched R) (writer writer' : Watched W) (result : Result T RunFault) : Type 0 where
  -- `Load` is the file's loading fault, and nothing was written
  pub load : IfErr result (λ fault. OnLoad fault (λ cause.
      IsFileFault cause (load_fault_with (order_of task) (streams bytes)) × (writer' ≡ writer)))
  -- every other end but out of memory says that the file has no loading fault
  pub loaded : UnlessLoad result (load_fault_with (order_of task) (streams bytes) ≡ None)
  -- a reversed range is refused exactly where it is one, with nothing written
  pub reversed : IfErr result (λ fault. OnReversed fault (IsReversed task × (writer' ≡ writer)))
  pub order : OnCounted result (IsInOrder task)
  -- where the run ends well, the report is out
  pub ok : OnOk result (OnReport task (streams bytes) (remaining (inner_of reader))
      (Writes contents writer writer'))
  -- and the writer didn't fail
  pub quiet : OnOk result (IsQuiet writer writer')
  -- a failed write is one of this run, with its kind
  pub write_fails : IfErr result (λ fault. OnWrite fault (λ k. CountsFailure writer writer' k))
  -- at every fault nothing is out, or a prefix of the report
  pub part : OnErr result ((writer' ≡ writer) ⊎ OnReport task (streams bytes)
      (remaining (inner_of reader)) (WritesFront contents writer writer'))

-- The same from a file that is read on demand: it is taken to have the same bytes, and what is said
-- of these holds if they agree with what was read.
pub record DoesFileTask {F R W : Type 0} (task : Task) (source : FileOnDemand F)
    (remaining : R → Option (List ℕ)) (written : W → Option (List ℕ))
    (reader : Watched R) (writer writer' : Watched W) (result : FileRun F) : Type 0 where
  pub contents : result.source.contents.numbers ≡ source.contents.numbers
  -- `Load` comes with nothing written, and is the file's loading fault
  pub load : IfErr result.outcome (λ fault. OnLoad fault (λ cause. (writer' ≡ writer)
      × (agrees result.source.views source.contents.numbers ≡ true
      → IsFileFault cause (load_fault_with source.order (streams source.contents.numbers)))))
  -- every other end but out of memory and a file that couldn't be read says that the file has no
  -- loading fault
  pub loaded : agrees result.source.views source.contents.numbers ≡ true → UnlessLoad result.outcome
      (load_fault_with source.order (streams source.contents.numbers) ≡ None)
  -- a reversed range is refused exactly where it is one, with nothing written
  pub reversed : IfErr result.outcome (λ fault. OnReversed fault
      (IsReversed task × (writer' ≡ writer)))
  pub order : OnCounted result.outcome (IsInOrder task)
  -- where the run ends well, the report is out
  pub ok : agrees result.source.views source.contents.numbers ≡ true → OnOk result.outcome
      (OnReport task (streams source.contents.numbers) (remaining (inner_of reader))
      (Writes written writer writer'))
  -- and the writer didn't fail
  pub quiet : OnOk result.outcome (IsQuiet writer writer')
  -- a failed write is one of this run, with its kind
  pub write_fails : IfErr result.outcome (λ fault. OnWrite fault
      (λ k. CountsFailure writer writer' k))
  -- at every fault nothing is out, or a prefix of the report
  pub part : agrees result.source.views source.contents.numbers ≡ true → OnErr result.outcome
      ((writer' ≡ writer) ⊎ OnReport task (streams source.contents.numbers)
      (remaining (inner_of reader)) (WritesFront written writer writer'))

-- The report on a range, by source file or by function, from a file that is read on demand.
pub record WritesRange {F W : Type 0} (by_file : Bool) (source : FileOnDemand F) (start end : ℕ)
    (written : W → Option (List ℕ)) (writer writer' : Watched W) (result : FileRun F)
    : Type 0 where
  pub contents : result.source.contents.numbers ≡ source.contents.numbers
  pub load : IfErr result.outcome (λ fault. OnLoad fault (λ cause. (writer' ≡ writer)
      × (agrees result.source.views source.contents.numbers ≡ true
      → IsFileFault cause (load_fault_with source.order (streams source.contents.numbers)))))
  pub loaded : agrees result.source.views source.contents.numbers ≡ true → UnlessLoad result.outcome
      (load_fault_with source.order (streams source.contents.numbers) ≡ None)
  pub reversed : IfErr result.outcome (λ fault. OnReversed fault
      ((end < start) × (writer' ≡ writer)))
  pub order : OnCounted result.outcome (start ≤ end)
  pub ok : agrees result.source.views source.contents.numbers ≡ true → OnOk result.outcome
      (OnRangeReport by_file source.order (streams source.contents.numbers) start end
      (Writes written writer writer'))
  pub quiet : OnOk result.outcome (IsQuiet writer writer')
  pub write_fails : IfErr result.outcome (λ fault. OnWrite fault
      (λ k. CountsFailure writer writer' k))
  pub part : agrees result.source.views source.contents.numbers ≡ true → OnErr result.outcome
      ((writer' ≡ writer) ⊎ OnRangeReport by_file source.order
      (streams source.contents.numbers) start end (WritesFront written writer writer'))
