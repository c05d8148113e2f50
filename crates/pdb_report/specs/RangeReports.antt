-- Reports on ranges of addresses: how a run on a range ends, and what is out then.
use Rattle.std.specs.Prelude.{◌≡◌, ℕ, ◌+◌, ◌<◌, ◌≤◌, ◌⊎◌, true, List, Option, None, Result}
use Rattle.std.specs.Global.{Global}
use Rattle.std.specs.Prelude.{IfErr, IfOk, OnErr, OnOk, String, string_bytes}
use Rattle.pdb_addresses.specs.Addresses.{Map}
use Rattle.pdb_addr2line.specs.FileAnswers.{FileAnswers, file_of}
use Rattle.pdb_engine.specs.declared.watched.Watched.{Watched}
use Rattle.pdb_engine.specs.Watched.{CountsFailure, IsQuiet, Writes, WritesFront}
use Rattle.pdb_file_views.specs.Views.{agrees}
use Rattle.pdb_owners.specs.Counts.{pieces}
use Rattle.pdb_owners.specs.Databases.{Database}
use Rattle.pdb_owners.specs.FileAnswers.{FileAnswer}
use Rattle.pdb_owners.specs.FileReport.{IsFileReport}
use Rattle.pdb_owners.specs.FunctionOrder.{Function}
use Rattle.pdb_owners.specs.Report.{IsReport}
use Rattle.pdb_loading.specs.declared.order.ContributionOrder.{ContributionOrder}
use Rattle.pdb_loading.specs.declared.order.ContributionOrder.TheVariants.{InOrder}
use Rattle.pdb_loading.specs.LoadFaults.{IsFileFault}
use Rattle.pdb_loading.specs.LoadedFile.{FileBytes}
use Rattle.pdb_loading.specs.Loading.{LoadingFault, load_fault_with}
use Rattle.pdb_report.specs.Answer.{database_with, files_with}
use Rattle.pdb_report.specs.declared.file_sizes.FileSizes.{FileSizes}
use Rattle.pdb_report.specs.declared.sizes.Tally.{Tally}
use Rattle.pdb_report.specs.FileReports.{FileOnDemand, IfRefused}
use Rattle.pdb_report.specs.SizesReport.{AreWithinPieces, CountedKind, IsReportOn}
use Rattle.pdb_report.specs.declared.fault.RunFault.{RunFault}
use Rattle.pdb_report.specs.RunFaults.{IsOfFileSizes, IsOfSizes, OnCounted, OnLoad, OnMemory}
use Rattle.pdb_report.specs.RunFaults.{OnReversed, OnWrite, UnlessLoad}
use Rattle.pdb_symbols_modules.specs.Streams.{streams}

-- ---- what is counted

-- all that a report on a range goes over: a file's bytes; its loading fault, if it has one; which
-- texts are the report on the addresses from one on and before another; and which numbers of
-- lookups are at most one for each piece of them
pub record SizesOf : Type 1 where
  pub bytes : List ℕ
  pub fault : Option LoadingFault
  pub is_report : ℕ → ℕ → List ℕ → Type 0
  pub is_within : ℕ → ℕ → ℕ → Type 0

-- the same of a file with this loading fault, from what is counted at its places
abbrev pub sizes_by : {A : Type 0} → CountedKind A → Option LoadingFault → FileBytes → SizesOf
sizes_by kind fault file = record {
  bytes = file.bytes;
  fault = fault;
  is_report = λ start end text. IsReportOn kind.is_report (kind.places file.order (streams
      file.bytes))
      file.order (streams file.bytes) start end text;
  is_within = λ start end lookups. AreWithinPieces (kind.places file.order (streams file.bytes))
      file.order (streams file.bytes) start end lookups;
}

-- the same of a file, from what is counted
abbrev pub counted_with : {A : Type 0} → CountedKind A → ContributionOrder → List ℕ → SizesOf
counted_with kind order bytes =
    sizes_by kind (load_fault_with order (streams bytes))
    record { bytes = bytes; order = order }

-- the same of a file that was loaded, and so has no loading fault
abbrev pub counted_loaded : {A : Type 0} → CountedKind A → FileBytes → SizesOf
counted_loaded kind file = sizes_by kind None file

-- the same of a file that is read on demand
abbrev pub counted_of : {A F : Type 0} → CountedKind A → FileOnDemand F → SizesOf
counted_of kind source = counted_with kind source.order source.contents.numbers

-- the same of a file that was loaded and is read on demand
abbrev pub counted_held : {A : Type 0} → CountedKind A → FileAnswers → SizesOf
counted_held kind f = counted_loaded kind (file_of f)

-- functions, and source files
abbrev pub by_function : CountedKind Function
by_function = record { is_report = IsReport; places = database_with }

abbrev pub by_source_file : CountedKind FileAnswer
by_source_file = record { is_report = IsFileReport; places = files_with }

-- the same of a file by function, where section contributions have to stand in this order
abbrev pub sizes_with : ContributionOrder → List ℕ → SizesOf
sizes_with order bytes = counted_with by_function order bytes

abbrev pub sizes_in : List ℕ → SizesOf
sizes_in bytes = sizes_with InOrder bytes

abbrev pub sizes_of : {F : Type 0} → FileOnDemand F → SizesOf
sizes_of source = counted_of by_function source

-- and by source file
abbrev pub by_file_with : ContributionOrder → List ℕ → SizesOf
by_file_with order bytes = counted_with by_source_file order bytes

abbrev pub by_file_in : List ℕ → SizesOf
by_file_in bytes = by_file_with InOrder bytes

abbrev pub by_file_of : {F : Type 0} → FileOnDemand F → SizesOf
by_file_of source = counted_of by_source_file source

-- ---- a count

-- A text is a report on a range from a context that was asked so often before, and counting took at
-- most one lookup for each piece, and at most one answer.
pub record CountsPlaces {A : Type 0} (kind : CountedKind A) (m : Map) (db : Database A)
    (start end asked : ℕ) (counted : String Global × Tally) : Type 0 where
  pub text : kind.is_report m db start end (string_bytes counted.0)
  pub lookups : counted.1.lookups ≤ asked + pieces m db start end
  pub answered : counted.1.answered ≤ pieces m db start end

-- A text is the report of a file on a range, and counting took as much at most.
pub record IsCounted (f : SizesOf) (start end : ℕ) (counted : String Global × Tally)
    : Type 0 where
  pub text : f.is_report start end (string_bytes counted.0)
  pub lookups : f.is_within start end counted.1.lookups
  pub answered : f.is_within start end counted.1.answered

-- ---- a run

-- The report on a range from a file in memory: how the run ends, by what the writer contains, where
-- that is known, and by the writer before and after the run.
pub record CountsSizes {W : Type 0} (f : SizesOf) (start end : ℕ)
    (contents : W → Option (List ℕ)) (writer writer' : Watched W) (result : Result Tally RunFault)
    : Type 0 where
  -- `Load` is the file's loading fault, and nothing was written
  pub load : IfErr result (λ fault. OnLoad fault (λ cause.
      IsFileFault cause f.fault × (writer' ≡ writer)))
  -- every other end but out of memory says that the file has no loading fault
  pub loaded : UnlessLoad result (f.fault ≡ None)
  -- a reversed range is refused exactly where it is one, with nothing written
  pub reversed : IfErr result (λ fault. OnReversed fault ((end < start) × (writer' ≡ writer)))
  pub order : OnCounted result (start ≤ end)
  -- the faults are faults of a report on a range
  pub kind : IfErr result IsOfSizes
  -- out of memory is returned with nothing written, or where there is no loading fault
  pub memory : IfErr result (λ fault. OnMemory fault ((f.fault ≡ None) ⊎ (writer' ≡ writer)))
  -- where the run ends well, the report is out
  pub ok : OnOk result ((text : List ℕ) × f.is_report start end text
      × Writes contents writer writer' text)
  -- there was at most one lookup for each piece
  pub lookups : IfOk result (λ tally. f.is_within start end tally.lookups)
  -- and one more question for each key that lookups found
  pub answered : IfOk result (λ tally. f.is_within start end tally.answered)
  -- and the writer didn't fail
  pub quiet : OnOk result (IsQuiet writer writer')
  -- a failed write is one of this run, with its kind
  pub write_fails : IfErr result (λ fault. OnWrite fault (λ k. CountsFailure writer writer' k))
  -- at every fault nothing is out, or a prefix of the report
  pub part : OnErr result ((writer' ≡ writer) ⊎ ((text : List ℕ) × f.is_report start end text
      × WritesFront contents writer writer' text))

-- The same over a file that is read on demand. What is said of the file's bytes holds where they
-- agree with what was read, which `known` says.
pub record CountsIfKnown {W : Type 0} (known : Type 0) (f : SizesOf) (start end : ℕ)
    (contents : W → Option (List ℕ)) (writer writer' : Watched W) (result : Result Tally RunFault)
    : Type 0 where
  -- `Load` comes with nothing written, and is the file's loading fault
  pub load : IfErr result (λ fault. OnLoad fault (λ cause.
      (writer' ≡ writer) × (known → IsFileFault cause f.fault)))
  -- every other end but out of memory and a file that couldn't be read says that the file has no
  -- loading fault
  pub loaded : known → UnlessLoad result (f.fault ≡ None)
  -- a reversed range is refused exactly where it is one, with nothing written
  pub reversed : IfErr result (λ fault. OnReversed fault ((end < start) × (writer' ≡ writer)))
  pub order : OnCounted result (start ≤ end)
  -- the faults are faults of a report on a range, or the file couldn't be read
  pub kind : IfErr result IsOfFileSizes
  -- out of memory, and a file that couldn't be read, are returned with nothing written, or where
  -- there is no loading fault
  pub memory : known → IfErr result (λ fault. IfRefused fault
      ((f.fault ≡ None) ⊎ (writer' ≡ writer)))
  -- where the run ends well, the report is out
  pub ok : known → OnOk result ((text : List ℕ) × f.is_report start end text
      × Writes contents writer writer' text)
  -- the last count took at most one lookup for each piece
  pub lookups : known → IfOk result (λ tally. f.is_within start end tally.lookups)
  -- and one more question for each key that lookups found
  pub answered : known → IfOk result (λ tally. f.is_within start end tally.answered)
  -- and the writer didn't fail
  pub quiet : OnOk result (IsQuiet writer writer')
  -- a failed write is one of this run, with its kind
  pub write_fails : IfErr result (λ fault. OnWrite fault (λ k. CountsFailure writer writer' k))
  -- at every fault nothing is out, or a prefix of the report
  pub part : known → OnErr result ((writer' ≡ writer) ⊎ ((text : List ℕ)
      × f.is_report start end text × WritesFront contents writer writer' text))

-- The report on a range from a file that is read on demand, and what is left of the file: it is
-- taken to have the same bytes, and what is said of these holds where they agree with what was
-- read.
pub record CountsFileSizes {F W : Type 0} (f : SizesOf) (start end : ℕ)
    (written : W → Option (List ℕ)) (writer writer' : Watched W) (result : FileSizes F)
    : Type 0 where
  pub contents : result.source.contents.numbers ≡ f.bytes
  pub run : CountsIfKnown (agrees result.source.views f.bytes ≡ true) f start end written writer
      writer' result.outcome
