-- How a report on a range ends.
use Rattle.std.proofs.Common.{◌≡◌, ℕ, ◌≤◌, List, Some, Result, Ok, Err, inl, inr, refl, sym, subst}
use Rattle.std.proofs.Common.{arith}
use Rattle.std.proofs.Common.{Global, String}
use Rattle.std.specs.Prelude.{Option, None, IfOk, string_bytes}
use Rattle.pdb_addresses.specs.Addresses.{Map}
use Rattle.pdb_engine.specs.declared.watched.Watched.{Watched}
use Rattle.pdb_owners.specs.Counts.{pieces}
use Rattle.pdb_owners.specs.Databases.{Database}
use Rattle.pdb_loading.specs.declared.load_fault.LoadFault.{LoadFault}
use Rattle.pdb_loading.specs.declared.load_fault.LoadFault.TheVariants as faults
use Rattle.pdb_loading.specs.declared.order.ContributionOrder.{ContributionOrder}
use Rattle.pdb_loading.specs.LoadedFile.{FileBytes}
use Rattle.pdb_loading.specs.LoadFaults.{IsFileFault, Refuses}
use Rattle.pdb_loading.specs.Loading.{LoadingFault, load_fault_with}
use Rattle.pdb_symbols_modules.specs.Streams.{streams}
use Rattle.pdb_report.specs.Answer.{map_with}
use Rattle.pdb_report.specs.declared.sizes.Tally.{Tally}
use Rattle.pdb_report.specs.SizesReport.{CountedKind}
use Rattle.pdb_report.specs.RangeReports.{CountsPlaces, CountsSizes, IsCounted, SizesOf, counted_loaded, counted_with, sizes_by}
use Rattle.pdb_report.specs.declared.fault.RunFault.{RunFault}
use Rattle.pdb_report.specs.declared.fault.RunFault.TheVariants as runs
use Rattle.pdb_report.specs.RunFaults.{IsOfSizes, OnLoad, run_fault_of}
use Rattle.pdb_report.proofs.FileFaults.{IsOfOpening, if_memory, of_loading, of_memory}

-- a context that answers as the file does, and was asked nothing before, counts as the file does
pub counted_places : {A : Type 0} (kind : CountedKind A)
    (fault : Option LoadingFault) (file : FileBytes) (m : Map) (found : Database A) (start end asked : ℕ)
    → map_with file.order (streams file.bytes) ≡ Some m → found ≡ kind.places file.order (streams file.bytes) → asked ≡ 0
    → {E : Type 0} (r : Result (String Global × Tally) E) → IfOk r (CountsPlaces kind m found start end asked)
    → IfOk r (IsCounted (sizes_by kind fault file) start end)
counted_places {A} kind fault file m found start end asked map_is same none (Ok k) h = record {
  text = record {
    map = m;
    map_is = map_is;
    report = subst (λ (d : Database A). kind.is_report m d start end (string_bytes k.0)) same h.text;
  };
  lookups = record {
    map = m;
    map_is = map_is;
    few = subst (λ (d : Database A). k.1.lookups ≤ pieces m d start end) same (omega (arith, none, h.lookups));
  };
  answered = record {
    map = m;
    map_is = map_is;
    few = subst (λ (d : Database A). k.1.answered ≤ pieces m d start end) same h.answered;
  };
}
counted_places kind fault file m found start end asked map_is same none (Err e) h = tt

module _ {W : Type 0} (contents : W → Option (List ℕ)) (f : SizesOf) (start end : ℕ) (writer : Watched W) where
  -- a run ends by a fault of opening the file, with nothing written
  untouched : (fault : RunFault) → IsOfOpening fault → OnLoad fault (λ cause. IsFileFault cause f.fault × (writer ≡ writer)) → IsOfSizes fault
      → CountsSizes f start end contents writer writer (Err fault)
  untouched fault opening load kind = record {
    load = load;
    loaded = opening.loaded _;
    reversed = opening.on_reversed _;
    order = opening.counted _;
    kind = kind;
    memory = if_memory fault _ (inr refl);
    ok = tt;
    lookups = tt;
    answered = tt;
    quiet = tt;
    write_fails = opening.on_write _;
    part = inl refl;
  }

  -- nothing is written where a file is refused
  pub refused : (e : LoadFault) → Refuses e f.fault → CountsSizes f start end contents writer writer (Err (run_fault_of e))
  refused faults.OutOfMemory h = untouched runs.OutOfMemory of_memory tt tt
  refused e h = untouched _ (of_loading _) (h, refl) tt

-- a file that was loaded has no loading fault
pub of_loaded : {A W : Type 0} (kind : CountedKind A)
    (contents : W → Option (List ℕ)) (start end : ℕ) (writer writer' : Watched W) (order : ContributionOrder) (file : FileBytes) (bytes : List ℕ) (result : Result Tally RunFault)
    → file ≡ record { bytes = bytes; order = order } → load_fault_with order (streams bytes) ≡ None
    → CountsSizes (counted_loaded kind file) start end contents writer writer' result
    → CountsSizes (counted_with kind order bytes) start end contents writer writer' result
of_loaded kind contents start end writer writer' order file bytes result same none r =
    subst (λ (fault : Option LoadingFault). CountsSizes (sizes_by kind fault (record { bytes = bytes; order = order })) start end contents writer writer' result) (sym none)
    (subst (λ (f : FileBytes). CountsSizes (counted_loaded kind f) start end contents writer writer' result) same r)
