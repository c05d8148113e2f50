-- Files that agree stream by stream have the same reports.
use Rattle.std.proofs.Common.{◌≡◌, ℕ, ◌<◌, ◌^◌, List, Result, Ok, Err, refl, sym, ap, ◌∙◌, subst}
use Rattle.std.specs.Prelude.{◌↔◌}
use mathlib.Core.Path.{fun_ext}
use Rattle.pdb_addresses.specs.Addresses.{Map}
use Rattle.pdb_loading.specs.declared.order.ContributionOrder.{ContributionOrder}
use Rattle.pdb_frames.specs.Files.{files_of}
use Rattle.pdb_frames.specs.FramesAt.{frames, function}
use Rattle.pdb_frames.specs.Runs.{database_of}
use Rattle.pdb_container.specs.Alike.{OpenAlike, ReadAlike}
use Rattle.pdb_owners.specs.Databases.{Database}
use Rattle.pdb_owners.specs.FileReport.{IsFileReport}
use Rattle.pdb_report.specs.Answer.{scope, answer_with, answer_by, function_with, function_by, database_with, database_by, files_with, files_by, answer_named, function_named, database_named, files_named}
use Rattle.pdb_report.specs.Answer.{listing_with, listing_by, map_with, map_by, listing_named}
use Rattle.pdb_loading.specs.Loading.{Loaded, loaded_with, LoadingFault}
use Rattle.pdb_report.specs.SameReports.{HaveSameReports, HaveSameReportsWith}
use Rattle.pdb_report.specs.SizesReport.{IsReportOn}
use Rattle.pdb_owners.specs.Report.{IsReport}
use Rattle.pdb_symbols_modules.specs.Shared.{shared}
use Rattle.pdb_symbols_modules.specs.Streams.{Streams, streams, fault_in}
use Rattle.pdb_report.proofs.IsolationLaw.{scope_alike}
use Rattle.pdb_report.proofs.NeededStreams.{NeedsAlike, all_needs, shared_alike}

-- two files of which every module has the same streams
module _ (order : ContributionOrder) (a b : Streams) (h : (m : ℕ) → NeedsAlike m a b) where
  scopes_alike : (l : Loaded) → loaded_with order (shared a) ≡ Ok l → scope a l ≡ scope b l
  scopes_alike l e = fun_ext λ m. scope_alike order a b m l (h m) e

  -- what is made of what was loaded and of the scopes
  by_loaded : {Y : Type 0} (f : Streams → Result Loaded LoadingFault → Y) → ((e : LoadingFault) → f a (Err e) ≡ f b (Err e)) → ((l : Loaded) → scope a l ≡ scope b l → f a (Ok l) ≡ f b (Ok l)) → f a (loaded_with order (shared a)) ≡ f b (loaded_with order (shared b))
  by_loaded f refused read = by_result (loaded_with order (shared a)) scopes_alike ∙ ap (λ c. f b (loaded_with order c)) (shared_alike a b 0 (h 0))
    where
      by_result : (r : Result Loaded LoadingFault) → ((l : Loaded) → r ≡ Ok l → scope a l ≡ scope b l) → f a r ≡ f b r
      by_result (Err e) same = refused e
      by_result (Ok l) same = read l (same l refl)

  answer_same : answer_with order a ≡ answer_with order b
  unfolding answer_named
  answer_same = by_loaded (answer_by 23) (λ e. refl) (λ l same. ap (frames l.parts) same)

  function_same : function_with order a ≡ function_with order b
  unfolding function_named
  function_same = by_loaded (function_by 23) (λ e. refl) (λ l same. ap (function l.parts) same)

  database_same : database_with order a ≡ database_with order b
  unfolding database_named
  database_same = by_loaded (database_by 23) (λ e. refl) (λ l same. ap (database_of l.parts) same)

  files_same : files_with order a ≡ files_with order b
  unfolding files_named
  files_same = by_loaded (files_by 23) (λ e. refl) (λ l same. ap (files_of l.parts) same)

  listing_same : listing_with order a ≡ listing_with order b
  unfolding listing_named
  listing_same = by_loaded (listing_by 23) (λ e. refl) (λ l same. rw same refl)

  map_same : map_with order a ≡ map_with order b
  unfolding map_with
  map_same = ap (λ c. map_by (loaded_with order c)) (shared_alike a b 0 (h 0))

on_same : {A : Type 0} (is_report : Map → Database A → ℕ → ℕ → List ℕ → Type 0) (p q : Database A) (order : ContributionOrder)
    (a b : Streams) (start end : ℕ) (text : List ℕ) → map_with order a ≡ map_with order b → p ≡ q
    → IsReportOn is_report p order a start end text → IsReportOn is_report q order b start end text
on_same {A = A} is_report p q order a b start end text map_is places_are r = record {
  map = r.map;
  map_is = sym map_is ∙ r.map_is;
  report = subst (λ (d : Database A). is_report r.map d start end text) places_are r.report;
}

-- reports by one address map and the same places
same_on : {A : Type 0} (is_report : Map → Database A → ℕ → ℕ → List ℕ → Type 0) (p q : Database A) (order : ContributionOrder)
    (a b : Streams) (start end : ℕ) (text : List ℕ) → map_with order a ≡ map_with order b → p ≡ q
    → IsReportOn is_report p order a start end text ↔ IsReportOn is_report q order b start end text
same_on is_report p q order a b start end text map_is places_are = (
  on_same is_report p q order a b start end text map_is places_are,
  on_same is_report q p order b a start end text (sym map_is) (sym places_are),
)

-- the same reports where section contributions have to stand in an order
reports_with : (order : ContributionOrder) (a b : Streams) → ((m : ℕ) → NeedsAlike m a b) → HaveSameReportsWith order a b
reports_with order a b h =
    let answers = answer_same order a b h in
    let functions = function_same order a b h in
    let map = map_same order a b h in
    record {
      fault = ap (λ c. fault_in (loaded_with order c)) (shared_alike a b 0 (h 0));
      answers = λ x. ap (λ (f : ℕ → _). f x) answers;
      functions = λ x. ap (λ (f : ℕ → _). f x) functions;
      lists = listing_same order a b h;
      inputs = λ input. rw answers refl;
      ranges = λ start end text. same_on IsReport (database_with order a) (database_with order b) order a b start end text map (database_same order a b h);
      by_file = λ start end text. same_on IsFileReport (files_with order a) (files_with order b) order a b start end text map (files_same order a b h);
    }

-- the law
pub same_reports : (a b : List ℕ) → OpenAlike a b → ((n : ℕ) → n < 2 ^ 32 → ReadAlike a b n) → HaveSameReports (streams a) (streams b)
same_reports a b opens reads order = reports_with order (streams a) (streams b) (all_needs a b opens reads)
