-- Files of which a prefix alone is read.
use Rattle.std.proofs.Common.{◌≡◌, ℕ, List, refl, ap, subst}
use Rattle.pdb_loading.specs.declared.order.ContributionOrder.{ContributionOrder}
use Rattle.pdb_loading.specs.FileRead.{IsRead}
use Rattle.pdb_loading.proofs.StreamsRead.{streams_read}
use Rattle.pdb_loading.specs.Loading.{load_fault_with}
use Rattle.pdb_report.specs.SameReports.{HaveSameReports, HaveSameReportsWith}
use Rattle.pdb_symbols_modules.specs.Streams.{Streams, streams}

-- what was read has the file's loading fault
pub alike : (order : ContributionOrder) (file bytes : List ℕ) → IsRead file bytes → load_fault_with order (streams bytes) ≡ load_fault_with order (streams file)
alike order file bytes read = ap (load_fault_with order) (streams_read file bytes read)

own_reports : (order : ContributionOrder) (s : Streams) → HaveSameReportsWith order s s
own_reports order s = record {
  fault = refl;
  answers = λ x. refl;
  functions = λ x. refl;
  lists = refl;
  inputs = λ input. refl;
  ranges = λ start end text. (λ r. r, λ r. r);
  by_file = λ start end text. (λ r. r, λ r. r);
}

-- and its reports
pub same_reports : (file bytes : List ℕ) → IsRead file bytes → HaveSameReports (streams bytes) (streams file)
same_reports file bytes read order = subst (λ s. HaveSameReportsWith order (streams bytes) s) (streams_read file bytes read) (own_reports order (streams bytes))
