-- Reports on ranges add up.
use Rattle.std.specs.Prelude.{◌≡◌, ℕ, ◌+◌, ◌-◌, ◌≤◌, List}
use Rattle.pdb_owners.specs.Counts.{count_of_none, count_without}
use Rattle.pdb_owners.specs.FileAnswers.{FileAnswer, file_cmp}
use Rattle.pdb_owners.specs.FunctionOrder.{Function, function_cmp}
use Rattle.pdb_owners.specs.Table.{count_in, sum_of}
use Rattle.pdb_loading.specs.declared.order.ContributionOrder.{ContributionOrder}
use Rattle.pdb_report.specs.Answer.{database_with, files_with}
use Rattle.pdb_report.specs.SizesByFile.{IsSizesByFileWith}
use Rattle.pdb_report.specs.SizesReport.{IsSizesReportWith}
use Rattle.pdb_symbols_modules.specs.Streams.{Streams}

-- The reports of every file by function add up.
pub record SizesAddUp : Type 0 where
  -- the counts, and the count of nothing, are as many as the range has addresses
  pub sum : (order : ContributionOrder) (s : Streams) (start end : ℕ) (text : List ℕ) → start ≤ end
      → (r : IsSizesReportWith order s start end text)
      → sum_of r.report.table + count_of_none r.map (database_with order s) start end ≡ end - start
  -- the counts of a function on two ranges, one after the other, are its count on both
  pub each : (order : ContributionOrder) (s : Streams) (a b c : ℕ) (x y z : List ℕ) → a ≤ b → b ≤ c
      → (p : IsSizesReportWith order s a b x) (q : IsSizesReportWith order s b c y)
      (r : IsSizesReportWith order s a c z) (f : Function)
      → count_in function_cmp p.report.table f + count_in function_cmp q.report.table f
      ≡ count_in function_cmp r.report.table f
  -- and so are the counts of nothing
  pub none : (order : ContributionOrder) (s : Streams) (a b c : ℕ) (x y z : List ℕ) → a ≤ b → b ≤ c
      → (p : IsSizesReportWith order s a b x) (q : IsSizesReportWith order s b c y)
      (r : IsSizesReportWith order s a c z)
      → count_of_none p.map (database_with order s) a b
      + count_of_none q.map (database_with order s) b c
      ≡ count_of_none r.map (database_with order s) a c

-- The reports of every file by source file add up, among themselves and to the reports by function.
pub record SizesByFileAddUp : Type 0 where
  -- the counts, and the count of nothing, are as many as the range has addresses
  pub sum : (order : ContributionOrder) (s : Streams) (start end : ℕ) (text : List ℕ) → start ≤ end
      → (r : IsSizesByFileWith order s start end text)
      → sum_of r.report.table + count_of_none r.map (files_with order s) start end ≡ end - start
  -- the counts of a file on two ranges, one after the other, are its count on both
  pub each : (order : ContributionOrder) (s : Streams) (a b c : ℕ) (x y z : List ℕ) → a ≤ b → b ≤ c
      → (p : IsSizesByFileWith order s a b x) (q : IsSizesByFileWith order s b c y)
      (r : IsSizesByFileWith order s a c z) (f : FileAnswer)
      → count_in file_cmp p.report.table f + count_in file_cmp q.report.table f
      ≡ count_in file_cmp r.report.table f
  -- and so are the counts of nothing
  pub none : (order : ContributionOrder) (s : Streams) (a b c : ℕ) (x y z : List ℕ) → a ≤ b → b ≤ c
      → (p : IsSizesByFileWith order s a b x) (q : IsSizesByFileWith order s b c y)
      (r : IsSizesByFileWith order s a c z)
      → count_of_none p.map (files_with order s) a b + count_of_none q.map (files_with order s) b c
      ≡ count_of_none r.map (files_with order s) a c
  -- the counts of files are the counts of functions, and as many more as the report by function
  -- leaves out
  pub functions : (order : ContributionOrder) (s : Streams) (start end : ℕ) (x y : List ℕ)
      → start ≤ end
      → (p : IsSizesReportWith order s start end x) (q : IsSizesByFileWith order s start end y)
      → sum_of q.report.table ≡ sum_of p.report.table
      + count_without p.map (database_with order s) (files_with order s) start end
  -- the report by function has as many more for nothing
  pub left_out : (order : ContributionOrder) (s : Streams) (start end : ℕ) (x y : List ℕ)
      → start ≤ end
      → (p : IsSizesReportWith order s start end x) (q : IsSizesByFileWith order s start end y)
      → count_of_none p.map (database_with order s) start end
      ≡ count_of_none q.map (files_with order s) start end
      + count_without p.map (database_with order s) (files_with order s) start end
