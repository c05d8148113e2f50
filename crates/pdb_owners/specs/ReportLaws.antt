-- Counts and reports on ranges add up, and counts determine a report's lines.
use Rattle.std.specs.Prelude.{◌≡◌, ℕ, ◌+◌, ◌-◌, ◌≤◌, true, List, is_some}
use Rattle.pdb_addresses.specs.Addresses.{Map}
use Rattle.pdb_addresses.specs.Places.{Place}
use Rattle.pdb_owners.specs.Counts.{count, count_of_none, count_without}
use Rattle.pdb_owners.specs.Databases.{Database}
use Rattle.pdb_owners.specs.FileAnswers.{FileAnswer, file_cmp}
use Rattle.pdb_owners.specs.FileReport.{IsFileReport}
use Rattle.pdb_owners.specs.FunctionOrder.{Function, function_cmp}
use Rattle.pdb_owners.specs.Report.{IsReport}
use Rattle.pdb_owners.specs.Table.{IsTable, count_in, sum_of}

-- The counts of two ranges, one after the other, are those of both: of each function, and of
-- nothing.
pub record CountsAddUp : Type 0 where
  pub each : (m : Map) (db : Database Function) (a b c : ℕ) (f : Function) → a ≤ b → b ≤ c
      → count function_cmp m db a b f + count function_cmp m db b c f
      ≡ count function_cmp m db a c f
  pub none : (m : Map) (db : Database Function) (a b c : ℕ) → a ≤ b → b ≤ c
      → count_of_none m db a b + count_of_none m db b c ≡ count_of_none m db a c

-- The counts that a table has for each answer determine the table.
pub record CountsDetermine : Type 0 where
  pub functions : (t u : List (Function × ℕ)) → IsTable function_cmp t → IsTable function_cmp u
      → ((f : Function) → count_in function_cmp t f ≡ count_in function_cmp u f) → t ≡ u
  pub files : (t u : List (FileAnswer × ℕ)) → IsTable file_cmp t → IsTable file_cmp u
      → ((f : FileAnswer) → count_in file_cmp t f ≡ count_in file_cmp u f) → t ≡ u

-- Reports by function add up.
pub record ReportsAddUp : Type 0 where
  -- the counts, and that of nothing, are as many as the range has addresses
  pub sum : (m : Map) (db : Database Function) (s e : ℕ) (text : List ℕ) → s ≤ e
      → (r : IsReport m db s e text) → sum_of r.table + count_of_none m db s e ≡ e - s
  -- the counts of a function on two ranges, one after the other, are its count on both
  pub joined : (m : Map) (db : Database Function) (a b c : ℕ) (x y z : List ℕ) → a ≤ b → b ≤ c
      → (p : IsReport m db a b x) (q : IsReport m db b c y) (r : IsReport m db a c z)
      (f : Function)
      → count_in function_cmp p.table f + count_in function_cmp q.table f
      ≡ count_in function_cmp r.table f

-- Reports by source file add up.
pub record FileReportsAddUp : Type 0 where
  -- the counts, and that of nothing, are as many as the range has addresses
  pub sum : (m : Map) (db : Database FileAnswer) (s e : ℕ) (text : List ℕ) → s ≤ e
      → (r : IsFileReport m db s e text) → sum_of r.table + count_of_none m db s e ≡ e - s
  -- the counts of a file on two ranges, one after the other, are its count on both
  pub joined : (m : Map) (db : Database FileAnswer) (a b c : ℕ) (x y z : List ℕ) → a ≤ b → b ≤ c
      → (p : IsFileReport m db a b x) (q : IsFileReport m db b c y) (r : IsFileReport m db a c z)
      → (f : FileAnswer)
      → count_in file_cmp p.table f + count_in file_cmp q.table f ≡ count_in file_cmp r.table f
  -- where each function has a file, no known file, or frames that can't be read, the counts are
  -- those of all functions, and the number of addresses that have one of these and no function
  pub functions : (m : Map) (db : Database Function) (files : Database FileAnswer) (s e : ℕ)
      (x y : List ℕ) → s ≤ e
      → ((place : Place) → is_some (db.answer place) ≡ true → is_some (files.answer place) ≡ true)
      → (p : IsReport m db s e x) (q : IsFileReport m files s e y)
      → sum_of q.table ≡ sum_of p.table + count_without m db files s e
