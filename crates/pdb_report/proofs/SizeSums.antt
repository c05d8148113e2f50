-- What the reports on the ranges of one file have, and how it adds up.
use Rattle.std.proofs.Common.{◌≡◌, ℕ, ◌+◌, ◌≤◌, List, Some, Result, Ok, Err, not, sym, ap, ◌∙◌}
use Rattle.std.proofs.Common.{true, arith}
use Rattle.std.specs.Prelude.{is_some}
use Rattle.std.specs.declared.cmp.Ordering.{Ordering}
use Rattle.pdb_addresses.specs.Addresses.{Map}
use Rattle.pdb_addresses.specs.Places.{Place}
use Rattle.pdb_loading.specs.declared.order.ContributionOrder.{ContributionOrder}
use Rattle.pdb_frames.proofs.FileRunLaw.{functions_have_files}
use Rattle.pdb_owners.specs.Answers.{is_answer}
use Rattle.pdb_owners.specs.Counts.{counted_at, count, count_of_none}
use Rattle.pdb_owners.specs.Databases.{Database}
use Rattle.pdb_owners.specs.FileAnswers.{FileAnswer, file_cmp}
use Rattle.pdb_owners.specs.FileReport.{IsFileReport}
use Rattle.pdb_owners.specs.Table.{count_in}
use Rattle.pdb_owners.specs.Texts.{by_file_text}
use Rattle.pdb_owners.proofs.HowMany.{how_many-split}
use Rattle.pdb_symbols_modules.specs.Shared.{shared}
use Rattle.pdb_symbols_modules.specs.Streams.{Streams}
use Rattle.pdb_report.specs.Answer.{map_with, database_with, database_by, files_with, files_by, scope, database_named, files_named}
use Rattle.pdb_loading.specs.Loading.{Loaded, loaded_with, LoadingFault}

same_some : (m n : Map) → Some m ≡ Some n → m ≡ n
same_some m n h = (cc)

-- reports of one file go by one address map
pub one_map : (order : ContributionOrder) (s : Streams) (m n : Map) → map_with order s ≡ Some m → map_with order s ≡ Some n → m ≡ n
one_map order s m n m_is n_is = same_some m n (sym m_is ∙ n_is)

-- two ranges, one after the other, and both
module _ {A : Type 0} (cmp : A → A → Ordering) (order : ContributionOrder) (s : Streams) (db : Database A) (l m n : Map)
    (l_is : map_with order s ≡ Some l) (m_is : map_with order s ≡ Some m) (n_is : map_with order s ≡ Some n)
    (a b c : ℕ) (ab : a ≤ b) (bc : b ≤ c) where
  pub each_joined : (t u v : List (A × ℕ)) (x : A) → count_in cmp t x ≡ count cmp l db a b x
      → count_in cmp u x ≡ count cmp m db b c x → count_in cmp v x ≡ count cmp n db a c x
      → count_in cmp t x + count_in cmp u x ≡ count_in cmp v x
  each_joined t u v x first second both =
      let one = ap (λ (k : Map). count cmp k db a b x) (one_map order s l n l_is n_is) in
      let other = ap (λ (k : Map). count cmp k db b c x) (one_map order s m n m_is n_is) in
      let all = how_many-split (λ y. is_answer cmp x (counted_at n db y)) a b c ab bc in
      omega (arith, first, second, both, one, other, all)

  pub none_joined : count_of_none l db a b + count_of_none m db b c ≡ count_of_none n db a c
  none_joined =
      let one = ap (λ (k : Map). count_of_none k db a b) (one_map order s l n l_is n_is) in
      let other = ap (λ (k : Map). count_of_none k db b c) (one_map order s m n m_is n_is) in
      let all = how_many-split (λ y. not (is_some (counted_at n db y))) a b c ab bc in
      omega (arith, one, other, all)

-- where a file has a function, it has a file of it, no known file, or frames that can't be read
files_loaded : (s : Streams) (r : Result Loaded LoadingFault) (place : Place)
    → is_some ((database_by 23 s r).answer place) ≡ true
    → is_some ((files_by 23 s r).answer place) ≡ true
files_loaded s (Err e) place h = h
files_loaded s (Ok l) place h = functions_have_files l.parts (scope s l) place h

pub have_files : (order : ContributionOrder) (s : Streams) (place : Place)
    → is_some ((database_with order s).answer place) ≡ true
    → is_some ((files_with order s).answer place) ≡ true
unfolding database_named files_named
have_files order s place h = files_loaded s (loaded_with order (shared s)) place h

-- a report by file goes by the address map of any other report of the file
abbrev pub by_map : (m n : Map) (db : Database FileAnswer) (start end : ℕ) (text : List ℕ) → m ≡ n
    → IsFileReport m db start end text → IsFileReport n db start end text
by_map m n db start end text same r = record {
  table = r.table;
  in_order = r.in_order;
  each = λ f. r.each f ∙ ap (λ (k : Map). count file_cmp k db start end f) same;
  text_is = r.text_is
      ∙ ap (λ (k : Map). by_file_text r.table (count_of_none k db start end)) same;
}
