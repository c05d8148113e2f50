-- Tables of answers, or of keys that stand for answers, with their counts.
use Rattle.std.specs.Prelude.{◌≡◌, ℕ, ◌+◌, ◌≤◌, Bool, is_some, List, [], ◌∷◌, Option, unwrap_or}
use Rattle.std.specs.Prelude.{length, sum, if◌then◌else◌}
use Rattle.std.specs.declared.cmp.Ordering.{Ordering}
use Rattle.std.specs.List.{All}
use Rattle.std.specs.List.Sorted.{IsStrictlySortedBy}
use Rattle.std.specs.Map.{lookup, keys_of, values_of}
use Rattle.pdb_owners.specs.Answers.{is_same, picked}
use Rattle.pdb_owners.specs.Counts.{how_many}

-- the count of an answer in a table; 0 where it isn't there
abbrev pub count_in : {A : Type 0} → (A → A → Ordering) → List (A × ℕ) → A → ℕ
count_in cmp table f = unwrap_or (lookup (is_same cmp f) table) 0

-- all counts together
abbrev pub sum_of : {A : Type 0} → List (A × ℕ) → ℕ
sum_of table = sum (values_of table)

-- in the order of answers, each once, and none with a count of 0
pub record IsTable {A : Type 0} (cmp : A → A → Ordering) (table : List (A × ℕ)) : Type 0 where
  pub order : IsStrictlySortedBy cmp (keys_of table)
  pub some : All (λ n. 1 ≤ n) (values_of table)

-- the counts of the answers that pass a test
abbrev pub sum_where : {A : Type 0} → (A → Bool) → List (A × ℕ) → ℕ
sum_where test [] = 0
sum_where test (e ∷ table) = (if test e.0 then e.1 else 0) + sum_where test table

-- the counts of the keys whose answers pass a test
abbrev pub sum_found : {K A : Type 0} → (K → Option A) → (A → Bool) → List (K × ℕ) → ℕ
sum_found found test table = sum_where (λ k. picked test (found k)) table

-- a count of n, if it is a count of something, has come to a table, which has at most one more row
-- then
pub record IsAdded {A : Type 0} (old : List (A × ℕ)) (answer : Option A) (n : ℕ)
    (new : List (A × ℕ)) : Type 0 where
  pub each : (test : A → Bool)
      → sum_where test new ≡ sum_where test old + (if picked test answer then n else 0)
  pub all : sum_of new ≡ sum_of old + (if is_some answer then n else 0)
  pub few : length new ≤ length old + 1

-- n numbers from one on, each with its answer, have come to a table of keys
pub record IsCounted {K A : Type 0} (found : K → Option A) (answer : ℕ → Option A) (from n : ℕ)
    (old new : List (K × ℕ)) : Type 0 where
  pub each : (test : A → Bool)
      → sum_found found test new
      ≡ sum_found found test old + how_many (λ x. picked test (answer x)) from n
  pub room : sum_of new ≤ sum_of old + n

-- a table of keys became a table of the answers that they stand for
pub record IsResolved {K A : Type 0} (found : K → Option A) (keys : List (K × ℕ))
    (counts : List (A × ℕ)) : Type 0 where
  pub each : (test : A → Bool) → sum_where test counts ≡ sum_found found test keys

-- a number rose by at most the number of those that pass a test
pub record IsWithin (test : ℕ → Bool) (from n old new : ℕ) : Type 0 where
  pub bound : new ≤ old + how_many test from n
