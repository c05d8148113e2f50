-- Sums over tables of keys, entry by entry.
use Rattle.std.proofs.Common.{◌≡◌, ℕ, ◌+◌, ◌-◌, ◌≤◌, Bool, true, false, List, ◌∷◌, ap, ◌∙◌, subst, arith}
use Rattle.std.specs.Prelude.{Result, Ok, Err, if◌then◌else◌}
use Rattle.std.specs.Map.{values_of}
use Rattle.std.proofs.lemmas.List.Sums.{sum_by-cons}
use Rattle.pdb_addresses.specs.Addresses.{Map}
use Rattle.pdb_owners.specs.Answers.{picked}
use Rattle.pdb_owners.specs.Counted.{CountsAddresses}
use Rattle.pdb_owners.specs.Counts.{counted_at, how_many}
use Rattle.pdb_owners.specs.Databases.{Keyed}
use Rattle.pdb_owners.specs.Table.{sum_found, sum_of, sum_where}
use Rattle.pdb_listings.specs.NamedSizes.{CountsBytes, CountsNamed, SumsBytes, SumsNamed, Table, named}

-- one entry more was added
pub entry_added : {K A : Type 0} (kd now : Keyed K A) (test : A → Bool) (key : K) (bytes : ℕ) (rest left : List (K × ℕ)) (old new all : ℕ)
    → left ≡ (key, bytes) ∷ rest → now ≡ kd → new ≡ old + (if picked test (now.answer_of key) then bytes else 0)
    → old + sum_found kd.answer_of test left ≡ all → new + sum_found kd.answer_of test rest ≡ all
entry_added {K} {A} kd now test key bytes rest left old new all steps same added so_far =
    let here : new ≡ old + (if picked test (kd.answer_of key) then bytes else 0) =
    subst (λ (k : Keyed K A). new ≡ old + (if picked test (k.answer_of key) then bytes else 0)) same added in
    let whole : old + sum_found kd.answer_of test ((key, bytes) ∷ rest) ≡ all =
    subst (λ (l : List (K × ℕ)). old + sum_found kd.answer_of test l ≡ all) steps so_far in
    omega (arith, here, whole)

most_of : (b : Bool) (n : ℕ) → (if b then n else 0) ≤ n
most_of true n = omega arith
most_of false n = omega arith

-- the sum stays in its bounds
pub entry_room : {K : Type 0} (b : Bool) (key : K) (bytes : ℕ) (rest left : List (K × ℕ)) (old new all : ℕ)
    → left ≡ (key, bytes) ∷ rest → new ≡ old + (if b then bytes else 0)
    → old + sum_of left ≤ all → new + sum_of rest ≤ all
entry_room {K} b key bytes rest left old new all steps added so_far =
    let most = most_of b bytes in
    let one = sum_by-cons (λ (n : ℕ). n) bytes (values_of rest) in
    let whole : old + sum_of ((key, bytes) ∷ rest) ≤ all = subst (λ (l : List (K × ℕ)). old + sum_of l ≤ all) steps so_far in
    omega (arith, most, one, added, whole)

-- one entry fits
pub entry_fits : {K : Type 0} (e : K × ℕ) (rest : List (K × ℕ)) (old all : ℕ) → old + sum_of (e ∷ rest) ≤ all → old + e.1 ≤ all
entry_fits e rest old all so_far =
    let one = sum_by-cons (λ (n : ℕ). n) e.1 (values_of rest) in
    omega (arith, one, so_far)

-- the counts of the keys of addresses are those of the addresses
sum_counted : {K A : Type 0} (kd last : Keyed K A) (m : Map) (s e : ℕ) (test : A → Bool) (keys : List (K × ℕ)) (sum : ℕ)
    → last ≡ kd → CountsAddresses m kd s e keys → sum ≡ sum_found last.answer_of test keys
    → sum ≡ how_many (λ a. picked test (counted_at m kd.places a)) s (e - s)
sum_counted {K} {A} kd last m s e test keys sum same counted is =
    let all : sum_found kd.answer_of test keys ≡ 0 + how_many (λ a. picked test (counted_at m kd.places a)) s (e - s) = counted.each test in
    let here : sum ≡ sum_found kd.answer_of test keys = is ∙ ap (λ (k : Keyed K A). sum_found k.answer_of test keys) same in
    omega (arith, all, here)

-- the bytes of the names of keys are those of the names of addresses
pub named_counted : {K A E : Type 0} (kd last : Keyed K A) (name : A → List ℕ) (m : Map) (s e : ℕ) (keys : List (K × ℕ)) (r : Result Table E)
    → last ≡ kd → CountsAddresses m kd s e keys → SumsNamed name last keys r → CountsNamed name m kd s e r
named_counted kd last name m s e keys (Ok table) same counted sums =
    λ test. sum_counted kd last m s e (named name test) keys (sum_where test table) same counted (sums test)
named_counted kd last name m s e keys (Err fault) same counted sums = tt

-- all bytes of keys are those of addresses
pub all_counted : {K A E : Type 0} (kd last : Keyed K A) (m : Map) (s e : ℕ) (keys : List (K × ℕ)) (r : Result Table E)
    → last ≡ kd → CountsAddresses m kd s e keys → SumsBytes last keys r → CountsBytes m kd s e r
all_counted {K} {A} kd last m s e keys (Ok table) same counted sum =
    sum_counted kd last m s e (λ (f : A). true) keys (sum_of table) same counted sum
all_counted kd last m s e keys (Err fault) same counted sum = tt
