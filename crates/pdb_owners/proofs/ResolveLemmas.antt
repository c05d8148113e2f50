-- A table of keys becomes a table of the answers that they stand for, key by key.
use Rattle.std.proofs.Common.{◌≡◌, ℕ, Bool, ◌+◌, ◌≤◌, List, ◌∷◌, subst, arith}
use Rattle.std.specs.Prelude.{Option, is_some}
use Rattle.std.specs.List.{All}
use Rattle.std.specs.Map.{values_of}
use Rattle.std.proofs.lemmas.List.Elements.{All-tail}
use Rattle.std.proofs.lemmas.List.Sums.{sum_by-cons}
use Rattle.pdb_owners.specs.Databases.{Keyed}
use Rattle.pdb_owners.specs.Table.{IsAdded, IsResolved, sum_of, sum_where, sum_found}
use Rattle.pdb_owners.proofs.CountLemmas.{counts_most}

module _ {K A : Type 0} (found : K → Option A) (keys : List (K × ℕ)) where
  -- what came to the counts and what is left of the keys are the whole
  pub record IsResolving (left : List (K × ℕ)) (counts : List (A × ℕ)) : Type 0 where
    pub each : (test : A → Bool) → sum_where test counts + sum_found found test left ≡ sum_found found test keys
    pub room : sum_of counts + sum_of left ≤ sum_of keys
    pub some : All (λ n. 1 ≤ n) (values_of left)

  pub resolving_more : (left due : List (K × ℕ)) (k : K) (n : ℕ) (answer : Option A) (counts new : List (A × ℕ))
      → due ≡ (k, n) ∷ left → IsResolving due counts → answer ≡ found k → IsAdded counts answer n new → IsResolving left new
  resolving_more left due k n answer counts new is h at added =
      let g : IsResolving ((k, n) ∷ left) counts = subst (λ (l : List (K × ℕ)). IsResolving l counts) is h in
      let come : IsAdded counts (found k) n new = subst (λ (o : Option A). IsAdded counts o n new) at added in
      record {
        each = λ test. let e = g.each test in let a = come.each test in omega (arith, e, a);
        room =
            let e = g.room in
            let a = come.all in
            let m = counts_most (is_some (found k)) n in
            let s = sum_by-cons (λ (x : ℕ). x) n (values_of left) in
            omega (arith, e, a, m, s);
        some = All-tail (λ x. 1 ≤ x) n (values_of left) g.some;
      }

-- the same by what answers as before
pub resolved_same : {K A : Type 0} (kd now : Keyed K A) (keys : List (K × ℕ)) (counts : List (A × ℕ)) → now ≡ kd → IsResolved now.answer_of keys counts → IsResolved kd.answer_of keys counts
resolved_same {K} {A} kd now keys counts same h = subst (λ (k : Keyed K A). IsResolved k.answer_of keys counts) same h

pub answer_as : {K A : Type 0} (kd now : Keyed K A) (key : K) (answer : Option A) → now ≡ kd → answer ≡ now.answer_of key → answer ≡ kd.answer_of key
answer_as {K} {A} kd now key answer same h = subst (λ (k : Keyed K A). answer ≡ k.answer_of key) same h
