-- Streams, one after the other.
use Rattle.std.proofs.Common.{◌≡◌, ℕ, ◌+◌, ◌-◌, ◌<◌, inl, inr, List, [], ◌∷◌, ◌++◌, length, get_or, None, Ok, refl, arith}
use Rattle.std.proofs.lemmas.Bool.{cases_lt}
use Rattle.std.proofs.lemmas.List.{length-append, get_or_append_left, get_or-append_right}
use Rattle.pdb_container.specs.Container.{stream}
use Rattle.recorded_cases.specs.Streams.{AreFirst}

-- no streams are the first of a file
pub first_none : (file : List ℕ) (streams : List (List ℕ)) → streams ≡ [] → AreFirst file 0 streams
unfolding AreFirst
first_none file streams e = rw e ((omega arith), λ n lt. absurd (omega arith))

at_last : (streams : List (List ℕ)) (one : List ℕ) (n k : ℕ) → length streams ≡ n → k ≡ n → get_or (streams ++ one ∷ []) k [] ≡ one
at_last streams one n k len e =
    let none : k - n ≡ 0 = omega arith in
    rw (get_or-append_right streams (one ∷ []) n k [] len (omega arith), none) refl

at_more : (file : List ℕ) (n : ℕ) (streams : List (List ℕ)) (one : List ℕ) (k : ℕ) → length streams ≡ n → ((i : ℕ) → i < n → stream file i None ≡ Ok (get_or streams i []))
    → stream file n None ≡ Ok one → k < n + 1 → stream file k None ≡ Ok (get_or (streams ++ one ∷ []) k [])
at_more file n streams one k len before e lt =
    elim (cases_lt k n) [
      | inl h ↦ rw (get_or_append_left streams (one ∷ []) [] k (omega arith)) (before k h)
      | inr h ↦ let last : k ≡ n = omega arith in rw (at_last streams one n k len last, last) e
    ]

-- one stream more is still the first streams of the file
pub first_more : (file : List ℕ) (n : ℕ) (streams : List (List ℕ)) (one : List ℕ) → AreFirst file n streams → stream file n None ≡ Ok one → AreFirst file (n + 1) (streams ++ one ∷ [])
unfolding AreFirst
first_more file n streams one h e = (omega (arith, h.0, length-append streams (one ∷ [])), λ k lt. at_more file n streams one k h.0 h.1 e lt)
