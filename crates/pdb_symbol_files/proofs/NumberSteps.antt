-- Numbers of texts, by what stores these.
use Rattle.std.proofs.Common.{◌≡◌, ℕ, ◌+◌, List, [], ◌∷◌, ◌++◌, Bool, true, false, cond, length, map, drop, ◌≤◌}
use Rattle.std.proofs.Common.{refl, sym, ◌∙◌, ap, arith, not, ltb, zero, suc}
use Rattle.std.specs.Prelude.{None, Some, ◌||◌, slice_get}
use Rattle.std.specs.List.{list_any, position, position_or_len}
use Rattle.std.specs.Str.{bytes_eq}
use Rattle.std.proofs.lemmas.List.{append-nil, append_assoc, drop_all, map-append}
use Rattle.pdb_symbol_files.specs.RecordTexts.{numbered_text, numbered_texts}
use Rattle.pdb_symbol_files.specs.Records.{number_of, used}

any_mapped : {A : Type 0} (f : A → List ℕ) (t : List ℕ) (keys : List A)
    → list_any (λ k. bytes_eq t (f k)) keys ≡ list_any (bytes_eq t) (map f keys)
any_mapped f t [] = refl
any_mapped f t (k ∷ keys) = ap (λ (b : Bool). bytes_eq t (f k) || b) (any_mapped f t keys)

place_mapped : {A : Type 0} (f : A → List ℕ) (t : List ℕ) (keys : List A)
    → position_or_len (λ k. bytes_eq t (f k)) keys ≡ position_or_len (bytes_eq t) (map f keys)
place_mapped f t [] = refl
place_mapped f t (k ∷ keys) =
    ap (λ (n : ℕ). cond (not (bytes_eq t (f k))) (1 + n) 0) (place_mapped f t keys)

some_position : (b : Bool) (n m : ℕ) → Some n ≡ cond b (Some m) None → n ≡ m
some_position true n m e = cc
some_position false n m e = cc

pub found_number : {A : Type 0} (f : A → List ℕ) (t : List ℕ) (keys : List A) (n : ℕ)
    → Some n ≡ position (λ k. bytes_eq t (f k)) keys → n ≡ number_of (map f keys) t
found_number {A} f t keys n e =
    let test : A → Bool = λ (k : A). bytes_eq t (f k) in
    some_position (ltb (position_or_len test keys) (length keys)) n (position_or_len test keys) e
    ∙ place_mapped f t keys

pub found_used : {A : Type 0} (f : A → List ℕ) (t : List ℕ) (keys : List A)
    → true ≡ list_any (λ k. bytes_eq t (f k)) keys → map f keys ≡ used (map f keys) t
found_used f t keys e =
    ap (λ (b : Bool). cond b (map f keys) (map f keys ++ t ∷ [])) (e ∙ any_mapped f t keys)

added : {A : Type 0} (f : A → List ℕ) (keys : List A) (v : A) (b : Bool)
    → map f (cond b keys (keys ++ v ∷ [])) ≡ cond b (map f keys) (map f keys ++ f v ∷ [])
added f keys v true = refl
added f keys v false = map-append f keys (v ∷ [])

pub added_used : {A : Type 0} (f : A → List ℕ) (t : List ℕ) (v : A) (keys more : List A)
    → f v ≡ t
    → more ≡ cond (list_any (λ k. bytes_eq (f v) (f k)) keys) keys (keys ++ v ∷ [])
    → map f more ≡ used (map f keys) t
added_used {A} f t v keys more is e =
    ap (map f) e
    ∙ added f keys v (list_any (λ (k : A). bytes_eq (f v) (f k)) keys)
    ∙ ap (λ (b : Bool). cond b (map f keys) (map f keys ++ f v ∷ [])) (any_mapped f (f v) keys)
    ∙ ap (λ (x : List ℕ). used (map f keys) x) is

pub added_number : {A : Type 0} (f : A → List ℕ) (t : List ℕ) (v : A) (keys : List A) (n : ℕ)
    → f v ≡ t → n ≡ position_or_len (λ k. bytes_eq (f v) (f k)) keys
    → n ≡ number_of (map f keys) t
added_number f t v keys n is e =
    e ∙ place_mapped f (f v) keys ∙ ap (λ (x : List ℕ). number_of (map f keys) x) is

-- ---- records of texts, one after the other

got_drop : {A : Type 0} (f : A → List ℕ) (keys : List A) (i : ℕ) (k : A)
    → Some k ≡ slice_get keys i → drop i (map f keys) ≡ f k ∷ drop (suc i) (map f keys)
got_drop f [] i k e = cc
got_drop f (x ∷ keys) zero k e =
    let same : x ≡ k = cc in
    ap (λ y. f y ∷ map f keys) same
got_drop f (x ∷ keys) (suc i) k e = got_drop f keys i k e

one_on : (i : ℕ) → suc i ≡ i + 1
one_on i = omega arith

pub record_more : {A : Type 0} (f : A → List ℕ) (keys : List A) (word : List ℕ) (i : ℕ) (k : A)
    (texts : List (List ℕ)) (out more all : List ℕ) → map f keys ≡ texts
    → Some k ≡ slice_get keys i
    → more ≡ out ++ numbered_text word i (f k)
    → out ++ numbered_texts word i (drop i texts) ≡ all
    → more ++ numbered_texts word (i + 1) (drop (i + 1) texts) ≡ all
record_more f keys word i k texts out more all is got m so_far =
    let line = numbered_text word i (f k) in
    let rest = numbered_texts word (i + 1) (drop (i + 1) texts) in
    let here : drop i texts ≡ f k ∷ drop (i + 1) texts
    = sym (ap (drop i) is) ∙ got_drop f keys i k got
    ∙ ap (λ (xs : List (List ℕ)). f k ∷ drop (suc i) xs) is
    ∙ ap (λ (n : ℕ). f k ∷ drop n texts) (one_on i) in
    ap (λ (xs : List ℕ). xs ++ rest) m
    ∙ append_assoc out line rest
    ∙ sym (ap (λ (xs : List (List ℕ)). out ++ numbered_texts word i xs) here)
    ∙ so_far

pub record_end : (word : List ℕ) (i : ℕ) (texts : List (List ℕ)) (out all : List ℕ)
    → length texts ≤ i → out ++ numbered_texts word i (drop i texts) ≡ all → out ≡ all
record_end word i texts out all past so_far =
    sym (append-nil out)
    ∙ sym (ap (λ (xs : List (List ℕ)). out ++ numbered_texts word i xs) (drop_all i texts past))
    ∙ so_far

none_past : {A : Type 0} (keys : List A) (i : ℕ) → None ≡ slice_get keys i → length keys ≤ i
none_past [] i e = omega arith
none_past (k ∷ keys) zero e = let bad : ⊥ = cc in absurd bad
none_past (k ∷ keys) (suc i) e =
    let more : length keys ≤ i = none_past keys i e in omega arith

length_mapped : {A : Type 0} (f : A → List ℕ) (keys : List A) → length (map f keys) ≡ length keys
length_mapped f [] = refl
length_mapped f (k ∷ keys) = ap suc (length_mapped f keys)

pub record_none : {A : Type 0} (f : A → List ℕ) (keys : List A) (word : List ℕ) (i : ℕ)
    (texts : List (List ℕ)) (out all : List ℕ) → map f keys ≡ texts → None ≡ slice_get keys i
    → out ++ numbered_texts word i (drop i texts) ≡ all → out ≡ all
record_none f keys word i texts out all is none so_far =
    let past : length keys ≤ i = none_past keys i none in
    let same : length (map f keys) ≡ length texts = ap length is in
    let as_many : length (map f keys) ≡ length keys = length_mapped f keys in
    record_end word i texts out all (omega arith) so_far
