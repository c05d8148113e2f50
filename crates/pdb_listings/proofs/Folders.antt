-- The folder of a path.
use Rattle.std.proofs.Common.{◌≡◌, ℕ, zero, suc, ◌+◌, ◌<◌, List, [], ◌∷◌, length, get_or, take, drop, Bool, true, false, refl, ap, ◌∙◌, arith, subst}
use Rattle.std.specs.Prelude.{◌||◌, if◌then◌else◌, slice_index}
use Rattle.std.specs.List.{list_any}
use Rattle.std.proofs.lemmas.List.{drop_more}
use Rattle.pdb_listings.specs.Sizes.{IsLastSeparator, folder, is_separator}

-- a list has an element that passes where one at a place does
some_there : (p : ℕ → Bool) (xs : List ℕ) (i : ℕ) → i < length xs → p (slice_index xs i) ≡ true → list_any p xs ≡ true
some_there p [] i lt is = absurd (omega arith)
some_there p (x ∷ xs) zero lt is = ap (λ b. b || list_any p xs) is
some_there p (x ∷ xs) (suc i) lt is =
    let later : list_any p xs ≡ true = some_there p xs i (omega arith) is in
    last (p x) (list_any p xs) later
  where
    last : (a b : Bool) → b ≡ true → (a || b) ≡ true
    last true b e = refl
    last false b e = e

-- a path before its last separator
pub folder_at : (path : List ℕ) (place : ℕ) → IsLastSeparator path place → folder path ≡ take place path
folder_at [] place is = absurd (omega (arith, is.within))
folder_at (b ∷ bs) zero is = ap (λ (t : Bool). if t then b ∷ folder bs else []) is.none_after
folder_at (b ∷ bs) (suc i) is =
    let lt : i < length bs = omega (arith, is.within) in
    let after : list_any is_separator (drop (suc (i + 1)) (b ∷ bs)) ≡ false =
    subst (λ (n : ℕ). list_any is_separator (drop n (b ∷ bs)) ≡ false) {x = suc i + 1} {y = suc (i + 1)} (omega arith) is.none_after in
    ap (λ (t : Bool). if t then b ∷ folder bs else []) (some_there is_separator bs i lt is.there)
    ∙ ap (λ l. b ∷ l) (folder_at bs i (record { within = lt; there = is.there; none_after = after }))

-- a path without separators has no folder
pub no_folder : (path : List ℕ) → list_any is_separator path ≡ false → folder path ≡ []
no_folder [] none = refl
no_folder (b ∷ bs) none = ap (λ (t : Bool). if t then b ∷ folder bs else []) (rest (is_separator b) (list_any is_separator bs) none)
  where
    rest : (x y : Bool) → (x || y) ≡ false → y ≡ false
    rest true y e = absurd cc
    rest false y e = e

-- none from a place on, where none stands there or after it
pub none_from : (path : List ℕ) (place : ℕ) (d : ℕ) → place < length path → is_separator (get_or path place d) ≡ false
    → list_any is_separator (drop (place + 1) path) ≡ false → list_any is_separator (drop place path) ≡ false
none_from path place d lt here after =
    ap (list_any is_separator) (drop_more path place d lt)
    ∙ ap (λ b. b || list_any is_separator (drop (place + 1) path)) here ∙ after
