-- Texts and lists that grow by one element of a list at a time.
use Rattle.std.proofs.Common.{◌≡◌, ℕ, zero, suc, ◌+◌, ◌<◌, ◌≤◌, List, [], ◌∷◌, ◌++◌, length, get_or, take, map, sym, ap, ◌∙◌, append_assoc, append-nil, add-one, codes}
use Rattle.std.specs.List.{flat_map, repeat}
use Rattle.std.proofs.lemmas.List.{map-append, take_more, take_all}
use Rattle.std.proofs.lemmas.List.Concat.{flat_map-append}
use Rattle.pdb_llvm_protocol.specs.Json.{indent}

module _ {X : Type 0} (f : X → List ℕ) where
  -- one element's text more
  pub text_more : (xs : List X) (i : ℕ) (d : X) (front text : List ℕ) → i < length xs
      → text ≡ front ++ flat_map f (take i xs)
      → text ++ f (get_or xs i d) ≡ front ++ flat_map f (take (i + 1) xs)
  text_more xs i d front text lt so_far =
      let one : flat_map f (take (i + 1) xs) ≡ flat_map f (take i xs) ++ f (get_or xs i d) =
      ap (flat_map f) (take_more xs i d lt) ∙ flat_map-append f (take i xs) (get_or xs i d ∷ [])
      ∙ ap (λ l. flat_map f (take i xs) ++ l) (append-nil (f (get_or xs i d))) in
      ap (λ l. l ++ f (get_or xs i d)) so_far
      ∙ append_assoc front (flat_map f (take i xs)) (f (get_or xs i d))
      ∙ ap (λ l. front ++ l) (sym one)

  -- all elements' texts
  pub text_all : (xs : List X) (i : ℕ) (front text : List ℕ) → length xs ≤ i
      → text ≡ front ++ flat_map f (take i xs) → text ≡ front ++ flat_map f xs
  text_all xs i front text past so_far =
      so_far ∙ ap (λ (ys : List X). front ++ flat_map f ys) (take_all i xs past)

-- two blanks before as many as after them
repeat_back : (xs : List ℕ) (n : ℕ) → repeat n xs ++ xs ≡ xs ++ repeat n xs
repeat_back xs zero = sym (append-nil xs)
repeat_back xs (suc n) = append_assoc xs (repeat n xs) xs ∙ ap (λ l. xs ++ l) (repeat_back xs n)

-- one indent more
pub indent_more : (n : ℕ) (front text : List ℕ) → text ≡ front ++ indent n
    → text ++ codes "  " ≡ front ++ indent (n + 1)
indent_more n front text so_far =
    let more : indent (n + 1) ≡ codes "  " ++ indent n =
    ap indent (add-one n) in
    ap (λ l. l ++ codes "  ") so_far ∙ append_assoc front (indent n) (codes "  ")
    ∙ ap (λ l. front ++ l) (repeat_back (codes "  ") n ∙ sym more)

module _ {X Y : Type 0} (f : X → Y) where
  -- one element more
  pub map_more : (xs : List X) (i : ℕ) (d : X) (front items : List Y) → i < length xs
      → items ≡ front ++ map f (take i xs)
      → items ++ f (get_or xs i d) ∷ [] ≡ front ++ map f (take (i + 1) xs)
  map_more xs i d front items lt so_far =
      let one : map f (take (i + 1) xs) ≡ map f (take i xs) ++ f (get_or xs i d) ∷ [] =
      ap (map f) (take_more xs i d lt) ∙ map-append f (take i xs) (get_or xs i d ∷ []) in
      ap (λ l. l ++ f (get_or xs i d) ∷ []) so_far
      ∙ append_assoc front (map f (take i xs)) (f (get_or xs i d) ∷ [])
      ∙ ap (λ l. front ++ l) (sym one)

  -- all elements
  pub map_all : (xs : List X) (i : ℕ) (front items : List Y) → length xs ≤ i
      → items ≡ front ++ map f (take i xs) → items ≡ front ++ map f xs
  map_all xs i front items past so_far =
      so_far ∙ ap (λ (ys : List X). front ++ map f ys) (take_all i xs past)

-- a text after a text, and more after that
pub after : (front first between rest text : List ℕ) → between ≡ front ++ first
    → text ≡ between ++ rest → text ≡ front ++ (first ++ rest)
after front first between rest text one more =
    more ∙ ap (λ l. l ++ rest) one ∙ append_assoc front first rest
