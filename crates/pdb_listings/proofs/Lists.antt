-- Blanks, one after another.
use Rattle.std.proofs.Common.{◌≡◌, ℕ, zero, suc, ◌+◌, List, ◌++◌, sym, ap, ◌∙◌, append_assoc, append-nil, add-one, codes}
use Rattle.std.specs.List.{repeat}

-- a text before as many copies of it as after them
repeat_after : (xs : List ℕ) (n : ℕ) → repeat n xs ++ xs ≡ xs ++ repeat n xs
repeat_after xs zero = sym (append-nil xs)
repeat_after xs (suc n) = append_assoc xs (repeat n xs) xs ∙ ap (λ l. xs ++ l) (repeat_after xs n)

-- one blank more
pub blank_more : (n : ℕ) (front text : List ℕ) → text ≡ front ++ repeat n (codes " ")
    → text ++ codes " " ≡ front ++ repeat (n + 1) (codes " ")
blank_more n front text so_far =
    let more : repeat (n + 1) (codes " ") ≡ codes " " ++ repeat n (codes " ") =
    ap (λ k. repeat k (codes " ")) (add-one n) in
    ap (λ l. l ++ codes " ") so_far ∙ append_assoc front (repeat n (codes " ")) (codes " ")
    ∙ ap (λ l. front ++ l) (repeat_after (codes " ") n ∙ sym more)
