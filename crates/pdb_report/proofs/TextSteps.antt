-- Texts that follow one another.
use Rattle.std.proofs.Common.{◌≡◌, ℕ, List, [], ◌∷◌, ◌++◌, ap, ◌∙◌, append_assoc}

-- a line after a text, and more after that
pub address_more : (old front more : List ℕ)
    → old ++ (front ++ 10 ∷ []) ++ more ≡ old ++ (front ++ 10 ∷ more)
address_more old front more =
    append_assoc old (front ++ 10 ∷ []) more
    ∙ ap (λ l. old ++ l) (append_assoc front (10 ∷ []) more)

-- a text after a text, and more after that
pub after : (front first between rest text : List ℕ) → between ≡ front ++ first
    → text ≡ between ++ rest → text ≡ front ++ (first ++ rest)
after front first between rest text one more =
    more ∙ ap (λ l. l ++ rest) one ∙ append_assoc front first rest
