-- What a start of a line stores of one more byte, where its bytes are those of a buffer.
use Rattle.std.proofs.Common.{◌≡◌, ℕ, ◌<◌, ◌≤◌, List, [], ◌∷◌, ◌++◌, ◌∙◌, ap, sym, length, take, arith, length-append}
use Rattle.std.proofs.lemmas.List.{take_all, take-append-le}

-- the byte, where there is room for it
pub one_more : (room byte : ℕ) (bytes buffer buffer' : List ℕ) → buffer ≡ bytes → length buffer < room → buffer' ≡ buffer ++ byte ∷ []
    → buffer' ≡ take room (bytes ++ byte ∷ [])
one_more room byte bytes buffer buffer' same within more =
    more ∙ sym (take_all room (buffer ++ byte ∷ []) (omega (arith, length-append buffer (byte ∷ [])))) ∙ ap (λ l. take room (l ++ byte ∷ [])) same

-- no more, where there is none
pub no_more : (room byte : ℕ) (bytes buffer : List ℕ) → buffer ≡ bytes → length buffer ≤ room → room ≤ length buffer
    → bytes ≡ take room (bytes ++ byte ∷ [])
no_more room byte bytes buffer same within past =
    sym same ∙ sym (take-append-le room buffer (byte ∷ []) past ∙ take_all room buffer within) ∙ ap (λ l. take room (l ++ byte ∷ [])) same
