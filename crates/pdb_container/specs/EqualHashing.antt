-- Equal values and their hashes.
use Rattle.std.specs.Prelude.{◌≡◌, ◌↔◌, Bool, true}

-- `==` is true exactly for one and the same value, and equal values hash alike
abbrev pub HashAlike : {T H : Type 0} → (T → T → Bool) → (T → H) → Type 0
HashAlike {T = T} equals hashed =
    (a b : T) → ((equals a b ≡ true) ↔ (a ≡ b)) × (a ≡ b → hashed a ≡ hashed b)
