-- The name of the file that a path leads to.
use Rattle.std.proofs.Common.{◌≡◌, ℕ, ◌<◌, List, [], ◌∷◌, ◌++◌, Bool, true, false, cond, eqb, ◌||◌, suc}
use Rattle.std.proofs.Common.{refl, sym, ◌∙◌, ap, arith, length, get_or, take, drop}
use Rattle.std.specs.Str.{NoCharPasses}
use Rattle.std.specs.Str.Pattern.{HasCharAt}
use Rattle.std.proofs.lemmas.Str.Pattern.{NoCharPasses-char, drop_at_char}
use Rattle.std.proofs.Math.Bool.{or-true}
use Rattle.std.proofs.lemmas.Bool.{eq-eqb, ne_eqb}
use Rattle.std.proofs.lemmas.List.{take-append-drop}
use Rattle.std.specs.List.{list_any}
use Rattle.pdb_symbol_files.specs.Heads.{after_last, file_name}

none_by : (a b : Bool) → (a || b) ≡ false → (a ≡ false) × (b ≡ false)
none_by true b e = let bad : ⊥ = cc in absurd bad
none_by false b e = (refl, e)

-- a text without the byte
last_whole : (byte : ℕ) (bytes : List ℕ) → list_any (λ c. eqb c byte) bytes ≡ false
    → after_last byte bytes ≡ bytes
last_whole byte [] e = refl
last_whole byte (b ∷ bytes) e =
    let parts = none_by (eqb b byte) (list_any (λ c. eqb c byte) bytes) e in
    ap (λ (t : Bool). cond t (after_last byte bytes) (cond (eqb b byte) bytes (b ∷ bytes))) parts.1
    ∙ ap (λ (t : Bool). cond t bytes (b ∷ bytes)) parts.0

none_here : (byte : ℕ) (bytes : List ℕ)
    → ((i : ℕ) → i < length bytes → get_or bytes i 0 ≡ byte → ⊥)
    → list_any (λ c. eqb c byte) bytes ≡ false
none_here byte [] h = refl
none_here byte (b ∷ bytes) h =
    ap (λ (t : Bool). t || list_any (λ c. eqb c byte) bytes)
    (ne_eqb b byte (h 0 (omega arith)))
    ∙ none_here byte bytes (λ i lt. h (suc i) (omega arith))

some_there : (byte : ℕ) (before after : List ℕ)
    → list_any (λ c. eqb c byte) (before ++ byte ∷ after) ≡ true
some_there byte [] after =
    ap (λ (t : Bool). t || list_any (λ c. eqb c byte) after) (eq-eqb byte byte refl)
some_there byte (b ∷ before) after =
    ap (λ (t : Bool). eqb b byte || t) (some_there byte before after) ∙ or-true (eqb b byte)

last_after : (byte : ℕ) (before after : List ℕ) → list_any (λ c. eqb c byte) after ≡ false
    → after_last byte (before ++ byte ∷ after) ≡ after
last_after byte [] after e =
    ap (λ (t : Bool). cond t (after_last byte after) (cond (eqb byte byte) after (byte ∷ after))) e
    ∙ ap (λ (t : Bool). cond t after (byte ∷ after)) (eq-eqb byte byte refl)
last_after byte (b ∷ before) after e =
    let rest = before ++ byte ∷ after in
    ap (λ (t : Bool). cond t (after_last byte rest) (cond (eqb b byte) rest (b ∷ rest)))
    (some_there byte before after)
    ∙ last_after byte before after e

none_in : (bytes : List ℕ) → NoCharPasses (λ d. eqb d 47) bytes
    → list_any (λ c. eqb c 47) bytes ≡ false
none_in bytes none = none_here 47 bytes (λ i lt. NoCharPasses-char 47 bytes i none (omega arith) lt)

-- what stands after the last slash
pub name_after : (path name : List ℕ) (i j : ℕ) → NoCharPasses (λ d. eqb d 47) (drop j path)
    → HasCharAt 47 path i j → name ≡ drop j path → name ≡ file_name path
unfolding file_name
name_after path name i j none at is =
    let cut : path ≡ take i path ++ 47 ∷ drop j path =
    sym (take-append-drop i path)
    ∙ ap (λ (xs : List ℕ). take i path ++ xs) (drop_at_char 47 path i j at (omega arith)) in
    is ∙ sym (ap (after_last 47) cut ∙ last_after 47 (take i path) (drop j path) (none_in (drop j path) none))

-- a path without a slash
pub name_whole : (path : List ℕ) → NoCharPasses (λ d. eqb d 47) path → path ≡ file_name path
unfolding file_name
name_whole path none = sym (last_whole 47 path (none_in path none))
