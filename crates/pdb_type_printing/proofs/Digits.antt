-- The value of digits is at least the value before them.
use Rattle.std.proofs.Common.{◌≡◌, ℕ, suc, ◌+◌, ◌*◌, ◌^◌, ◌<◌, ◌≤◌, Bool, true, false, List, []}
use Rattle.std.proofs.Common.{◌∷◌, length, drop, get_or, refl, sym, ap, ◌∙◌, arith}
use Rattle.std.specs.Prelude.{not, ◌&&◌, ◌==◌}
use Rattle.std.specs.Char.{digit_value, is_digit}
use Rattle.std.specs.List.{list_all}
use Rattle.std.specs.Str.Parse.{digits_value, digits_value_after}
use Rattle.std.proofs.Math.Seq.{drop-cons}
use Rattle.std.proofs.lemmas.Bool.{le-ltb}
use Rattle.pdb_type_printing.specs.Names.{is_number}

-- a value only grows by further digits
grows : (value : ℕ) (bytes : List ℕ) → value ≤ digits_value_after 16 value bytes
grows value [] = omega arith
grows value (b ∷ bytes) = omega (arith, grows (value * 16 + digit_value b) bytes)

and_false : (a b : Bool) → false ≡ (a && b && false)
and_false true true = refl
and_false true false = refl
and_false false b = refl

-- digits up to one that makes the value too large are no number
pub past_bits : (value : ℕ) (digits : List ℕ) (k d : ℕ) → k < length digits
    → d ≡ digit_value (get_or digits k 0) → 2 ^ 32 ≤ value * 16 + d
    → digits_value_after 16 value (drop k digits) ≡ digits_value 16 digits
    → false ≡ is_number digits
past_bits value digits k d lt digit large so_far =
    let step : digits_value 16 digits
    ≡ digits_value_after 16 (value * 16 + digit_value (get_or digits k 0)) (drop (suc k) digits) =
    sym so_far ∙ ap (λ (xs : List ℕ). digits_value_after 16 value xs) (drop-cons digits k 0 lt) in
    let over : 2 ^ 32 ≤ digits_value 16 digits =
    omega (
      arith,
      step,
      large,
      digit,
      grows (value * 16 + digit_value (get_or digits k 0)) (drop (suc k) digits),
    ) in
    rw (le-ltb _ _ over)
    (and_false (not (length digits == 0)) (list_all (λ b. is_digit b 16) digits))
