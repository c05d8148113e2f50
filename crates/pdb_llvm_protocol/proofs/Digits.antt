-- The value of digits, which grows with each.
use Rattle.std.proofs.Common.{◌≡◌, ℕ, ◌+◌, ◌*◌, ◌<◌, ◌≤◌, List, [], ◌∷◌, length, drop, get_or, refl, sym, ap, ◌∙◌, arith, drop-cons, add-one}
use Rattle.std.specs.Prelude.{Option, None, Some, option_and_then}
use Rattle.std.proofs.Math.Nat.{mul-le-mul_left}
use Rattle.std.proofs.lemmas.List.{drop_all}
use Rattle.std.proofs.lemmas.Bool.Decides.{nat_tests}
use Rattle.pdb_llvm_protocol.specs.Number.{below, digit_of, value_from}

below_past : (bound value : ℕ) → bound ≤ value → below bound value ≡ None
below_past bound value past = grind (arith, nat_tests)

past_of : (bound value : ℕ) → below bound value ≡ None → bound ≤ value
past_of bound value none = grind (arith, nat_tests)

-- a digit more makes no less of a value
grown : (radix value d bound : ℕ) → 0 < radix → bound ≤ value → bound ≤ value * radix + d
grown radix value d bound some past = omega (arith, mul-le-mul_left value some)

-- digits after a value that is past a bound have a value past it
digits_past : (radix value bound : ℕ) (bs : List ℕ) → 0 < radix → bound ≤ value
    → option_and_then (below bound) (value_from radix value bs) ≡ None
digits_past radix value bound [] some past = below_past bound value past
digits_past radix value bound (b ∷ bs) some past =
    elim (option_and_then (below radix) (digit_of b)) as (λ v. option_and_then (below bound) (option_and_then (λ d. value_from radix (value * radix + d) bs) v) ≡ None) [
      | None ↦ refl
      | Some d ↦ digits_past radix (value * radix + d) bound bs some (grown radix value d bound some past)
    ]

cut : (digits : List ℕ) (i : ℕ) → i < length digits → drop i digits ≡ get_or digits i 0 ∷ drop (i + 1) digits
cut digits i within = rw (add-one, drop-cons digits i 0)

-- so it is where a digit brings the value past the bound
pub past_at : (radix value bound i d : ℕ) (digits : List ℕ) (whole : Option ℕ) → 0 < radix → i < length digits
    → option_and_then (below bound) (value_from radix value (drop i digits)) ≡ whole
    → option_and_then (below radix) (digit_of (get_or digits i 0)) ≡ Some d
    → below bound (value * radix + d) ≡ None → whole ≡ None
past_at radix value bound i d digits whole some within is digit past =
    sym is
    ∙ ap (λ l. option_and_then (below bound) (value_from radix value l)) (cut digits i within)
    ∙ ap (λ v. option_and_then (below bound) (option_and_then (λ d. value_from radix (value * radix + d) (drop (i + 1) digits)) v)) digit
    ∙ digits_past radix (value * radix + d) bound (drop (i + 1) digits) some (past_of bound (value * radix + d) past)

below_within : (bound value : ℕ) → value < bound → below bound value ≡ Some value
below_within bound value within = grind (arith, nat_tests)

-- the value of all digits, where it is below the bound
pub value_at : (radix value bound i : ℕ) (digits : List ℕ) (whole : Option ℕ) → length digits ≤ i → value < bound
    → option_and_then (below bound) (value_from radix value (drop i digits)) ≡ whole → whole ≡ Some value
value_at radix value bound i digits whole past within is =
    sym is
    ∙ ap (λ l. option_and_then (below bound) (value_from radix value l)) (drop_all i digits past)
    ∙ below_within bound value within
