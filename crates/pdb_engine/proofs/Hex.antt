-- Eight hexadecimal digits fit 32 bits, and are an address.
use Rattle.std.proofs.Common.{◌≡◌, ℕ, ◌+◌, ◌*◌, ◌<◌, ◌≤◌, ◌^◌, ◌&&◌, Bool, true, false, cond, List, [], ◌∷◌, add-one, ap, sym, refl, ◌∙◌, arith, lit<, length, drop, get_or}
use Rattle.std.specs.Prelude.{Some, None, nat_le}
use Rattle.std.specs.Char.{digit_value, is_digit}
use Rattle.std.specs.List.{list_all}
use Rattle.std.specs.Str.Parse.{digits_value, digits_value_after}
use Rattle.std.proofs.Math.Seq.{drop-cons}
use Rattle.std.proofs.lemmas.List.{drop_all}
use Rattle.std.proofs.lemmas.Bool.Decides.{nat_tests}
use Rattle.pdb_engine.specs.Address.{address_of, value_of, without_return, without_prefix}
use Rattle.std.proofs.Math.Nat.{pow-le-pow_right}

-- before the eighth digit there is room for one more
pub room : (i v : ℕ) → i < 8 → v < 16 ^ i → v < 268435456
room i v h s = omega (arith, pow-le-pow_right {n = 16} (lit< tt) {i = i} {j = 7} (omega arith))

abbrev are_hex : List ℕ → Bool
are_hex digits = list_all (λ b. is_digit b 16) digits

of_digits : (line part digits : List ℕ) → part ≡ without_return line → digits ≡ without_prefix part → value_of digits ≡ address_of line
of_digits line part digits e d = ap value_of (d ∙ ap without_prefix e)

pub and_false : (b : Bool) → (b && false) ≡ false
and_false true = refl
and_false false = refl

next : (digits : List ℕ) (i : ℕ) → i < length digits → drop i digits ≡ get_or digits i 0 ∷ drop (i + 1) digits
next digits i h = rw add-one (drop-cons digits i 0 h)

-- one digit more
pub value_more : (digits : List ℕ) (i v b d whole : ℕ) → i < length digits → b ≡ get_or digits i 0 → d ≡ digit_value b
    → digits_value_after 16 v (drop i digits) ≡ whole → digits_value_after 16 (v * 16 + d) (drop (i + 1) digits) ≡ whole
value_more digits i v b d whole h is worth value =
    ap (λ n. digits_value_after 16 (v * 16 + n) (drop (i + 1) digits)) (worth ∙ ap digit_value is) ∙ sym (ap (digits_value_after 16 v) (next digits i h)) ∙ value

pub digits_more : (digits : List ℕ) (i b : ℕ) (whole : Bool) → i < length digits → b ≡ get_or digits i 0 → digit_value b < 16
    → are_hex (drop i digits) ≡ whole → are_hex (drop (i + 1) digits) ≡ whole
digits_more digits i b whole h is below same =
    let one : is_digit b 16 ≡ true = grind (arith, nat_tests) in
    ap (λ t. t && are_hex (drop (i + 1) digits)) (sym one ∙ ap (λ c. is_digit c 16) is) ∙ sym (ap are_hex (next digits i h)) ∙ same

pub small_more : (i v d : ℕ) → v < 16 ^ i → d < 16 → v * 16 + d < 16 ^ (i + 1)
small_more i v d small below = rw add-one (omega arith)

-- one byte that is no digit, where those before it are digits
no_digit : (digits : List ℕ) (i b : ℕ) → i < length digits → b ≡ get_or digits i 0 → (digit_value b < 16 → ⊥) → are_hex (drop i digits) ≡ false
no_digit digits i b h is other =
    let past : is_digit b 16 ≡ false = grind (arith, nat_tests) in
    ap are_hex (next digits i h) ∙ ap (λ t. t && are_hex (drop (i + 1) digits)) (ap (λ c. is_digit c 16) (sym is) ∙ past)

-- they are no address then
pub no_address : (line part digits : List ℕ) (i b : ℕ) → part ≡ without_return line → digits ≡ without_prefix part → are_hex (drop i digits) ≡ are_hex digits
    → i < length digits → b ≡ get_or digits i 0 → (digit_value b < 16 → ⊥) → None ≡ address_of line
no_address line part digits i b e d same h is other =
    let none : are_hex digits ≡ false = sym same ∙ no_digit digits i b h is other in
    let test : ((nat_le 1 (length digits) && nat_le (length digits) 8) && are_hex digits) ≡ false =
    ap (λ t. (nat_le 1 (length digits) && nat_le (length digits) 8) && t) none ∙ and_false (nat_le 1 (length digits) && nat_le (length digits) 8) in
    sym (ap (λ t. cond t (Some (digits_value 16 digits)) None) test) ∙ of_digits line part digits e d

-- after the last of one to eight digits their value is the address
pub the_address : (line part digits : List ℕ) (i v : ℕ) → part ≡ without_return line → digits ≡ without_prefix part → are_hex (drop i digits) ≡ are_hex digits
    → digits_value_after 16 v (drop i digits) ≡ digits_value 16 digits → length digits ≤ i → 0 < length digits → length digits ≤ 8 → Some v ≡ address_of line
the_address line part digits i v e d same value end some few =
    let over : drop i digits ≡ [] = drop_all i digits end in
    let all : are_hex digits ≡ true = sym same ∙ ap are_hex over in
    let is : v ≡ digits_value 16 digits = sym (ap (digits_value_after 16 v) over) ∙ value in
    let count : (nat_le 1 (length digits) && nat_le (length digits) 8) ≡ true = grind (arith, nat_tests) in
    let test : ((nat_le 1 (length digits) && nat_le (length digits) 8) && are_hex digits) ≡ true =
    ap (λ t. t && are_hex digits) count ∙ all in
    ap (λ n. Some n) is ∙ sym (ap (λ t. cond t (Some (digits_value 16 digits)) None) test) ∙ of_digits line part digits e d
