-- The first twelve bytes of a line decide its address.
use Rattle.std.specs.Prelude.{◌≡◌, ℕ, zero, suc, ◌+◌, ◌-◌, ◌≤◌, nat_le, Bool, true, false, cond, List, length, take, drop, None, ◌⊎◌}
use Rattle.std.proofs.Common.{ap, inl, inr, sym, ◌∙◌, arith, length-drop, Some, ◌&&◌}
use Rattle.std.specs.Char.{is_digit}
use Rattle.std.specs.List.{list_all}
use Rattle.std.specs.Str.Parse.{digits_value}
use Rattle.std.proofs.lemmas.List.{take_all, length-take}
use Rattle.std.proofs.lemmas.Bool.Decides.{nat_tests}
use Rattle.pdb_engine.specs.Address.{address_of, value_of, without_return, without_prefix}
use Rattle.pdb_engine.proofs.Hex.{and_false}

cond_long : (b : Bool) (xs ys : List ℕ) (n : ℕ) → n ≤ length xs → n ≤ length ys → n ≤ length (cond b xs ys)
cond_long true xs ys n p q = p
cond_long false xs ys n p q = q

-- the carriage return takes at most one byte, the prefix at most two
return_long : (line : List ℕ) (n : ℕ) → n + 1 ≤ length line → n ≤ length (without_return line)
return_long line n h = cond_long _ (take (length line - 1) line) line n (omega (arith, length-take (length line - 1) line)) (omega arith)

prefix_long : (line : List ℕ) (n : ℕ) → n + 2 ≤ length line → n ≤ length (without_prefix line)
prefix_long line n h = cond_long _ (drop 2 line) line n (omega (arith, length-drop 2 line)) (omega arith)

value_long : (digits : List ℕ) → 9 ≤ length digits → value_of digits ≡ None
value_long digits h =
    let past : nat_le (length digits) 8 ≡ false = grind (arith, nat_tests) in
    let test : (nat_le 1 (length digits) && nat_le (length digits) 8) ≡ false =
    ap (λ b. nat_le 1 (length digits) && b) past ∙ and_false (nat_le 1 (length digits)) in
    ap (λ b. cond (b && list_all (λ b. is_digit b 16) digits) (Some (digits_value 16 digits)) None) test

-- a line of twelve bytes or more has no address
pub address_long : (line : List ℕ) → 12 ≤ length line → address_of line ≡ None
address_long line h = value_long (without_prefix (without_return line)) (prefix_long (without_return line) 9 (return_long line 11 (omega arith)))

short_if : (line : List ℕ) → ((12 ≤ length line) ⊎ (length line ≤ 12)) → address_of (take 12 line) ≡ address_of line
short_if line (inl h) = address_long (take 12 line) (omega (arith, length-take 12 line)) ∙ sym (address_long line h)
short_if line (inr h) = ap address_of (take_all 12 line h)

either : (m n : ℕ) → (m ≤ n) ⊎ (n ≤ m)
either zero n = inl (omega arith)
either (suc m) zero = inr (omega arith)
either (suc m) (suc n) = elim (either m n) [ inl h ↦ inl (omega arith) | inr h ↦ inr (omega arith) ]

-- the first twelve bytes of a line decide its address
pub address-short : (line : List ℕ) → address_of (take 12 line) ≡ address_of line
address-short line = short_if line (either 12 (length line))
