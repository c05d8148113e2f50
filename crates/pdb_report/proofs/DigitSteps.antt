-- The eight digits of an address, one by one.
use Rattle.std.proofs.Common.{◌≡◌, ℕ, zero, suc, ◌+◌, ◌-◌, ◌*◌, ◌/◌, ◌%◌, ◌^◌, ◌<◌, ◌≤◌, Bool, true, false, ◌&&◌, T, eqb, List, [], ◌∷◌, ◌++◌, length, get_or, replicate, refl, sym, ap, ◌∙◌, inl, inr, arith, eq-zero-or-pos, eqb→eq, append_assoc, append-nil}
use Rattle.std.specs.Prelude.{if◌then◌else◌, ◌==◌}
use Rattle.std.specs.Fmt.{digits, digits_onto, digit_glyph, padded_integral, char_count}
use Rattle.std.proofs.Math.Nat.{pow-suc}
use Rattle.std.proofs.lemmas.List.{replicate_more}
use Rattle.std.proofs.lemmas.Bool.{eq-eqb, ne_eqb}
use lib.Ieee.Fits.{and_l, and_r}
use Rattle.pdb_report.specs.AddressText.{eight_digits}
use Rattle.pdb_report.specs.declared.digits.TheConstants.{DIGITS}

-- the last k digits of a number, with zeros where it has fewer, before others
abbrev pub last_digits : ℕ → ℕ → List ℕ → List ℕ
last_digits zero n more = more
last_digits (suc k) n more = last_digits k (n / 16) (digit_glyph false (n % 16) ∷ more)

-- zeros alone
zeros : (k : ℕ) (more : List ℕ) → last_digits k 0 more ≡ replicate k 48 ++ more
zeros zero more = refl
zeros (suc k) more = zeros k (48 ∷ more) ∙ sym (append_assoc (replicate k 48) (48 ∷ []) more)
    ∙ ap (λ l. l ++ more) (replicate_more k 48)
    ∙ ap (λ (n : ℕ). replicate n 48 ++ more) {x = k + 1} {y = suc k} (omega arith)

module _ (k n : ℕ) (more : List ℕ) where
  abbrev next : List ℕ
  next = digit_glyph false (n % 16) ∷ more

  by_test : (b : Bool) → (n / 16 == 0) ≡ b → digits_onto (suc k) 16 false n more
      ≡ (if b then next else digits_onto k 16 false (n / 16) next)
  by_test b e = ap (λ t. if t then next else digits_onto k 16 false (n / 16) next) e

  -- the digit before which there is none
  last : n / 16 ≡ 0 → digits_onto (suc k) 16 false n more ≡ digit_glyph false (n % 16) ∷ more
  last z = by_test true (eq-eqb _ _ z)

  -- a digit with others before it
  step : 0 < n / 16 → digits_onto (suc k) 16 false n more
      ≡ digits_onto k 16 false (n / 16) (digit_glyph false (n % 16) ∷ more)
  step p = by_test false (ne_eqb _ _ (λ e. omega arith))

positive : (k n : ℕ) → n < 16 ^ suc k → 16 ≤ n → 0 < k
positive zero n small large = absurd (omega arith)
positive (suc k) n small large = omega arith

-- a number's digits, filled up with zeros to k of them
filled : (k i n : ℕ) (more : List ℕ) → 0 < k → k ≤ i → n < 16 ^ k
    → replicate (k + length more - length (digits_onto i 16 false n more)) 48
    ++ digits_onto i 16 false n more ≡ last_digits k n more
filled zero i n more some fits small = absurd (omega arith)
filled (suc k) zero n more some fits small = absurd (omega arith)
filled (suc k) (suc i) n more some fits small =
    elim (eq-zero-or-pos (n / 16)) [
      | inl z ↦
          let count : suc k + length more - suc (length more) ≡ k = omega arith in
          rw (last i n more z, count, z) (sym (zeros k (digit_glyph false (n % 16) ∷ more)))
      | inr p ↦
          let power : 16 ^ suc k ≡ 16 ^ k * 16 = pow-suc 16 k in
          let some : 0 < k = positive k n small (omega arith) in
          let count : suc k + length more ≡ k + suc (length more) = omega arith in
          rw (step i n more p, count)
          (filled k i (n / 16) (digit_glyph false (n % 16) ∷ more) some (omega arith) (omega arith))
    ]

abbrev below_equal : ℕ → Bool
below_equal zero = true
below_equal (suc n) = eqb (get_or DIGITS n 0) (digit_glyph false n) && below_equal n

each_is : (n v : ℕ) → T (below_equal n) → v < n → get_or DIGITS v 0 ≡ digit_glyph false v
each_is zero v t h = absurd (omega arith)
each_is (suc n) v t h = elim (eq-zero-or-pos (n - v)) [
  | inl z ↦ let e : v ≡ n = omega arith in rw e (eqb→eq _ _ (and_l _ (below_equal n) t))
  | inr p ↦ each_is n v (and_r _ (below_equal n) t) (omega arith)
]

-- the digit of a value in the table
pub digit_is : (value : ℕ) → value < 16 → get_or DIGITS value 0 ≡ digit_glyph false value
digit_is value small = each_is 16 value tt small

-- what has at most eight digits, filled up to eight
padded : (a : ℕ)
    → eight_digits a ≡ replicate (8 - length (digits 16 false a)) 48 ++ digits 16 false a
unfolding padded_integral char_count
padded a =
    let count : 8 - length (digits 16 false a) - 0 - 0 ≡ 8 - length (digits 16 false a) =
    omega arith in
    λ i. replicate (count i) 48 ++ append-nil (digits 16 false a) i

onto : (a : ℕ) → digits 16 false a ≡ digits_onto 64 16 false a []
unfolding digits
onto a = refl

last_eight : (a : ℕ) → a < 2 ^ 32 → eight_digits a ≡ last_digits 8 a []
last_eight a small = padded a ∙ rw (onto a) (filled 8 64 a [] (omega arith) (omega arith) small)

-- the eight digits of an address are those of its eight parts
pub digits_are : (a : ℕ) → a < 2 ^ 32
    → eight_digits a ≡ digit_glyph false (a / 0x1000_0000) ∷ digit_glyph false (a / 0x100_0000 % 16)
    ∷ digit_glyph false (a / 0x10_0000 % 16) ∷ digit_glyph false (a / 0x1_0000 % 16)
    ∷ digit_glyph false (a / 0x1000 % 16) ∷ digit_glyph false (a / 0x100 % 16)
    ∷ digit_glyph false (a / 16 % 16) ∷ digit_glyph false (a % 16) ∷ []
digits_are a small =
    let two : a / 16 / 16 ≡ a / 0x100 = omega arith in
    let three : a / 16 / 16 / 16 ≡ a / 0x1000 = omega arith in
    let four : a / 16 / 16 / 16 / 16 ≡ a / 0x1_0000 = omega arith in
    let five : a / 16 / 16 / 16 / 16 / 16 ≡ a / 0x10_0000 = omega arith in
    let six : a / 16 / 16 / 16 / 16 / 16 / 16 ≡ a / 0x100_0000 = omega arith in
    let seven : a / 16 / 16 / 16 / 16 / 16 / 16 / 16 % 16 ≡ a / 0x1000_0000 = omega arith in
    rw (last_eight a small, seven, six, five, four, three, two)
