-- What is true of a page's size.
use Rattle.std.proofs.Common.{◌≡◌, ◌≢◌, ℕ, ◌+◌, ◌*◌, ◌/◌, ◌%◌, ◌^◌, ◌≤◌, ◌<◌, sym, ap, ◌∙◌, arith}
use Rattle.std.specs.Prelude.{true, ◌==◌, IsTrue, count_ones}
use Rattle.std.specs.Int.{is_power_of_two}
use Rattle.std.proofs.lemmas.Nat.{ones_cat, zero_from_ones, shr_split, mod_below}
use Rattle.std.proofs.lemmas.Bool.{eqb-true}

-- a power of two from 0x100 on is a multiple of 4
pub by_four : (n : ℕ) → is_power_of_two n ≡ true → 0x100 ≤ n → n % 4 ≡ 0
by_four n power big =
    let one : count_ones n ≡ 1 = eqb-true (count_ones n) 1 power in
    let split : count_ones (n / 256 * 2 ^ 8 + n % 256) ≡ count_ones (n / 256) + count_ones (n % 256) = ones_cat 8 (n / 256) (n % 256) (omega arith) in
    let whole : n / 256 * 2 ^ 8 + n % 256 ≡ n = omega arith in
    let parts : count_ones (n / 256) + count_ones (n % 256) ≡ 1 = sym split ∙ ap count_ones whole ∙ one in
    let high : count_ones (n / 256) ≢ 0 = λ e. absurd (omega (arith, zero_from_ones (n / 256) e)) in
    let low : n % 256 ≡ 0 = zero_from_ones (n % 256) (omega arith) in
    omega arith
