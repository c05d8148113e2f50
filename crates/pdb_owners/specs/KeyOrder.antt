-- Keys of functions, and their order, which is total and exact.
use Rattle.std.proofs.Common.{◌≡◌, ℕ, zero, suc, refl, sym, ap, ◌∙◌}
use Rattle.std.specs.declared.cmp.Ordering.{Ordering}
use Rattle.std.specs.Cmp.{IsTotalOrder, on_total, then_total, nat_cmp_total}
use Rattle.std.specs.Ordering.{nat_cmp, ordering_then}
use Rattle.std.proofs.lemmas.Map.Lookups.{CmpEqualImpliesEq, exact_unsigned, exact_pairs}
use Rattle.pdb_owners.specs.declared.function_key.FunctionKey.{FunctionKey}
use Rattle.pdb_owners.specs.declared.function_key.FunctionKey.TheVariants.{Procedure, Public}

-- the index of a key's module
abbrev pub key_module : FunctionKey → ℕ
key_module (Procedure index number) = index
key_module (Public index place) = index

-- the numbers that a key is compared by
abbrev pub key_numbers : FunctionKey → ℕ × ℕ × ℕ × ℕ
key_numbers (Procedure index number) = (0, index, number, 0)
key_numbers (Public index place) = (1, index, place.section, place.offset)

-- four numbers, one after the other
abbrev pub numbers_cmp : ℕ × ℕ × ℕ × ℕ → ℕ × ℕ × ℕ × ℕ → Ordering
numbers_cmp a b =
    ordering_then (nat_cmp a.0 b.0) (ordering_then (nat_cmp a.1 b.1)
    (ordering_then (nat_cmp a.2 b.2) (nat_cmp a.3 b.3)))

-- by kind, module, number or section, and offset
abbrev pub key_cmp : FunctionKey → FunctionKey → Ordering
key_cmp a b = numbers_cmp (key_numbers a) (key_numbers b)

numbers_total : IsTotalOrder numbers_cmp
numbers_total =
    then_total (on_total (λ (n : ℕ × ℕ × ℕ × ℕ). n.0) nat_cmp_total)
    (then_total (on_total (λ (n : ℕ × ℕ × ℕ × ℕ). n.1) nat_cmp_total)
    (then_total (on_total (λ (n : ℕ × ℕ × ℕ × ℕ). n.2) nat_cmp_total)
    (on_total (λ (n : ℕ × ℕ × ℕ × ℕ). n.3) nat_cmp_total)))

pub key_total : IsTotalOrder key_cmp
key_total = on_total key_numbers numbers_total

-- the key that is compared by some numbers
key_of : ℕ × (ℕ × (ℕ × ℕ)) → FunctionKey
key_of (zero, (index, (number, offset))) = Procedure index number
key_of (suc kind, (index, (section, offset))) =
    Public index (record { offset = offset; section = section })

-- the numbers of a key as pairs
pairs_of : FunctionKey → ℕ × (ℕ × (ℕ × ℕ))
pairs_of k = ((key_numbers k).0, ((key_numbers k).1, ((key_numbers k).2, (key_numbers k).3)))

key_back : (k : FunctionKey) → key_of (pairs_of k) ≡ k
unfolding key_of pairs_of
key_back (Procedure index number) = refl
key_back (Public index place) = refl

-- keys that compare as equal are one
pub key_exact : CmpEqualImpliesEq key_cmp
unfolding pairs_of
key_exact a b h =
    let last = exact_pairs nat_cmp nat_cmp exact_unsigned exact_unsigned in
    let two : ℕ × ℕ → ℕ × ℕ → Ordering = λ x y. ordering_then (nat_cmp x.0 y.0) (nat_cmp x.1 y.1) in
    let three : ℕ × (ℕ × ℕ) → ℕ × (ℕ × ℕ) → Ordering =
    λ x y. ordering_then (nat_cmp x.0 y.0) (two x.1 y.1) in
    let more = exact_pairs nat_cmp two exact_unsigned last in
    let all = exact_pairs nat_cmp three exact_unsigned more in
    sym (key_back a) ∙ ap key_of (all (pairs_of a) (pairs_of b) h) ∙ key_back b
