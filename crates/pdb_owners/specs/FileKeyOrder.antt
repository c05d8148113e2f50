-- Keys of files, and their order, which is total and exact.
use Rattle.std.proofs.Common.{◌≡◌, ℕ, zero, suc, refl, sym, ap, ◌∙◌}
use Rattle.std.specs.declared.cmp.Ordering.{Ordering}
use Rattle.std.specs.Cmp.{IsTotalOrder, on_total, then_total, nat_cmp_total}
use Rattle.std.specs.Ordering.{nat_cmp, ordering_then}
use Rattle.std.proofs.lemmas.Map.Lookups.{CmpEqualImpliesEq, exact_unsigned, exact_pairs}
use Rattle.pdb_owners.specs.declared.file_key.FileKey.{FileKey}
use Rattle.pdb_owners.specs.declared.file_key.FileKey.TheVariants.{Unreadable, NoFile, Name}

-- the numbers that a key is compared by
abbrev pub file_numbers : FileKey → ℕ × ℕ
file_numbers Unreadable = (0, 0)
file_numbers NoFile = (1, 0)
file_numbers (Name offset) = (2, offset)

-- by kind, and the offset of the name
abbrev pub file_key_cmp : FileKey → FileKey → Ordering
file_key_cmp a b =
    let m = file_numbers a in
    let n = file_numbers b in
    ordering_then (nat_cmp m.0 n.0) (nat_cmp m.1 n.1)

pub file_key_total : IsTotalOrder file_key_cmp
file_key_total =
    then_total (on_total (λ (k : FileKey). (file_numbers k).0) nat_cmp_total)
    (on_total (λ (k : FileKey). (file_numbers k).1) nat_cmp_total)

-- the key that is compared by some numbers
key_of : ℕ × ℕ → FileKey
key_of (zero, offset) = Unreadable
key_of (suc zero, offset) = NoFile
key_of (suc (suc kind), offset) = Name offset

key_back : (k : FileKey) → key_of (file_numbers k) ≡ k
unfolding key_of
key_back Unreadable = refl
key_back NoFile = refl
key_back (Name offset) = refl

-- keys that compare as equal are one
pub file_key_exact : CmpEqualImpliesEq file_key_cmp
file_key_exact a b h =
    sym (key_back a)
    ∙ ap key_of (exact_pairs nat_cmp nat_cmp exact_unsigned exact_unsigned (file_numbers a)
    (file_numbers b) h)
    ∙ key_back b
