-- The order of the files of addresses is total and exact. The laws of `Ord` and `Answer` cite it.
use Rattle.std.proofs.Common.{◌≡◌, ℕ, zero, suc, List, refl, sym, ap, ◌∙◌}
use Rattle.std.specs.Cmp.{IsTotalOrder, on_total, then_total, nat_cmp_total}
use Rattle.std.specs.Cmp.Lexicographic.{slice_cmp, nat_list_cmp_total}
use Rattle.std.specs.Ordering.{nat_cmp}
use Rattle.std.proofs.lemmas.Map.Lookups.{CmpEqualImpliesEq, exact_unsigned, exact_bytes}
use Rattle.std.proofs.lemmas.Map.Lookups.{exact_pairs}
use Rattle.pdb_owners.specs.FileAnswers.{FileAnswer, Nothing, Unreadable, NoFile, File, file_cmp}
use Rattle.pdb_owners.specs.FileAnswers.{kind_of, name_of}

pub file_total : IsTotalOrder file_cmp
file_total = then_total (on_total kind_of nat_cmp_total) (on_total name_of nat_list_cmp_total)

-- the file of a kind and a text
file_by : ℕ × List ℕ → FileAnswer
file_by (zero, name) = Nothing
file_by (suc zero, name) = Unreadable
file_by (suc (suc zero), name) = NoFile
file_by (suc (suc (suc kind)), name) = File name

file_back : (f : FileAnswer) → file_by (kind_of f, name_of f) ≡ f
unfolding file_by
file_back Nothing = refl
file_back Unreadable = refl
file_back NoFile = refl
file_back (File name) = refl

-- files that compare as equal are one
pub file_exact : CmpEqualImpliesEq file_cmp
file_exact a b h = sym (file_back a) ∙ ap file_by (exact_pairs nat_cmp
    (slice_cmp nat_cmp) exact_unsigned exact_bytes (kind_of a, name_of a)
    (kind_of b, name_of b) h) ∙ file_back b
