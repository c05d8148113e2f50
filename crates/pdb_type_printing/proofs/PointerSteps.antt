-- Pointers from the innermost outwards.
use Rattle.std.proofs.Common.{◌≡◌, ℕ, suc, ◌+◌, ◌-◌, ◌<◌, Bool, true, not, List, [], ◌∷◌, ◌++◌}
use Rattle.std.proofs.Common.{length, reverse, get_or, drop, refl, sym, ap, ◌∙◌, append_assoc}
use Rattle.std.proofs.Common.{arith, add-one}
use Rattle.std.proofs.Math.Seq.{drop-cons}
use Rattle.std.proofs.lemmas.List.{get_or-reverse, length-reverse}
use Rattle.pdb_type_printing.specs.declared.pointers.PointerLevel.{PointerLevel}
use Rattle.pdb_type_printing.specs.Printed.{Text, Printed, Done, say}
use Rattle.pdb_type_printing.specs.Pointers.{pointer_text, pointers_text}

done_is : (x y : Text) → Done x ≡ Done y → x ≡ y
done_is x y e = cc

-- the next pointer before those outside it
pointers_step : (flags : ℕ) (space behind : Bool) (xs : List PointerLevel) (k : ℕ)
    (d : PointerLevel) → k < length xs
    → pointers_text flags space behind (drop k (reverse xs))
    ≡ pointer_text flags space behind (get_or xs (length xs - 1 - k) d)
    ++ pointers_text flags true (not (get_or xs (length xs - 1 - k) d).is_constant)
    (drop (k + 1) (reverse xs))
pointers_step flags space behind xs k d lt =
    let h : k < length (reverse xs) = omega (arith, length-reverse xs) in
    let first : get_or (reverse xs) k d ≡ get_or xs (length xs - 1 - k) d =
    get_or-reverse xs k d lt in
    rw (add-one, drop-cons (reverse xs) k d h, first) refl

-- once the next pointer is printed, those outside it are left
pub pointers_on : (flags : ℕ) (space behind : Bool) (xs : List PointerLevel) (k : ℕ)
    (d : PointerLevel) (old new total : Text) → k < length xs
    → say (pointer_text flags space behind (get_or xs (length xs - 1 - k) d)) old ≡ Done new
    → old ++ pointers_text flags space behind (drop k (reverse xs)) ≡ total
    → new ++ pointers_text flags true (not (get_or xs (length xs - 1 - k) d).is_constant)
    (drop (k + 1) (reverse xs)) ≡ total
pointers_on flags space behind xs k d old new total lt printed so_far =
    let p = get_or xs (length xs - 1 - k) d in
    let rest = pointers_text flags true (not p.is_constant) (drop (k + 1) (reverse xs)) in
    ap (λ (t : Text). t ++ rest)
    (sym (done_is (old ++ pointer_text flags space behind p) new printed))
    ∙ append_assoc old (pointer_text flags space behind p) rest
    ∙ ap (λ (t : Text). old ++ t) (sym (pointers_step flags space behind xs k d lt)) ∙ so_far
