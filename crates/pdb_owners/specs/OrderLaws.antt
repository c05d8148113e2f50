-- The order of functions is total and exact. The laws of `Ord` and `Answer` cite it.
use Rattle.std.proofs.Common.{ℕ, true≢false, List, refl, ap}
use Rattle.std.specs.Prelude.{Option, None, Some}
use Rattle.std.specs.declared.cmp.Ordering.{Ordering}
use Rattle.std.specs.Cmp.{IsTotalOrder, on_total, then_total, nat_cmp_total}
use Rattle.std.specs.Cmp.Lexicographic.{slice_cmp, nat_list_cmp_total, options_total}
use Rattle.std.specs.Option.{option_cmp}
use Rattle.std.specs.Ordering.{nat_cmp, ordering_then, is_lt, is_gt}
use Rattle.std.proofs.lemmas.Map.Lookups.{CmpEqualImpliesEq, exact_unsigned, exact_bytes}
use Rattle.std.proofs.lemmas.Map.Lookups.{exact_pairs}
use Rattle.pdb_owners.specs.FunctionOrder.{Function, function_cmp}

-- by start, then by end, then by name
pub function_total : IsTotalOrder function_cmp
function_total =
    then_total (on_total (λ (f : Function). f.start_rva) nat_cmp_total)
    (then_total (on_total (λ (f : Function). f.end_rva) (options_total nat_cmp_total))
    (on_total (λ (f : Function). f.name) (options_total nat_list_cmp_total)))

pub exact_options : {K : Type 0} (R : K → K → Ordering) → CmpEqualImpliesEq R
    → CmpEqualImpliesEq (option_cmp R)
exact_options R exact None None h = refl
exact_options R exact None (Some y) h = absurd (true≢false (ap is_lt h))
exact_options R exact (Some x) None h = absurd (true≢false (ap is_gt h))
exact_options R exact (Some x) (Some y) h = ap Some (exact x y h)

-- functions that compare as equal are one
pub function_exact : CmpEqualImpliesEq function_cmp
function_exact a b h =
    let ends = exact_options nat_cmp exact_unsigned in
    let names = exact_options (slice_cmp nat_cmp) exact_bytes in
    let two : Option ℕ × Option (List ℕ) → Option ℕ × Option (List ℕ) → Ordering =
    λ x y. ordering_then (option_cmp nat_cmp x.0 y.0) (option_cmp (slice_cmp nat_cmp) x.1 y.1) in
    let pairs = exact_pairs (option_cmp nat_cmp) (option_cmp (slice_cmp nat_cmp)) ends names in
    let all = exact_pairs nat_cmp two exact_unsigned pairs in
    let same = all (a.start_rva, (a.end_rva, a.name)) (b.start_rva, (b.end_rva, b.name)) h in
    ap (λ (p : ℕ × (Option ℕ × Option (List ℕ))).
    let f : Function = record { start_rva = p.0; end_rva = p.1.0; name = p.1.1 } in f) same
