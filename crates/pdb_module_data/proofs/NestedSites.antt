-- Sites lie in sites before them.
use Rattle.std.proofs.Common.{◌≡◌, ℕ, zero, suc, ◌+◌, ◌≤◌, ◌⊎◌, inl, inr, List, [], ◌∷◌, ◌++◌, length, append_assoc, length-append, Option, Some, None, Result, Ok, Err, refl, sym, ap, subst, ◌∙◌, arith}
use Rattle.std.specs.Prelude.{IfOk}
use Rattle.std.specs.List.{slice_get}
use Rattle.std.proofs.lemmas.Option.{slice_get_within}
use Rattle.std.proofs.lemmas.List.{append-nil}
use Rattle.pdb_symbol_records.specs.Forms.{InlineSiteForm}
use Rattle.pdb_module_data.specs.Forest.{Forest, Empty, Tree, Site, SitesFault, numbered, sites_from}
use Rattle.pdb_module_data.specs.InlinedCalls.{FitsParent, IsNested}
use Rattle.pdb_module_data.proofs.ForestGrammar.{forest_is}

-- a site by its parts
abbrev pub site_at : InlineSiteForm → Option ℕ → ℕ → Site
site_at call parent depth = record { call = call; parent = parent; depth = depth }

-- sites, one more, those in it and those after it, as one list
pub regroup : (sites : List Site) (x : Site) (below rest : List Site) → ((sites ++ x ∷ []) ++ below) ++ rest ≡ sites ++ (x ∷ (below ++ rest))
regroup sites x below rest = append_assoc (sites ++ x ∷ []) below rest ∙ append_assoc sites (x ∷ []) (below ++ rest)

slice_get-append : (xs ys : List Site) (k : ℕ) (s : Site) → slice_get xs k ≡ Some s → slice_get (xs ++ ys) k ≡ Some s
slice_get-append [] ys k s e = cc
slice_get-append (x ∷ xs) ys zero s e = e
slice_get-append (x ∷ xs) ys (suc k) s e = slice_get-append xs ys k s e

push_cases : (xs : List Site) (x : Site) (k : ℕ) (s : Site) → slice_get (xs ++ x ∷ []) k ≡ Some s → (slice_get xs k ≡ Some s) ⊎ ((k ≡ length xs) × (s ≡ x))
push_cases [] x zero s e = inr (refl, cc)
push_cases [] x (suc k) s e = cc
push_cases (y ∷ ys) x zero s e = inl e
push_cases (y ∷ ys) x (suc k) s e = elim (push_cases ys x k s e) [ inl a ↦ inl a | inr a ↦ inr (ap suc a.0, a.1) ]

last_is : (xs : List Site) (x : Site) → slice_get (xs ++ x ∷ []) (length xs) ≡ Some x
last_is [] x = refl
last_is (y ∷ ys) x = last_is ys x

FitsParent-append : (xs ys : List Site) (m n : ℕ) (parent : Option ℕ) (depth : ℕ) → m ≤ n → FitsParent xs m parent depth → FitsParent (xs ++ ys) n parent depth
FitsParent-append xs ys m n None depth le fits = fits
FitsParent-append xs ys m n (Some q) depth le fits = (omega (arith, fits.0), fits.1, slice_get-append xs ys q fits.1 fits.2, fits.3)

IsNested-push : (xs : List Site) (x : Site) → IsNested xs → FitsParent xs (length xs) x.parent x.depth → IsNested (xs ++ x ∷ [])
IsNested-push xs x nested fits = record {
  each = λ k s e. elim (push_cases xs x k s e) [
    | inl a ↦ FitsParent-append xs (x ∷ []) k k s.parent s.depth (omega arith) (nested.each k s a)
    | inr a ↦ subst (λ (y : Site). FitsParent (xs ++ x ∷ []) k y.parent y.depth) (sym a.1) (FitsParent-append xs (x ∷ []) (length xs) k x.parent x.depth (omega (arith, a.0)) fits)
  ];
}

IsNested-numbered : (forest : Forest) (before : List Site) (parent : Option ℕ) (depth first : ℕ) → first ≡ length before → IsNested before → FitsParent before first parent depth → IsNested (before ++ numbered parent depth first forest)
IsNested-numbered Empty before parent depth first at nested fits = subst IsNested (sym (append-nil before)) nested
IsNested-numbered (Tree call inner after) before parent depth first at nested fits =
    let x = site_at call parent depth in
    let here : FitsParent before (length before) parent depth = subst (λ m. FitsParent before m parent depth) at fits in
    let one = IsNested-push before x nested here in
    let below = numbered (Some first) (depth + 1) (first + 1) inner in
    let size = length-append before (x ∷ []) in
    let last : slice_get (before ++ x ∷ []) first ≡ Some x = subst (λ m. slice_get (before ++ x ∷ []) m ≡ Some x) (sym at) (last_is before x) in
    let two = IsNested-numbered inner (before ++ x ∷ []) (Some first) (depth + 1) (first + 1) (omega arith) one (omega arith, x, last, refl) in
    let more = length-append (before ++ x ∷ []) below in
    let wider : FitsParent ((before ++ x ∷ []) ++ below) (first + 1 + length below) parent depth =
    subst (λ (ys : List Site). FitsParent ys (first + 1 + length below) parent depth) (sym (append_assoc before (x ∷ []) below)) (FitsParent-append before (x ∷ [] ++ below) first (first + 1 + length below) parent depth (omega arith) fits) in
    let three = IsNested-numbered after ((before ++ x ∷ []) ++ below) parent depth (first + 1 + length below) (omega arith) two wider in
    subst IsNested (regroup before x below (numbered parent depth (first + 1 + length below) after)) three

-- sites that are read lie in sites before them
pub forest_nested : (bytes : List ℕ) (limit start : ℕ) (sites : List Site) → sites_from bytes limit start ≡ Ok sites → IsNested sites
forest_nested bytes limit start sites e =
    let w = forest_is bytes limit start sites e in
    subst IsNested (sym w.3) (IsNested-numbered w.0 [] None 1 0 refl (record { each = λ k s f. absurd (omega (arith, slice_get_within [] k s f)) }) refl)

nested_if_read : (read : Result (List Site) SitesFault) → ((sites : List Site) → read ≡ Ok sites → IsNested sites) → IfOk read IsNested
nested_if_read (Ok sites) nested = nested sites refl
nested_if_read (Err e) nested = tt

pub forest_nested_if_read : (bytes : List ℕ) (limit start : ℕ) → IfOk (sites_from bytes limit start) IsNested
forest_nested_if_read bytes limit start = nested_if_read (sites_from bytes limit start) (forest_nested bytes limit start)
