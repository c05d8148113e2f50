-- The deepest site over a place is that.
use Rattle.std.proofs.Common.{◌≡◌, ℕ, zero, suc, ◌+◌, ◌<◌, ◌≤◌, Bool, true, false, List, [], ◌∷◌, length, Option, Some, None, refl, ap, subst, arith}
use Rattle.std.specs.Prelude.{nat_lt, slice_get, option_map, if◌then◌else◌}
use Rattle.std.proofs.lemmas.Bool.{ltb-true, ltb-false}
use Rattle.std.proofs.lemmas.Option.{slice_get_within}
use Rattle.pdb_addresses.specs.declared.internal_section_offset.PdbInternalSectionOffset.{PdbInternalSectionOffset}
use Rattle.pdb_subsections.specs.declared.line_info.LineInfo.{LineInfo}
use Rattle.pdb_symbol_records.specs.Forms.{InlineSiteForm}
use Rattle.pdb_module_data.specs.Forest.{Site}
use Rattle.pdb_module_data.specs.InlinedCalls.{is_over, deeper, deepest_from, deepest, IsDeepest, NoneOver}

-- of the sites from a number on that are over the place this one, by its number and depth, is the
-- deepest, of equals the first
pub record IsBest (rows : InlineSiteForm → List LineInfo) (place : PdbInternalSectionOffset) (from : ℕ) (sites : List Site) (found : ℕ × ℕ) : Type 0 where
  pub index : ℕ
  pub counted : found.0 ≡ from + index
  pub site : Site
  pub is : slice_get sites index ≡ Some site
  pub deep : site.depth ≡ found.1
  pub over : is_over rows place site ≡ true
  pub most : (k : ℕ) (other : Site) → slice_get sites k ≡ Some other → is_over rows place other ≡ true → other.depth ≤ found.1
  pub first : (k : ℕ) (other : Site) → slice_get sites k ≡ Some other → is_over rows place other ≡ true → k < index → other.depth < found.1

-- that of what was found
abbrev pub Best : (InlineSiteForm → List LineInfo) → PdbInternalSectionOffset → ℕ → List Site → Option (ℕ × ℕ) → Type 0
Best rows place from sites None = NoneOver rows place sites
Best rows place from sites (Some found) = IsBest rows place from sites found

module _ (rows : InlineSiteForm → List LineInfo) (place : PdbInternalSectionOffset) (from : ℕ) (site : Site) (sites : List Site) where
  none_more : is_over rows place site ≡ false → NoneOver rows place sites → NoneOver rows place (site ∷ sites)
  none_more apart below zero other e over = let s : site ≡ other = cc in let t = ap (is_over rows place) s in cc
  none_more apart below (suc k) other e over = below k other e over

  passed_most : is_over rows place site ≡ false → (found : ℕ × ℕ) → IsBest rows place (from + 1) sites found → (k : ℕ) (other : Site) → slice_get (site ∷ sites) k ≡ Some other → is_over rows place other ≡ true → other.depth ≤ found.1
  passed_most apart found b zero other e over = let s : site ≡ other = cc in let t = ap (is_over rows place) s in cc
  passed_most apart found b (suc k) other e over = b.most k other e over

  passed_first : is_over rows place site ≡ false → (found : ℕ × ℕ) (b : IsBest rows place (from + 1) sites found) → (k : ℕ) (other : Site) → slice_get (site ∷ sites) k ≡ Some other → is_over rows place other ≡ true → k < suc b.index → other.depth < found.1
  passed_first apart found b zero other e over h = let s : site ≡ other = cc in let t = ap (is_over rows place) s in cc
  passed_first apart found b (suc k) other e over h = b.first k other e over (omega arith)

  best_passed : is_over rows place site ≡ false → (found : ℕ × ℕ) → IsBest rows place (from + 1) sites found → IsBest rows place from (site ∷ sites) found
  best_passed apart found b = record {
    index = suc b.index;
    counted = omega arith;
    site = b.site;
    is = b.is;
    deep = b.deep;
    over = b.over;
    most = passed_most apart found b;
    first = passed_first apart found b;
  }

  lone_most : NoneOver rows place sites → (k : ℕ) (other : Site) → slice_get (site ∷ sites) k ≡ Some other → is_over rows place other ≡ true → other.depth ≤ site.depth
  lone_most below zero other e over = let s : site ≡ other = cc in let t = ap (λ (x : Site). x.depth) s in omega arith
  lone_most below (suc k) other e over = absurd (below k other e over)

  best_lone : is_over rows place site ≡ true → NoneOver rows place sites → IsBest rows place from (site ∷ sites) (from, site.depth)
  best_lone lies below = record {
    index = zero;
    counted = omega arith;
    site = site;
    is = refl;
    deep = refl;
    over = lies;
    most = lone_most below;
    first = λ k other e over h. absurd (omega arith);
  }

  kept_most : (found : ℕ × ℕ) → IsBest rows place (from + 1) sites found → found.1 ≤ site.depth → (k : ℕ) (other : Site) → slice_get (site ∷ sites) k ≡ Some other → is_over rows place other ≡ true → other.depth ≤ site.depth
  kept_most found b h zero other e over = let s : site ≡ other = cc in let t = ap (λ (x : Site). x.depth) s in omega arith
  kept_most found b h (suc k) other e over = omega (arith, b.most k other e over)

  best_kept : is_over rows place site ≡ true → (found : ℕ × ℕ) → IsBest rows place (from + 1) sites found → found.1 ≤ site.depth → IsBest rows place from (site ∷ sites) (from, site.depth)
  best_kept lies found b h = record {
    index = zero;
    counted = omega arith;
    site = site;
    is = refl;
    deep = refl;
    over = lies;
    most = kept_most found b h;
    first = λ k other e over l. absurd (omega arith);
  }

  beaten_most : (found : ℕ × ℕ) → IsBest rows place (from + 1) sites found → site.depth < found.1 → (k : ℕ) (other : Site) → slice_get (site ∷ sites) k ≡ Some other → is_over rows place other ≡ true → other.depth ≤ found.1
  beaten_most found b h zero other e over = let s : site ≡ other = cc in let t = ap (λ (x : Site). x.depth) s in omega arith
  beaten_most found b h (suc k) other e over = b.most k other e over

  beaten_first : (found : ℕ × ℕ) (b : IsBest rows place (from + 1) sites found) → site.depth < found.1 → (k : ℕ) (other : Site) → slice_get (site ∷ sites) k ≡ Some other → is_over rows place other ≡ true → k < suc b.index → other.depth < found.1
  beaten_first found b h zero other e over l = let s : site ≡ other = cc in let t = ap (λ (x : Site). x.depth) s in omega arith
  beaten_first found b h (suc k) other e over l = b.first k other e over (omega arith)

  best_beaten : (found : ℕ × ℕ) → IsBest rows place (from + 1) sites found → site.depth < found.1 → IsBest rows place from (site ∷ sites) found
  best_beaten found b h = record {
    index = suc b.index;
    counted = omega arith;
    site = b.site;
    is = b.is;
    deep = b.deep;
    over = b.over;
    most = beaten_most found b h;
    first = beaten_first found b h;
  }

  best_of_both : (found : ℕ × ℕ) (beaten : Bool) → nat_lt site.depth found.1 ≡ beaten → is_over rows place site ≡ true → IsBest rows place (from + 1) sites found
      → Best rows place from (site ∷ sites) (if beaten then Some found else Some (from, site.depth))
  best_of_both found true l lies b = best_beaten found b (ltb-true site.depth found.1 l)
  best_of_both found false l lies b = best_kept lies found b (ltb-false site.depth found.1 l)

  -- one more site before the others
  best_more : (over : Bool) (found : Option (ℕ × ℕ)) → is_over rows place site ≡ over → Best rows place (from + 1) sites found
      → Best rows place from (site ∷ sites) (deeper (if over then Some (from, site.depth) else None) found)
  best_more false None apart below = none_more apart below
  best_more false (Some found) apart b = best_passed apart found b
  best_more true None lies below = best_lone lies below
  best_more true (Some found) lies b = best_of_both found (nat_lt site.depth found.1) refl lies b

-- what is found is the best
pub best_is : (rows : InlineSiteForm → List LineInfo) (place : PdbInternalSectionOffset) (from : ℕ) (sites : List Site) → Best rows place from sites (deepest_from rows place from sites)
best_is rows place from [] = λ k other e over. cc
best_is rows place from (site ∷ sites) = best_more rows place from site sites (is_over rows place site) (deepest_from rows place (from + 1) sites) refl (best_is rows place (from + 1) sites)

-- ---- by its number

deepest_in : (rows : InlineSiteForm → List LineInfo) (sites : List Site) (place : PdbInternalSectionOffset) (number : ℕ) (found : Option (ℕ × ℕ)) → Best rows place 0 sites found
    → option_map (λ (f : ℕ × ℕ). f.0) found ≡ Some number → IsDeepest rows sites place number
deepest_in rows sites place number None b e = cc
deepest_in rows sites place number (Some found) b e =
    let same : b.index ≡ number = (let f : found.0 ≡ number = cc in omega arith) in
    record {
      site = b.site;
      is = subst (λ n. slice_get sites n ≡ Some b.site) same b.is;
      over = b.over;
      most = λ k other f over. omega (arith, b.most k other f over);
      first = λ k other f over h. omega (arith, b.first k other f over (omega arith));
    }

-- the deepest site is the deepest
pub deepest_is : (rows : InlineSiteForm → List LineInfo) (sites : List Site) (place : PdbInternalSectionOffset) (number : ℕ) → deepest rows sites place ≡ Some number → IsDeepest rows sites place number
deepest_is rows sites place number e = deepest_in rows sites place number (deepest_from rows place 0 sites) (best_is rows place 0 sites) e

none_in : (rows : InlineSiteForm → List LineInfo) (sites : List Site) (place : PdbInternalSectionOffset) (found : Option (ℕ × ℕ)) → Best rows place 0 sites found
    → option_map (λ (f : ℕ × ℕ). f.0) found ≡ None → NoneOver rows place sites
none_in rows sites place None b e = b
none_in rows sites place (Some found) b e = cc

-- where there is none, no site is over the place
pub none_is : (rows : InlineSiteForm → List LineInfo) (sites : List Site) (place : PdbInternalSectionOffset) → deepest rows sites place ≡ None → NoneOver rows place sites
none_is rows sites place e = none_in rows sites place (deepest_from rows place 0 sites) (best_is rows place 0 sites) e

-- the deepest site is there
pub deepest_within : (rows : InlineSiteForm → List LineInfo) (sites : List Site) (place : PdbInternalSectionOffset) (number : ℕ) → deepest rows sites place ≡ Some number → number < length sites
deepest_within rows sites place number e = let d = deepest_is rows sites place number e in slice_get_within sites number d.site d.is
