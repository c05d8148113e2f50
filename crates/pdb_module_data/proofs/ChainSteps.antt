-- The sites that a site lies in, one at a time.
use Rattle.std.proofs.Common.{◌≡◌, ℕ, ◌+◌, ◌<◌, ◌≤◌, Option, Some, None, List, ◌∷◌, ◌++◌, length, append_assoc, zero, suc, refl, sym, ap, ◌∙◌, arith}
use Rattle.std.specs.List.{slice_get, flat_map}
use Rattle.std.specs.Option.{option_and_then}
use Rattle.std.proofs.lemmas.Option.{slice_get_within}
use Rattle.pdb_addresses.specs.declared.internal_section_offset.PdbInternalSectionOffset.{PdbInternalSectionOffset}
use Rattle.pdb_subsections.specs.declared.line_info.LineInfo.{LineInfo}
use Rattle.pdb_symbol_records.specs.Forms.{InlineSiteForm}
use Rattle.pdb_module_data.specs.Forest.{Site}
use Rattle.pdb_module_data.specs.declared.inlined_calls.InlinedCall.{InlinedCall}
use Rattle.pdb_module_data.specs.InlinedCalls.{FitsParent, IsNested, parent_of, chain_from, chain_at, calls_of}

-- how many sites there can be in a chain, by the number of the first
abbrev pub steps_of : Option ℕ → ℕ
steps_of None = 0
steps_of (Some number) = suc number

-- the depth of a site that may be there
abbrev pub depth_of : Option Site → ℕ
depth_of None = 0
depth_of (Some s) = s.depth

-- the depth of a site by its number
abbrev pub depth_at : List Site → Option ℕ → ℕ
depth_at sites None = 0
depth_at sites (Some number) = depth_of (slice_get sites number)

parent_in : (sites : List Site) (k : ℕ) (o : Option Site) → slice_get sites k ≡ o → IsNested sites → steps_of (option_and_then (λ (s : Site). s.parent) o) ≤ k
parent_in sites k None e n = omega arith
parent_in sites k (Some s) e n = fits s.parent (n.each k s e)
  where
    fits : (p : Option ℕ) → FitsParent sites k p s.depth → steps_of p ≤ k
    fits None f = omega arith
    fits (Some q) f = omega (arith, f.0)

parent_below : (sites : List Site) (k : ℕ) → IsNested sites → steps_of (parent_of sites k) ≤ k
parent_below sites k n = parent_in sites k (slice_get sites k) refl n

-- more steps than the number of the first site are enough
chain_from-enough : (sites : List Site) → IsNested sites → (m n : ℕ) (o : Option ℕ) → steps_of o ≤ m → steps_of o ≤ n → chain_from sites m o ≡ chain_from sites n o
chain_from-enough sites w m n None h l = refl
chain_from-enough sites w zero n (Some k) h l = absurd (omega arith)
chain_from-enough sites w (suc m) zero (Some k) h l = absurd (omega arith)
chain_from-enough sites w (suc m) (suc n) (Some k) h l =
    let b = parent_below sites k w in
    ap (λ ys. k ∷ ys) (chain_from-enough sites w m n (parent_of sites k) (omega arith) (omega arith))

chain_at-from : (sites : List Site) (o : Option ℕ) → chain_from sites (steps_of o) o ≡ chain_at sites o
chain_at-from sites None = refl
chain_at-from sites (Some k) = refl

-- a site, and then those from its parent on
chain_at-some : (sites : List Site) (k : ℕ) → IsNested sites → chain_at sites (Some k) ≡ k ∷ chain_at sites (parent_of sites k)
chain_at-some sites k w =
    let b = parent_below sites k w in
    let e = chain_from-enough sites w k (steps_of (parent_of sites k)) (parent_of sites k) b (omega arith) in
    ap (λ ys. k ∷ ys) (e ∙ chain_at-from sites (parent_of sites k))

-- the parent of a site that was read
parent_read : (sites : List Site) (k : ℕ) (s : Site) → slice_get sites k ≡ Some s → parent_of sites k ≡ s.parent
parent_read sites k s e = ap (option_and_then (λ (x : Site). x.parent)) e

chain_step : (sites : List Site) (k : ℕ) (s : Site) → IsNested sites → slice_get sites k ≡ Some s → chain_at sites (Some k) ≡ k ∷ chain_at sites s.parent
chain_step sites k s w e = chain_at-some sites k w ∙ ap (λ o. k ∷ chain_at sites o) (parent_read sites k s e)

depth_fits : (sites : List Site) (k : ℕ) (p : Option ℕ) (d : ℕ) → FitsParent sites k p d → d ≡ depth_at sites p + 1
depth_fits sites k None d f = omega (arith, f)
depth_fits sites k (Some q) d f = let e = ap depth_of f.2 in omega (arith, f.3)

-- a site lies one deeper than what it lies in
pub depth_step : (sites : List Site) (k : ℕ) (s : Site) → IsNested sites → slice_get sites k ≡ Some s → depth_at sites (Some k) ≡ depth_at sites s.parent + 1
depth_step sites k s w e = let f = depth_fits sites k s.parent s.depth (w.each k s e) in let g = ap depth_of e in omega arith

-- what is made of the sites of a chain, one site further on
pub chain_more : {A : Type 0} (make : Option Site → List A) (sites : List Site) (k : ℕ) (s : Site) (made all : List A) → IsNested sites → slice_get sites k ≡ Some s
    → made ++ flat_map (λ n. make (slice_get sites n)) (chain_at sites (Some k)) ≡ all → (made ++ make (Some s)) ++ flat_map (λ n. make (slice_get sites n)) (chain_at sites s.parent) ≡ all
chain_more make sites k s made all w e h =
    let others = flat_map (λ n. make (slice_get sites n)) (chain_at sites s.parent) in
    let first : flat_map (λ n. make (slice_get sites n)) (chain_at sites (Some k)) ≡ make (Some s) ++ others = ap (flat_map (λ n. make (slice_get sites n))) (chain_step sites k s w e) ∙ ap (λ o. make o ++ others) e in
    append_assoc made (make (Some s)) others ∙ ap (λ ys. made ++ ys) (sym first) ∙ h

-- the parent has a lesser number, and is there
pub parent_in_range : (sites : List Site) (k j : ℕ) (s : Site) → IsNested sites → slice_get sites k ≡ Some s → s.parent ≡ Some j → j < length sites
parent_in_range sites k j s w e h =
    let b = parent_below sites k w in
    let c : steps_of (parent_of sites k) ≡ suc j = ap steps_of (parent_read sites k s e ∙ h) in
    let l = slice_get_within sites k s e in omega arith

-- the parent's number is less
pub parent_steps : (sites : List Site) (k : ℕ) (s : Site) → IsNested sites → slice_get sites k ≡ Some s → steps_of s.parent ≤ k
parent_steps sites k s w e = let b = parent_below sites k w in let c = ap steps_of (parent_read sites k s e) in omega arith

-- ---- the number of calls

calls_here : (rows : InlineSiteForm → List LineInfo) (place : PdbInternalSectionOffset) (sites : List Site) (k : ℕ) (found : Option Site) (behind : List InlinedCall) → IsNested sites → slice_get sites k ≡ found
    → length behind ≡ depth_at sites (option_and_then (λ (s : Site). s.parent) found) → length (calls_of rows place found ++ behind) ≡ depth_of found
calls_here rows place sites k None behind w e h = h
calls_here rows place sites k (Some s) behind w e h = let f = depth_fits sites k s.parent s.depth (w.each k s e) in omega arith

calls_within : (rows : InlineSiteForm → List LineInfo) (place : PdbInternalSectionOffset) (sites : List Site) → IsNested sites → (steps : ℕ) (o : Option ℕ) → steps_of o ≤ steps
    → length (flat_map (λ number. calls_of rows place (slice_get sites number)) (chain_from sites steps o)) ≡ depth_at sites o
calls_within rows place sites w steps None h = refl
calls_within rows place sites w zero (Some k) h = absurd (omega arith)
calls_within rows place sites w (suc steps) (Some k) h =
    let b = parent_below sites k w in
    calls_here rows place sites k (slice_get sites k) (flat_map (λ number. calls_of rows place (slice_get sites number)) (chain_from sites steps (parent_of sites k))) w refl
    (calls_within rows place sites w steps (parent_of sites k) (omega arith))

-- a site is as deep as it has calls
pub calls_deep : (rows : InlineSiteForm → List LineInfo) (place : PdbInternalSectionOffset) (sites : List Site) (o : Option ℕ) → IsNested sites
    → length (flat_map (λ number. calls_of rows place (slice_get sites number)) (chain_at sites o)) ≡ depth_at sites o
calls_deep rows place sites None w = refl
calls_deep rows place sites (Some k) w = calls_within rows place sites w (suc k) (Some k) (omega arith)
