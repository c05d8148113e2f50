-- The number of calls over a place.
use Rattle.std.proofs.Common.{◌≡◌, ℕ, List, Option, Some, None, length, refl, sym, ap, ◌∙◌, arith}
use Rattle.std.specs.Prelude.{slice_get, option_map, unwrap_or}
use Rattle.pdb_addresses.specs.declared.internal_section_offset.PdbInternalSectionOffset.{PdbInternalSectionOffset}
use Rattle.pdb_subsections.specs.declared.line_info.LineInfo.{LineInfo}
use Rattle.pdb_symbol_records.specs.Forms.{InlineSiteForm}
use Rattle.pdb_module_data.specs.Forest.{Site}
use Rattle.pdb_module_data.specs.InlinedCalls.{IsNested, deepest_from, deepest, depth_over, calls_over}
use Rattle.pdb_module_data.proofs.ChainSteps.{depth_of, depth_at, calls_deep}
use Rattle.pdb_module_data.proofs.Deepest.{Best, best_is}

-- the depth that was found is that of the site that was found
depth_in : (rows : InlineSiteForm → List LineInfo) (sites : List Site) (place : PdbInternalSectionOffset) (found : Option (ℕ × ℕ)) → Best rows place 0 sites found
    → depth_at sites (option_map (λ (f : ℕ × ℕ). f.0) found) ≡ unwrap_or (option_map (λ (f : ℕ × ℕ). f.1) found) 0
depth_in rows sites place None b = refl
depth_in rows sites place (Some found) b =
    let e : found.0 ≡ b.index = omega arith in
    ap (λ n. depth_of (slice_get sites n)) e ∙ ap depth_of b.is ∙ b.deep

depth_is : (rows : InlineSiteForm → List LineInfo) (sites : List Site) (place : PdbInternalSectionOffset) → depth_at sites (deepest rows sites place) ≡ depth_over rows sites place
depth_is rows sites place = depth_in rows sites place (deepest_from rows place 0 sites) (best_is rows place 0 sites)

-- there are as many calls as the deepest site is deep
pub as_deep : (rows : InlineSiteForm → List LineInfo) (sites : List Site) (place : PdbInternalSectionOffset) → IsNested sites → length (calls_over rows sites place) ≡ depth_over rows sites place
as_deep rows sites place w = calls_deep rows place sites (deepest rows sites place) w ∙ depth_is rows sites place

-- the depth of the deepest site, by its number
pub depth_by_number : (rows : InlineSiteForm → List LineInfo) (sites : List Site) (place : PdbInternalSectionOffset) (number : ℕ) (site : Site) → deepest rows sites place ≡ Some number → slice_get sites number ≡ Some site → depth_over rows sites place ≡ site.depth
depth_by_number rows sites place number site e is = sym (depth_is rows sites place) ∙ ap (depth_at sites) e ∙ ap depth_of is
