-- What is stored of sites says what the sites say.
use Rattle.std.proofs.Common.{◌≡◌, ℕ, zero, suc, ◌<◌, List, [], ◌∷◌, ◌++◌, length, map, Option, Some, Ok, refl, sym, ap, ◌∙◌, arith}
use Rattle.std.specs.Prelude.{slice_get}
use Rattle.std.specs.List.{flat_map}
use Rattle.pdb_symbol_records.specs.Forms.{InlineSiteForm}
use Rattle.pdb_subsections.specs.declared.line_info.LineInfo.{LineInfo}
use Rattle.pdb_addresses.specs.declared.internal_section_offset.PdbInternalSectionOffset.{PdbInternalSectionOffset}
use Rattle.pdb_module_data.specs.declared.brief_sites.BriefSite.{BriefSite}
use Rattle.pdb_module_data.specs.declared.call_rows.CallRow.{CallRow}
use Rattle.pdb_module_data.specs.declared.inlined_calls.InlinedCall.{InlinedCall}
use Rattle.pdb_module_data.specs.BriefSites.{brief_of, sites_if_read}
use Rattle.pdb_module_data.specs.Forest.{Site, sites_of}
use Rattle.pdb_module_data.specs.InlinedCalls.{chain_at, deepest}
use Rattle.pdb_module_data.specs.InlinePieces.{rows_of_sites, starts_of_sites, AreCut}
use Rattle.pdb_module_data.proofs.Deepest.{deepest_within}
use Rattle.pdb_module_data.proofs.KeptRows.{are_cut}

-- a site of which something is stored
pub record IsSiteOf (sites : List Site) (k : ℕ) (b : BriefSite) : Type 0 where
  pub site : Site
  pub there : slice_get sites k ≡ Some site
  pub is : b ≡ brief_of site

stored_at : (sites : List Site) (k : ℕ) (b : BriefSite) → slice_get (map brief_of sites) k ≡ Some b → IsSiteOf sites k b
stored_at [] k b e = absurd (cc)
stored_at (s ∷ sites) zero b e = record { site = s; there = refl; is = cc }
stored_at (s ∷ sites) (suc k) b e = let found = stored_at sites k b e in record { site = found.site; there = found.there; is = found.is }

-- the site of a number, by what is stored of it
pub site_at : (briefs : List BriefSite) (sites : List Site) (k : ℕ) (b : BriefSite) → briefs ≡ map brief_of sites → slice_get briefs k ≡ Some b → IsSiteOf sites k b
site_at briefs sites k b is e = stored_at sites k b (sym (ap (λ (l : List BriefSite). slice_get l k) is) ∙ e)

many_stored : (sites : List Site) → length (map brief_of sites) ≡ length sites
many_stored [] = refl
many_stored (s ∷ sites) = ap suc (many_stored sites)

-- as much is stored as there are sites
pub many_briefs : (briefs : List BriefSite) (sites : List Site) → briefs ≡ map brief_of sites → length briefs ≡ length sites
many_briefs briefs sites is = ap (λ (l : List BriefSite). length l) is ∙ many_stored sites

-- something is stored of the deepest site
pub brief_within : (briefs : List BriefSite) (rows : InlineSiteForm → List LineInfo) (sites : List Site) (place : PdbInternalSectionOffset) (number : ℕ) → briefs ≡ map brief_of sites → deepest rows sites place ≡ Some number → number < length briefs
brief_within briefs rows sites place number is e = let w = deepest_within rows sites place number e in omega (arith, many_briefs briefs sites is)

-- rows are cut by sites as by what is stored of these
pub briefs_cut : (briefs : List BriefSite) (rows : List CallRow) (starts : List ℕ) (sites : List Site) (lines : InlineSiteForm → List LineInfo) → briefs ≡ map brief_of sites → rows ≡ rows_of_sites lines sites → starts ≡ starts_of_sites lines 0 sites
    → AreCut (length briefs) starts (length rows)
briefs_cut briefs rows starts sites lines is e f = rw (many_briefs briefs sites is) (are_cut rows starts sites lines e f)

-- the sites that were read, by the symbols over which an iterator still is
pub kept_read : (old new : List ℕ) (start first end last : ℕ) (sites : List Site) → sites_of old start end ≡ Ok sites → new ≡ old → first ≡ start → last ≡ end → sites ≡ sites_if_read (sites_of new first last)
kept_read old new start first end last sites e same at to =
    sym (ap (λ (bytes : List ℕ). sites_if_read (sites_of bytes first last)) same ∙ ap (λ n. sites_if_read (sites_of old n last)) at ∙ ap (λ n. sites_if_read (sites_of old start n)) to ∙ ap sites_if_read e)

-- calls by the site that is next, whichever way its number is given
pub calls_next : (calls : Option Site → List InlinedCall) (sites : List Site) (made all : List InlinedCall) (next parent : Option ℕ) → next ≡ parent
    → made ++ flat_map (λ n. calls (slice_get sites n)) (chain_at sites parent) ≡ all → made ++ flat_map (λ n. calls (slice_get sites n)) (chain_at sites next) ≡ all
calls_next calls sites made all next parent e h = ap (λ (o : Option ℕ). made ++ flat_map (λ n. calls (slice_get sites n)) (chain_at sites o)) e ∙ h
