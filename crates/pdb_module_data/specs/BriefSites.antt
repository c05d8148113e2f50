-- The stored sites, once their rows were read.
use Rattle.std.specs.Prelude.{◌≡◌, List, [], Result, Ok, Err, map}
use Rattle.pdb_module_data.specs.Forest.{Site, SitesFault}
use Rattle.pdb_module_data.specs.InlinedCalls.{IsNested, RowsOfCalls}
use Rattle.pdb_module_data.specs.InlinePieces.{rows_of_sites, starts_of_sites}
use Rattle.pdb_module_data.specs.declared.brief_sites.BriefSite.{BriefSite}
use Rattle.pdb_module_data.specs.declared.site_rows.SiteRows.{SiteRows}

-- the stored site: the id of its function, the number of the site that it lies in, and its depth
abbrev pub brief_of : Site → BriefSite
brief_of s = record { inlinee = (s.call).inlinee; parent = s.parent; depth = s.depth }

-- a fact of sites and of the rows of calls, if these are the stored sites and rows
abbrev pub IfKept : List BriefSite → SiteRows → (RowsOfCalls → List Site → Type 0) → Type 0
IfKept briefs kept Fact =
    (sites : List Site) (lines : RowsOfCalls) → briefs ≡ map brief_of sites
    → kept.rows.items ≡ rows_of_sites lines sites → kept.starts.items ≡ starts_of_sites lines 0 sites
    → Fact lines sites

-- the stored sites of sites that lie in sites before them
pub record AreOfNested (briefs : List BriefSite) : Type 0 where
  pub sites : List Site
  pub nested : IsNested sites
  pub is : briefs ≡ map brief_of sites

-- the sites that were read; none where they can't be
abbrev pub sites_if_read : Result (List Site) SitesFault → List Site
sites_if_read (Ok sites) = sites
sites_if_read (Err e) = []
