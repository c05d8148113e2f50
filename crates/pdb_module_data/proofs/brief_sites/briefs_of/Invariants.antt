use Rattle.std.proofs.Common.{◌≡◌, ◌++◌, map, drop}
use Rattle.pdb_module_data.specs.BriefSites.{brief_of}
use Rattle.pdb_module_data.proofs.brief_sites.briefs_of.Given as goal

-- what is stored so far, before what is stored of the sites that are left
abbrev pub invariant-loop-site : goal.invariant-loop-site
invariant-loop-site l = l.briefs.items ++ map brief_of (drop l.site-index l.sites)
    ≡ map brief_of l.sites
