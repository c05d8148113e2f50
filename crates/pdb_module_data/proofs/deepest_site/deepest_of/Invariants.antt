use Rattle.std.proofs.Common.{◌≡◌, ◌≤◌, drop, length}
use Rattle.pdb_module_data.specs.BriefSites.{IfKept}
use Rattle.pdb_module_data.specs.InlinedCalls.{deepest_from}
use Rattle.pdb_module_data.proofs.deepest_site.deepest_of.Given as goal

-- so far the deepest of the sites from a number on was found
abbrev pub invariant-loop-number : goal.invariant-loop-number
invariant-loop-number l =
    record {
      within : l.number ≤ length l.sites;
      found : IfKept l.sites l.of_sites (λ lines whole. l.found ≡ deepest_from lines l.place l.number (drop l.number whole));
    }

abbrev pub decreases-loop-number : goal.decreases-loop-number
decreases-loop-number l = l.number
