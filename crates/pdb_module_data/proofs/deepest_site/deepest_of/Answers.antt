use Rattle.std.proofs.Common.{◌≡◌, ◌+◌, ◌-◌, drop, ap, ◌∙◌, arith}
use Rattle.pdb_module_data.specs.declared.brief_sites.BriefSite.{BriefSite}
use Rattle.pdb_module_data.specs.InlinedCalls.{deepest_from}
use Rattle.pdb_module_data.proofs.BriefSteps.{site_at}
use Rattle.pdb_module_data.proofs.KeptRows.{kept_at}
use Rattle.pdb_module_data.proofs.SitesGoneOver.{deepest_here}
use Rattle.pdb_module_data.proofs.deepest_site.deepest_of.Goals as goal

pub loop-number-preserved : goal.loop-number-preserved
loop-number-preserved c =
    let v = c.loop-number.invariant in
    let k = c.loop-number.number - 1 in
    let b = c.site_numbered-site.result in
    record {
      within = omega (arith, v.within);
      found = λ whole lines is same cut. (
          let g = site_at c.args.sites.now whole k b is c.site_numbered-site.ensures in
          let next : k + 1 ≡ c.loop-number.number = omega (arith, c.loop-number-test.true) in
          let after : c.loop-number.found ≡ deepest_from lines c.args.place (k + 1) (drop (k + 1) whole) = rw next (v.found whole lines is same cut) in
          let kept = kept_at c.args.of_sites.now.rows.items c.args.of_sites.now.starts.items whole lines k g.site same cut g.there in
          c.deeper_of-found.ensures ∙ deepest_here lines c.args.place whole k b.depth g.site c.rows_of-rows.result.now c.loop-number.found g.there (ap (λ (x : BriefSite). x.depth) g.is) (c.rows_of-rows.ensures ∙ kept) after);
    }
