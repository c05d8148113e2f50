use Rattle.std.proofs.Common.{◌≡◌, Some, ap, ◌∙◌, refl}
use Rattle.std.specs.Prelude.{slice_get}
use Rattle.std.proofs.lemmas.Option.{slice_get_read}
use Rattle.pdb_module_data.specs.Forest.{Site}
use Rattle.pdb_module_data.proofs.KeptRows.{kept_at}
use Rattle.pdb_module_data.proofs.SitesGoneOver.{spans_more, short_more}
use Rattle.pdb_module_data.proofs.inline_ranges.spans_of.Goals as goal

pub loop-number-preserved : goal.loop-number-preserved
loop-number-preserved c = λ lines same cut. (
    let sites = c.args.sites.now in
    let k = c.loop-number.number in
    let site = c.index-sites-number.result in
    let there : slice_get sites k ≡ Some site = slice_get_read sites _ k site refl c.loop-number-test.true c.index-sites-number.is in
    let kept = c.rows_of_site-of_site.ensures ∙ kept_at c.args.rows.now c.args.starts.now sites lines k site same cut there in
    let v = c.loop-number.invariant lines same cut in
    (spans_more lines sites k _ site _ _ _ _ there (ap (λ (s : Site). s.depth) c.site.view_is) kept c.in_ok-push_spans.ensures.spans v.0, λ h. v.1 (short_more lines sites k site _ there kept c.in_ok-push_spans.ensures.short h)))
