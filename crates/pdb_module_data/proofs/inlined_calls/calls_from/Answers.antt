use Rattle.std.proofs.Common.{◌≡◌, ◌∷◌, [], ◌++◌, Some, sym, ap, ◌∙◌, arith}
use Rattle.std.specs.Prelude.{slice_get}
use Rattle.std.specs.List.{find, flat_map}
use Rattle.pdb_container.specs.declared.index.IdIndex.{IdIndex}
use Rattle.pdb_lines.specs.InlinedRows.{covers}
use Rattle.pdb_module_data.specs.declared.brief_sites.BriefSite.{BriefSite}
use Rattle.pdb_module_data.specs.InlinedCalls.{call_by, calls_of, chain, chain_at, has_length}
use Rattle.pdb_module_data.proofs.BriefSteps.{site_at, many_briefs, calls_next}
use Rattle.pdb_module_data.proofs.ChainSteps.{steps_of, chain_more, parent_in_range, parent_steps}
use Rattle.pdb_module_data.proofs.KeptRows.{call_kept, kept_at}
use Rattle.pdb_module_data.proofs.inlined_calls.calls_from.Goals as goal

pub loop-next-smaller : goal.loop-next-smaller
loop-next-smaller c =
    let w = c.requires.nested in
    let k = c.in-Some.k in
    let f = site_at c.args.sites.now w.sites k c.site_numbered-site.result w.is c.site_numbered-site.ensures in
    let parent : c.parent_of-next.result ≡ (f.site).parent = c.parent_of-next.ensures ∙ ap (λ (b : BriefSite). b.parent) f.is in
    omega (arith, ap steps_of c.in-Some.is, ap steps_of parent, parent_steps w.sites k f.site w.nested f.there)

pub loop-next-preserved : goal.loop-next-preserved
loop-next-preserved c =
    let v = c.loop-next.invariant in
    let sites = c.args.sites.now in
    let k = c.in-Some.k in
    let b = c.site_numbered-site.result in
    let w = c.requires.nested in
    let f = site_at sites w.sites k b w.is c.site_numbered-site.ensures in
    let parent : c.parent_of-next.result ≡ (f.site).parent = c.parent_of-next.ensures ∙ ap (λ (x : BriefSite). x.parent) f.is in
    record {
      in_range = λ j e. (
          let below = parent_in_range w.sites k j f.site w.nested f.there (sym parent ∙ e) in
          omega (arith, many_briefs sites w.sites w.is));
      rest = λ whole lines is same cut nested. (
          let g = site_at sites whole k b is c.site_numbered-site.ensures in
          let s = g.site in
          let next : c.parent_of-next.result ≡ s.parent = c.parent_of-next.ensures ∙ ap (λ (x : BriefSite). x.parent) g.is in
          let calls = calls_of lines c.args.place in
          let all = flat_map (λ n. calls (slice_get whole n)) (chain whole c.args.number) in
          let rest : c.loop-next.calls.items ++ flat_map (λ n. calls (slice_get whole n)) (chain_at whole (Some k)) ≡ all =
          ap (λ o. c.loop-next.calls.items ++ flat_map (λ n. calls (slice_get whole n)) (chain_at whole o)) (sym c.in-Some.is) ∙ v.rest whole lines is same cut nested in
          let kept = kept_at c.args.of_sites.now.rows.items c.args.of_sites.now.starts.items whole lines k s same cut g.there in
          let found = find (λ row. covers row c.args.place) (lines s.call) in
          let long = find has_length (lines s.call) in
          let call = c.call_over.ensures ∙ call_kept _ (lines s.call) _ c.args.place (c.rows_of-rows.ensures ∙ kept)
          ∙ ap (λ (i : IdIndex). call_by i found long) (ap (λ (x : BriefSite). x.inlinee) g.is) in
          let pushed = c.in_ok-push.ensures.items ∙ ap (λ x. c.loop-next.calls.items ++ x ∷ []) call in
          calls_next calls whole _ all _ s.parent next
          (ap (λ ys. ys ++ flat_map (λ n. calls (slice_get whole n)) (chain_at whole s.parent)) pushed ∙ chain_more calls whole k s c.loop-next.calls.items all nested g.there rest));
    }
