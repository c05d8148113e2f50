use Rattle.std.proofs.Common.{Ok, refl, sym, ap, ◌∙◌, arith}
use Rattle.pdb_resolving.specs.Fault.{Fails}
use Rattle.pdb_contributions.specs.MergedContributions.{held_of}
use Rattle.pdb_contributions.proofs.HeldSteps.{held_overlaps, held_apart}
use Rattle.pdb_contributions.proofs.holding.compute_section_contributions.Goals as goal

pub returns-in_err-check_apart : goal.returns-in_err-check_apart
returns-in_err-check_apart c =
    let fails : Fails c.in_err-check_apart.field-0.0
    (held_of c.args.sections.now c.args.debug_info.now.contributions) =
    held_overlaps _ _ _
    (record {
      contributions = c.held.inside.contributions.items;
      later_starts = c.held.inside.later_starts.items;
    })
    (record {
      contributions = c.sort_unstable.new.self.items;
      later_starts = c.held.inside.later_starts.items;
    }) _
    c.in_ok-entries.ensures (c.in_ok-held.ensures ∙ ap Ok (sym c.held.view_is)) refl
    c.sort_unstable.ensures.permutation c.sort_unstable.ensures.sorted
    (rw c.as_slice.ensures.value at c.in_err-check_apart.ensures.apart) in
    grind (arith, fails)

pub returns : goal.returns
returns c =
    held_apart _ _ _
    (record {
      contributions = c.held.inside.contributions.items;
      later_starts = c.held.inside.later_starts.items;
    })
    (record {
      contributions = c.sort_unstable.new.self.items;
      later_starts = c.held.inside.later_starts.items;
    }) _
    c.in_ok-entries.ensures (c.in_ok-held.ensures ∙ ap Ok (sym c.held.view_is)) refl
    c.sort_unstable.ensures.permutation c.sort_unstable.ensures.sorted
    (rw c.as_slice.ensures.value at c.in_ok-check_apart.ensures.apart)
