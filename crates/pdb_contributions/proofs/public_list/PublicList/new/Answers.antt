use Rattle.std.proofs.Common.{List, sym, ap, subst, ◌∙◌}
use Rattle.pdb_contributions.specs.Publics.{PublicFunction, missing, Rises}
use Rattle.pdb_contributions.proofs.Joined.{all_apart}
use Rattle.pdb_contributions.proofs.Lookup.{rises}
use Rattle.pdb_contributions.proofs.public_list.PublicList.new.Goals as goal

pub keep_missing-requires : goal.keep_missing-requires
keep_missing-requires c =
    subst Rises (sym (c.as_slice.ensures.value ∙ c.in_ok-sort_and_dedup.ensures))
    (rises c.push_section_ends.new.functions.items)

pub invariant_of-result : goal.invariant_of-result
invariant_of-result c =
    all_apart c.push_section_ends.new.functions.items c.sort_and_dedup.new.functions.items
    c.args.starts.items c.keep_missing.new.starts.items c.sort_and_dedup_starts.new.starts.items
    c.in_ok-sort_and_dedup.ensures
    (c.keep_missing.ensures ∙ ap (λ (xs : List PublicFunction). missing xs c.args.starts.items)
    c.as_slice.ensures.value) c.sort_and_dedup_starts.ensures
