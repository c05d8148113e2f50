use Rattle.std.proofs.Common.{rules}
use Rattle.std.proofs.lemmas.Fn.{dedup_same}
use Rattle.std.proofs.lemmas.List.Sorted.{answers_always}
use Rattle.pdb_contributions.proofs.Firsts.{same}
use Rattle.pdb_contributions.proofs.PublicOrder.{key, place_cmp, name_cmp, sorted_firsts}
use Rattle.pdb_contributions.proofs.public_list.sort_and_dedup.Goals as goal

pub returns : goal.returns
returns c =
    sorted_firsts _ c.sort_by_key.new.self.items _
    (c.in_ok-sort_by_key.ensures.sorted key (answers_always _ _ _ (λ f a r g h. search rules)))
    (c.sort_by_key.ensures.stable key (answers_always _ _ _ (λ f a r g h. search rules)))
    (dedup_same _ (same place_cmp name_cmp) _ (λ x y b f' x' y' k. search rules) _ _
    c.dedup_by_key.ensures.filtered)
