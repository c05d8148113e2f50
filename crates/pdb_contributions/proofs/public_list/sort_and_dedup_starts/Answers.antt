use Rattle.std.proofs.Common.{rules}
use Rattle.std.proofs.lemmas.Fn.{dedup_same}
use Rattle.std.proofs.lemmas.List.Sorted.{answers_always}
use Rattle.pdb_contributions.proofs.Firsts.{same}
use Rattle.pdb_contributions.proofs.StartOrder.{key, by_place, alike, places_once}
use Rattle.pdb_contributions.proofs.public_list.sort_and_dedup_starts.Goals as goal

pub returns : goal.returns
returns c =
    places_once _ c.sort_unstable_by_key.new.self.items _
    c.sort_unstable_by_key.ensures.permutation
    (c.sort_unstable_by_key.ensures.sorted key (answers_always _ _ _ (λ f a r g h. search rules)))
    (dedup_same _ (same by_place alike) _ (λ x y b f' x' y' k. search rules) _ _
    c.dedup_by_key.ensures.filtered)
