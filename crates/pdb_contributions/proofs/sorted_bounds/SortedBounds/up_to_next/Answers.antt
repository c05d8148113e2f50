use Rattle.std.proofs.Common.{ℕ, List, map, sym, ap, subst, ◌∙◌}
use Rattle.std.proofs.lemmas.List.{map-id}
use Rattle.pdb_addresses.specs.SectionRun.{up_to_next}
use Rattle.pdb_pieces.specs.Halving.{Ascend}
use Rattle.pdb_pieces.proofs.Next.{sorted_ascend}
use Rattle.pdb_contributions.specs.BoundNumbers.{bound_number}
use Rattle.pdb_contributions.proofs.sorted_bounds.SortedBounds.up_to_next.Goals as goal

pub to_next-requires : goal.to_next-requires
to_next-requires c =
    subst (λ (ns : List ℕ). Ascend 0 (map (λ n. n) ns)) (sym c.as_slice.ensures.value)
    (sorted_ascend c.self.inside.numbers.items c.self.invariant)

pub returns : goal.returns
returns c =
    let same = map-id c.as_slice.result.now ∙ c.as_slice.ensures.value ∙ c.self.view_is in
    let number = c.bound_number-number.ensures
    ∙ ap (bound_number c.args.place.section) c.from.ensures in
    c.to_next.ensures
    ∙ ap (λ (ns : List ℕ). up_to_next ns c.bound_number-number.result c.args.far) same
    ∙ ap (λ x. up_to_next c.args.self.now x c.args.far) number
