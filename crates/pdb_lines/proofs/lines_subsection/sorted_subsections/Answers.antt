use Rattle.std.proofs.Common.{rules, refl}
use Rattle.std.proofs.lemmas.List.Sorted.{answers_always, IsNonDecreasingBy-from_sort_by_key}
use Rattle.pdb_lines.specs.LinesSubsections.{rank}
use Rattle.pdb_lines.proofs.Order.{is_in_order}
use Rattle.pdb_lines.proofs.lines_subsection.sorted_subsections.Goals as goal

pub returns-clause-value : goal.returns-clause-value
returns-clause-value c =
    let sorted = c.in_ok-sort_by_key.ensures.sorted rank
    (answers_always _ _ _ (λ f a r g h. search rules)) in
    let stable = c.sort_by_key.ensures.stable rank
    (answers_always _ _ _ (λ f a r g h. search rules)) in
    rw (
      c.in_ok-subsections.ensures,
      is_in_order c.in_ok-subsections.subsections.items
          c.sort_by_key.new.self.items sorted stable,
    ) refl

pub returns-clause-order : goal.returns-clause-order
returns-clause-order c = IsNonDecreasingBy-from_sort_by_key rank _
    c.in_ok-sort_by_key.ensures.sorted (λ a r q k. search rules)
