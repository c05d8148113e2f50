-- Subsections that were sorted stably are those in order.
use Rattle.std.proofs.Common.{◌≡◌, List}
use Rattle.std.specs.Prelude.{IsSorted}
use Rattle.std.specs.List.Sorted.{IsStable}
use Rattle.std.proofs.lemmas.Cmp.{nat_cmp_total, on_total}
use Rattle.pdb_addresses.specs.InOrder.{in_order}
use Rattle.pdb_addresses.proofs.Stable as stable
use Rattle.pdb_lines.specs.LinesSubsections.{LinesSubsection, rank, place_cmp}

pub is_in_order : (xs ys : List LinesSubsection) → IsSorted place_cmp ys
    → IsStable place_cmp xs ys → ys ≡ in_order place_cmp xs
is_in_order = stable.is_in_order place_cmp (on_total rank nat_cmp_total)
