-- Functions of an image, and their order.
use Rattle.std.specs.Prelude.{ℕ, List, Option}
use Rattle.std.specs.declared.cmp.Ordering.{Ordering}
use Rattle.std.specs.Cmp.Lexicographic.{slice_cmp}
use Rattle.std.specs.Option.{option_cmp}
use Rattle.std.specs.Ordering.{nat_cmp, ordering_then}

-- the start and the end of a function, and its name
pub record Function : Type 0 where
  pub start_rva : ℕ
  pub end_rva : Option ℕ
  pub name : Option (List ℕ)

-- by start, end and name; a missing one comes first
abbrev pub function_cmp : Function → Function → Ordering
function_cmp a b =
    ordering_then (nat_cmp a.start_rva b.start_rva)
    (ordering_then (option_cmp nat_cmp a.end_rva b.end_rva)
    (option_cmp (slice_cmp nat_cmp) a.name b.name))
