-- Parts of one kind that stand as failed: their numbers, the least first.
use Rattle.std.specs.Prelude.{ℕ, Bool, List}
use Rattle.std.specs.Ordering.{nat_cmp}
use Rattle.std.specs.List.{list_any}
use Rattle.std.specs.BTreeMap.{is_at}
use Rattle.std.specs.BTreeSet.{insert_key}

-- whether the part with that number stands as failed
abbrev pub stands : List ℕ → ℕ → Bool
stands failed number = list_any (is_at (nat_cmp number)) failed

-- the failed parts with one more, which may be among them already
abbrev pub with_part : List ℕ → ℕ → List ℕ
with_part failed number = insert_key nat_cmp failed number
