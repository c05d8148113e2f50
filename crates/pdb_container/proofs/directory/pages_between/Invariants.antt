use Rattle.std.proofs.Common.{◌≡◌, ◌+◌, ◌-◌, ◌*◌, ◌≤◌, ◌^◌, take, drop}
use Rattle.std.specs.List.{sum_by}
use Rattle.pdb_container.specs.Container.{page_count}
use Rattle.pdb_container.proofs.directory.pages_between.Given as goal

abbrev pub invariant-loop-i : goal.invariant-loop-i
invariant-loop-i l = (sum_by (page_count l.page_size) (take l.from (drop 1 l.numbers)) + l.pages ≡ sum_by (page_count l.page_size) (take l.i (drop 1 l.numbers)))
    × (l.pages ≤ (l.i - l.from) * 2 ^ 32)
