use Rattle.std.proofs.Common.{◌≡◌, ◌≤◌, ◌*◌, ◌^◌, ℕ, take, drop, min, get_or}
use Rattle.std.specs.List.{sum_by}
use Rattle.pdb_container.specs.Container.{page_count}
use Rattle.pdb_container.specs.Directory.{starts_from}
use Rattle.pdb_container.proofs.directory.starts_of.Given as goal

abbrev pub invariant-loop-group : goal.invariant-loop-group
invariant-loop-group l = (l.starts.items ≡ starts_from l.page_size (drop 1 l.numbers) l.group)
    × (l.before ≡ sum_by (page_count l.page_size) (take (min (256 * l.group) l.count) (drop 1 l.numbers)))
    × (l.before ≤ min (256 * l.group) l.count * 2 ^ 32)
    × ((k : ℕ) → get_or l.starts.items k 0 ≤ 2 ^ 62)
