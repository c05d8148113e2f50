use Rattle.std.proofs.Common.{◌≡◌, ◌+◌, ◌-◌, ◌≤◌}
use Rattle.pdb_container.specs.Buffer.{rest}
use Rattle.pdb_container_types.specs.Items.{item_number, items_from}
use Rattle.pdb_container_types.proofs.item_list.walk.Given as goal

-- the item is as many items on as are left to pass, and no more lengths were read than items passed
abbrev pub invariant-loop-passed : goal.invariant-loop-passed
invariant-loop-passed l =
    (item_number (items_from (l.first + l.passed) (rest l.buffer)) (l.skip - l.passed)
    ≡ item_number (items_from l.first l.bytes) l.skip) × (l.lengths ≤ l.passed)
