use Rattle.std.proofs.Common.{◌≡◌, ◌≤◌}
use Rattle.pdb_module_items.specs.Sizes.{first_definition, records_from, definition_behind}
use Rattle.pdb_module_items.proofs.definitions.definition_behind.Given as goal

abbrev pub invariant-loop-number : goal.invariant-loop-number
invariant-loop-number l =
    (l.types ≡ l.fn.types) × (l.types.minimum ≤ l.number) × (l.maximum ≡ l.types.maximum)
    × (first_definition l.wanted l.number (records_from l.types l.number)
    ≡ definition_behind l.fn.types l.index l.wanted)
