use Rattle.std.proofs.Common.{◌≡◌, ◌-◌}
use Rattle.pdb_module_items.specs.Reading.{parts_by}
use Rattle.pdb_module_items.specs.Sizes.{size_within, size_at}
use Rattle.pdb_module_items.proofs.item_reader.ItemReader.size.Given as goal

abbrev pub invariant-loop : goal.invariant-loop
invariant-loop g l =
    (l.self ≡ l.fn.self)
    × (size_within (parts_by g.P.ModuleProvider.provided l.self) l.module_index
    (1024 - l.counter) l.current.0
    ≡ size_at (parts_by g.P.ModuleProvider.provided l.fn.self) l.module_index (l.fn.index).0)
