use Rattle.std.proofs.Common.{ap, Ok, arith}
use Rattle.pdb_module_items.specs.Reading.{parts_by}
use Rattle.pdb_module_items.proofs.SizeSteps.{size_known}
use Rattle.pdb_module_items.proofs.item_reader.ItemReader.size.Goals as goal

pub returns-in-Bytes-clause-value : goal.returns-in-Bytes-clause-value
returns-in-Bytes-clause-value g c =
    let stated = rw c.in-Bytes.is at c.in_ok-size.ensures.size in
    ap Ok (size_known (parts_by g.P.ModuleProvider.provided c.loop.self) c.args.module_index
    c.loop.counter c.loop.current.0 c.in-Bytes.size _ (omega arith) stated c.loop.invariant.1)
