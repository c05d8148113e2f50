use Rattle.pdb_names.proofs.MapSteps.{map_keeps}
use Rattle.pdb_names.proofs.by_module.ByModule.insert.Goals as goal

pub returns-clause-kept : goal.returns-clause-kept
returns-clause-kept g c =
    let made = c.in_ok-make_maps.ensures in
    map_keeps c.args.self.now c.make_maps.new.self c.args.module_index c.from.result c.args.number
    c.args.value c.index_mut.result.now c.insert.new.self made.same c.from.ensures
    made.reached
    c.index_mut.ensures.value c.in_ok-insert.ensures.updates
