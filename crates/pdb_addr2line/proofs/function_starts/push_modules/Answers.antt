use Rattle.std.proofs.Common.{◌<◌, ◌++◌, length, ap, arith}
use Rattle.pdb_frames.specs.Scopes.{scope_of, entries_of}
use Rattle.pdb_addr2line.proofs.StartSteps.{addresses_from, modules_more}
use Rattle.pdb_addr2line.proofs.function_starts.push_modules.Goals as goal

pub loop-module_index-preserved : goal.loop-module_index-preserved
loop-module_index-preserved g c =
    let listed = ap length c.modules-module_index-end.ensures in
    let within : c.loop-module_index.module_index < length (entries_of c.args.namer.now) = omega (arith, listed, c.loop-module_index-test.true) in
    modules_more c.args.address_map.now (scope_of g.P.ModuleProvider.provided c.args.provider.now c.args.namer.now) c.loop-module_index.addresses.items c.push_module.new.addresses.items
    (c.args.addresses.now.items ++ addresses_from c.args.address_map.now (scope_of g.P.ModuleProvider.provided c.args.provider.now c.args.namer.now) 0 (entries_of c.args.namer.now))
    (entries_of c.args.namer.now) c.loop-module_index.module_index within c.in_ok-push_module.ensures c.loop-module_index.invariant
