use Rattle.std.proofs.Common.{◌≤◌, length}
use Rattle.pdb_names.specs.ByModule.{kept_at}
use Rattle.pdb_names.specs.CachedNames.{IsSameKept}
use Rattle.pdb_names.proofs.by_module.ByModule.make_maps.Given as goal

abbrev pub invariant-loop : goal.invariant-loop
invariant-loop g l =
    record {
      same : IsSameKept (kept_at l.fn.self) (kept_at l.self);
      reached : l.counter
          ≤ length l.self.modules.items;
    }
