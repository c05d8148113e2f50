use Rattle.std.proofs.Common.{◌≡◌, ◌≤◌, ◌-◌, max, length, drop}
use Rattle.pdb_addr2line.specs.Context.{scope_in, uncounted}
use Rattle.pdb_addr2line.specs.FunctionList.{functions_at, RisesWithin}
use Rattle.pdb_addr2line.proofs.functions.next_function.Given as goal

-- the functions that are left are those that were, and the context is as it was but for its count
abbrev pub invariant-loop-next : goal.invariant-loop-next
invariant-loop-next g l =
    let parts = l.fn.context.parts in
    let scope = scope_in g.P.ModuleProvider.provided l.fn.context in
    record {
      same : uncounted l.context ≡ uncounted l.fn.context;
      left : functions_at parts scope (drop l.next l.starts) ≡ functions_at parts scope (drop l.fn.next l.starts);
      behind : l.fn.next ≤ l.next;
      within : l.next ≤ max l.fn.next (length l.starts);
      lookups : RisesWithin (l.next - l.fn.next) l.fn.context.lookups l.context.lookups;
    }

abbrev pub decreases-loop-next : goal.decreases-loop-next
decreases-loop-next g l = length l.starts - l.next
