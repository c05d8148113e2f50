use Rattle.std.proofs.Common.{◌≡◌, ◌++◌, drop}
use Rattle.pdb_frames.specs.Scopes.{scope_of, entries_of}
use Rattle.pdb_addr2line.proofs.StartSteps.{addresses_from}
use Rattle.pdb_addr2line.proofs.function_starts.push_modules.Given as goal

-- the addresses so far, before the addresses of the procedures of the modules that are left
abbrev pub invariant-loop-module_index : goal.invariant-loop-module_index
invariant-loop-module_index g l =
    let scope = scope_of g.P.ModuleProvider.provided l.provider l.namer in
    let entries = entries_of l.namer in
    l.addresses.items ++ addresses_from l.address_map scope l.module_index (drop l.module_index entries) ≡ l.fn.addresses.items ++ addresses_from l.address_map scope 0 entries
