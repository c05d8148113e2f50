use Rattle.std.proofs.Common.{◌≡◌, ◌++◌, drop}
use Rattle.pdb_addr2line.proofs.StartSteps.{public_addresses}
use Rattle.pdb_addr2line.proofs.function_starts.push_functions.Given as goal

-- the addresses so far, before the addresses of the entries that are left
abbrev pub invariant-loop-public : goal.invariant-loop-public
invariant-loop-public l = l.addresses.items ++ public_addresses l.address_map (drop l.public-index l.publics) ≡ l.fn.addresses.items ++ public_addresses l.address_map l.publics
