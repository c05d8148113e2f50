use Rattle.std.proofs.Common.{◌≡◌, ◌++◌, drop}
use Rattle.pdb_addr2line.proofs.StartSteps.{procedure_addresses}
use Rattle.pdb_addr2line.proofs.function_starts.push_procedures.Given as goal

-- the addresses so far, before the addresses of the procedures that are left
abbrev pub invariant-loop-procedure : goal.invariant-loop-procedure
invariant-loop-procedure l = l.addresses.items ++ procedure_addresses l.address_map (drop l.procedure-index l.procedures) ≡ l.fn.addresses.items ++ procedure_addresses l.address_map l.procedures
