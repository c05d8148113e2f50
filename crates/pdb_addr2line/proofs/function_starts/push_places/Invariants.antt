use Rattle.std.proofs.Common.{◌≡◌, ◌++◌, drop}
use Rattle.pdb_addr2line.specs.Starts.{addresses_of}
use Rattle.pdb_addr2line.proofs.function_starts.push_places.Given as goal

-- the addresses so far, before the addresses of the places that are left
abbrev pub invariant-loop-place : goal.invariant-loop-place
invariant-loop-place l = l.addresses.items ++ addresses_of l.address_map (drop l.place-index l.places) ≡ l.fn.addresses.items ++ addresses_of l.address_map l.places
