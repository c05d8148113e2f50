use Rattle.std.proofs.Common.{◌≡◌, ◌-◌, ◌∷◌, length, reverse}
use Rattle.pdb_module_data.specs.Forest.{sites_from}
use Rattle.pdb_module_data.proofs.OpenBodies.{LeadsTo}
use Rattle.pdb_module_data.proofs.inline_sites.scan_sites.Given as goal

-- the sites that there will be, and over which bytes the iterator is
abbrev pub invariant-loop-below : goal.invariant-loop-below
invariant-loop-below l = record {
  reads : LeadsTo l.symbols (l.top ∷ reverse l.below.items) l.sites.items
      (sites_from l.fn.symbols.bytes l.limit l.fn.symbols.place);
  bytes : l.symbols.bytes ≡ l.fn.symbols.bytes;
}

abbrev pub decreases-loop-below : goal.decreases-loop-below
decreases-loop-below l = length l.symbols.bytes - l.symbols.place
