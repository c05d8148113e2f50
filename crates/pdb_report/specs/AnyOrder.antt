-- Loading faults that are for the order of section contributions.
use Rattle.std.specs.Prelude.{◌≡◌, Bool, true, false, Some}
use Rattle.pdb_loading.specs.Loading.{LoadingFault, Pdb, load_fault_with}
use Rattle.pdb_loading.specs.declared.order.ContributionOrder.{ContributionOrder}
use Rattle.pdb_symbols_modules.specs.Streams.{Streams}
use Rattle.pdb_resolving.specs.Fault.{UnorderedSectionContributions}

-- a file isn't loaded for the order of its section contributions
abbrev pub is_for_order : LoadingFault → Bool
is_for_order (Pdb (UnorderedSectionContributions m s)) = true
is_for_order e = false

-- A file has this loading fault where section contributions have to stand in this order.
abbrev pub HasFault : ContributionOrder → Streams → LoadingFault → Type 0
HasFault order s fault = load_fault_with order s ≡ Some fault
