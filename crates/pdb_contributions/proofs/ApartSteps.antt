-- Going over contributions to find that none overlaps the one before it.
use Rattle.std.proofs.Common.{List, Option, None, Some, Result}
use Rattle.pdb_resolving.specs.Fault.{Fault}
use Rattle.pdb_contributions.specs.declared.contribution.ModuleSectionContribution.{
  ModuleSectionContribution,
}
use Rattle.pdb_contributions.specs.MergedContributions.{apart_behind, apart}

-- contributions after one that may be there are apart
abbrev pub apart_after : Option ModuleSectionContribution → List ModuleSectionContribution
    → Result (Unit {0}) Fault
apart_after None xs = apart xs
apart_after (Some c) xs = apart_behind c xs
