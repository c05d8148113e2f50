use Rattle.std.proofs.Common.{◌≡◌, ◌≤◌, ◌*◌, ◌^◌, take}
use Rattle.std.specs.Prelude.{Bool}
use Rattle.std.specs.List.{sum_by}
use Rattle.pdb_owners.specs.Table.{sum_of, sum_where}
use Rattle.pdb_listings.specs.Contributed.{contributed}
use Rattle.pdb_listings.specs.declared.modules.ModulePart.{ModulePart}
use Rattle.pdb_listings.proofs.modules.module_sizes.Given as goal

-- the table has the bytes of the contributions so far
abbrev pub invariant-loop-contribution : goal.invariant-loop-contribution
invariant-loop-contribution l = record {
  each : (test : ModulePart → Bool) → sum_where test l.table
      ≡ sum_by (contributed test) (take l.contribution-index l.contributions);
  total : sum_of l.table ≡ sum_by (λ c. c.size) (take l.contribution-index l.contributions);
  room : sum_of l.table ≤ l.contribution-index * 2 ^ 32;
}
