use Rattle.pdb_addresses.proofs.LaidLemmas.{laid_end_to_end, runs_parted}
use Rattle.pdb_addresses.proofs.laws.ranges_laid_end_to_end.Goals as goal

pub returns-clause-one_by_one : goal.returns-clause-one_by_one
returns-clause-one_by_one c = laid_end_to_end

pub returns-clause-parted : goal.returns-clause-parted
returns-clause-parted c = runs_parted
