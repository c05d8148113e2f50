use Rattle.std.proofs.Common.{refl}
use Rattle.pdb_listings.proofs.owner_sizes.file_sizes.Goals as goal

pub returns-clause-each : goal.returns-clause-each
returns-clause-each g c = c.named_sizes.ensures.each refl

pub returns-clause-total : goal.returns-clause-total
returns-clause-total g c = c.named_sizes.ensures.total
