use Rattle.pdb_symbols.proofs.RenamedReads.{renamed_reads}
use Rattle.pdb_symbols.proofs.laws.renamed_reads.Goals as goal

pub returns : goal.returns
returns c = renamed_reads
