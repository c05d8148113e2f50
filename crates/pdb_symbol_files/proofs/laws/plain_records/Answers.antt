use Rattle.pdb_symbol_files.specs.Records.{symbol_records}
use Rattle.pdb_symbol_files.proofs.PlainRecords.{plain_records}
use Rattle.pdb_symbol_files.proofs.ReadBack.{reads_back}
use Rattle.pdb_symbol_files.proofs.laws.plain_records.Goals as goal

pub returns-clause-plain : goal.returns-clause-plain
returns-clause-plain c = plain_records

pub returns-clause-back : goal.returns-clause-back
returns-clause-back c = λ answers readable.
    reads_back (symbol_records answers) (plain_records answers readable)
