use Rattle.pdb_symbol_files.specs.Records.{symbol_records}
use Rattle.pdb_symbol_files.proofs.PlainRecords.{plain_records, text_roads}
use Rattle.pdb_symbol_files.proofs.ReadBack.{reads_back}
use Rattle.pdb_symbol_files.proofs.SameGroups.{two_roads}
use Rattle.pdb_symbol_files.proofs.laws.text_roads.Goals as goal

pub returns : goal.returns
returns c = λ answers ascending readable.
    text_roads answers (two_roads answers ascending)
    (reads_back (symbol_records answers) (plain_records answers readable))
