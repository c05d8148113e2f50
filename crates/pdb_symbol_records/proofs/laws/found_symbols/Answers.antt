use Rattle.pdb_symbol_records.proofs.Lists.{is_found}
use Rattle.pdb_symbol_records.proofs.laws.found_symbols.Goals as goal

pub returns : goal.returns
returns c = is_found
