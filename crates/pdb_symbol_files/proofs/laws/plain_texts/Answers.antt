use Rattle.pdb_symbol_files.proofs.PlainTexts.{plain_texts}
use Rattle.pdb_symbol_files.proofs.laws.plain_texts.Goals as goal

pub returns : goal.returns
returns c = plain_texts
