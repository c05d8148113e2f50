use Rattle.bstr.proofs.lemmas.LossyLemmas.{lossy_chars-utf8_lossy}
use Rattle.pdb_container.specs.RawString.{raw_bytes}
use Rattle.pdb_container.proofs.raw_string.RawString.to_string.Goals as goal

pub returns-clause-text : goal.returns-clause-text
returns-clause-text c = rw (← lossy_chars-utf8_lossy (raw_bytes c.args.self.now)) c.in_ok-to_str_lossy.ensures.text
