use Rattle.bstr.proofs.lemmas.LossyLemmas.{lossy_chars-utf8_lossy}
use Rattle.pdb_container.specs.RawString.{raw_bytes}
use Rattle.pdb_container.proofs.raw_string.RawStringDisplay.fmt.Goals as goal

pub returns-clause-writes : goal.returns-clause-writes
returns-clause-writes g c = rw (← lossy_chars-utf8_lossy (raw_bytes c.args.self.now), ← c.new.ensures) c.fmt.ensures.writes
