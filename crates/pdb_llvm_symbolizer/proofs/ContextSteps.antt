-- A context that was asked.
use Rattle.std.proofs.Common.{◌≡◌, ap}
use Rattle.pdb_addr2line.specs.Context.{Context, lasting, uncounted}

-- where its count alone changed, what lasts didn't
pub lasting_same : {P : Type 0} (c d : Context P) → uncounted d ≡ uncounted c → lasting d ≡ lasting c
lasting_same c d same = ap lasting same
