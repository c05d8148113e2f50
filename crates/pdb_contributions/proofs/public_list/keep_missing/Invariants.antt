use Rattle.pdb_contributions.proofs.Missing.{AreKept}
use Rattle.pdb_contributions.proofs.public_list.keep_missing.Given as goal

-- the places that were kept, before those of the places that are left
abbrev pub invariant-loop-index : goal.invariant-loop-index
invariant-loop-index l = AreKept l.functions l.fn.starts.items l.starts.items l.kept l.index
