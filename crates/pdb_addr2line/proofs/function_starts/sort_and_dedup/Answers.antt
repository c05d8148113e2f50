use Rattle.std.proofs.lemmas.List.Filters.{dedup_is}
use Rattle.pdb_addr2line.proofs.StartSteps.{ascending}
use Rattle.pdb_addr2line.proofs.function_starts.sort_and_dedup.Goals as goal

pub returns : goal.returns
returns c = ascending _ _ _ c.sort_unstable.ensures.permutation c.sort_unstable.ensures.sorted (dedup_is _ _ _ c.dedup.ensures.filtered)
