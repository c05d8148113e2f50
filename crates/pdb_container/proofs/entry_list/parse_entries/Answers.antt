use Rattle.std.proofs.Common.{rules}
use Rattle.pdb_container.proofs.Entries.{entries_more}
use Rattle.pdb_container.proofs.entry_list.parse_entries.Goals as goal

pub loop-preserved : goal.loop-preserved
loop-preserved g c =
    rw c.in_ok-push.ensures.items
    (entries_more g.T.FromBuffer.read c.loop.read.items _ c.loop.counter _ _ c.in_ok-parse.field-0 _ (search rules) (search rules) c.in_ok-parse.ensures.0 c.loop.invariant)
