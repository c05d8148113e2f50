use Rattle.pdb_symbol_files.proofs.Writes.{more_out}
use Rattle.pdb_symbol_files.proofs.output.write_bytes.Goals as goal

pub loop-rest-preserved : goal.loop-rest-preserved
loop-rest-preserved g c =
    more_out _ _ _ _ _ c.in-Ok.count c.loop-rest.invariant c.in-Ok.ensures.bytes
