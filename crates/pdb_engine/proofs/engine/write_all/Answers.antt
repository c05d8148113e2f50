use Rattle.std.proofs.Common.{rules}
use Rattle.pdb_engine.proofs.Writes.{more_out}
use Rattle.pdb_engine.proofs.engine.write_all.Goals as goal

pub loop-rest-preserved : goal.loop-rest-preserved
loop-rest-preserved g c = record {
  out = more_out _ _ _ _ _ c.in-Ok.count c.loop-rest.invariant.out c.in-Ok.ensures.bytes;
  quiet = search rules;
}
