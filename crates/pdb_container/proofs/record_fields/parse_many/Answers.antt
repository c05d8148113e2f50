use Rattle.pdb_container.specs.Buffer.{rest}
use Rattle.pdb_container.specs.RecordFields.{many_at}
use Rattle.pdb_container.proofs.Many.{many_more}
use Rattle.pdb_container.proofs.record_fields.parse_many.Goals as goal

pub loop-preserved : goal.loop-preserved
loop-preserved g c =
    rw c.in_ok-push.ensures.items (
    many_more g.T.FromBuffer.read c.loop.values.items c.args.count c.loop.counter
    (rest c.loop.buffer) (rest c.parse.new.self) c.in_ok-parse.field-0
    (many_at g.T.FromBuffer.read c.args.count (rest c.args.buffer.now)) c.loop-test.true
    c.in_ok-parse.ensures.0 c.loop.invariant
    )
