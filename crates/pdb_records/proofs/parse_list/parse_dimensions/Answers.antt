use Rattle.pdb_container.specs.Buffer.{rest}
use Rattle.pdb_records.specs.TypeRecords.{dimensions_at}
use Rattle.pdb_records.proofs.Dimensions.{dimensions_end}
use Rattle.pdb_records.proofs.parse_list.parse_dimensions.Goals as goal

pub returns-then-branch-eq0-clause-dimensions : goal.returns-then-branch-eq0-clause-dimensions
returns-then-branch-eq0-clause-dimensions c =
    rw c.in_ok-push.ensures.items (
    dimensions_end c.loop.dimensions.items c.len-count.result c.loop.counter (rest c.loop.buffer)
    (rest c.parse_dimension.new.buffer) (rest c.parse_u8.new.self)
    c.in_ok-parse_dimension.field-0 c.in_ok-parse_u8.field-0 c.in_ok-peek_u8.field-0
    (dimensions_at (rest c.args.buffer.now)) c.loop-test.true
    c.in_ok-parse_dimension.ensures c.in_ok-peek_u8.ensures c.if-branch-eq0.true
    c.in_ok-parse_u8.ensures.value.0 c.loop.invariant
    )
