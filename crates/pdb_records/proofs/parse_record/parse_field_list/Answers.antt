use Rattle.std.proofs.Common.{rules, ◌≢◌, ◌-◌, [], ◌∷◌, map, length}
use Rattle.std.proofs.lemmas.List.{map-append}
use Rattle.std.proofs.lemmas.Result.{err_from_is_err_and}
use Rattle.pdb_container.specs.Buffer.{rest}
use Rattle.pdb_records.specs.Shapes.{plain_shape, field_form}
use Rattle.pdb_records.specs.TypeLeaves.{field_list_of}
use Rattle.pdb_records.proofs.FieldLists.{fields_more, fields_refused, fields_end, fields_done}
use Rattle.pdb_records.proofs.parse_record.parse_field_list.Goals as goal
use Rattle.pdb_records.proofs.parse_record.parse_field_list.Goals.{in-Field+in_ok-push-in-Field}
use Rattle.pdb_records.proofs.parse_record.parse_field_list.Goals.{in-Continuation, in-Padding}
use Rattle.pdb_records.proofs.parse_record.parse_field_list.Goals.{else-loop-test}
use Rattle.pdb_records.proofs.parse_record.parse_field_list.Goals.{then-loop-test+then-is_empty}

pub returns-in_err-field : goal.returns-in_err-field
returns-in_err-field c =
    let p = err_from_is_err_and c.from_residual.result c.from_residual.ensures.1 in
    let some : length (rest c.loop.buffer) ≢ 0 = search rules in
    rw (p.1, p.2) (
    fields_refused (map plain_shape c.loop.fields.items) c.loop.continuation c.len-count.result
    c.loop.counter (rest c.loop.buffer) c.in_err-field.field-0.0
    (field_list_of (rest c.args.buffer.now)) c.loop-test.true some c.in_err-field.ensures
    c.loop.invariant
    )

pub loop-preserved : goal.loop-preserved
loop-preserved c =
    let some : length (rest c.loop.buffer) ≢ 0 = search rules in
    let more = fields_more (map plain_shape c.loop.fields.items) c.loop.continuation
    c.len-count.result c.loop.counter (rest c.loop.buffer) (rest c.parse_field.new.buffer)
    (field_form c.in_ok-field.field-0) (field_list_of (rest c.args.buffer.now)) c.loop-test.true
    some c.in_ok-field.ensures c.loop.invariant in
    elim c.match-branch-2.branch [
      | in-Field+in_ok-push-in-Field w ↦
          rw (
            w.fields-is,
            w.continuation-is,
            w.in_ok-push-in-Field.ensures.items,
            map-append plain_shape c.loop.fields.items (w.in-Field.field ∷ []),
          )
          (rw w.in-Field.is at more)
      | in-Continuation w ↦ rw (w.fields-is, w.continuation-is) (rw w.in-Continuation.is at more)
      | in-Padding w ↦ rw (w.fields-is, w.continuation-is) (rw w.in-Padding.is at more)
    ]

pub returns : goal.returns
returns c =
    elim c.loop-test.branch [
      | else-loop-test w ↦ fields_done (map plain_shape c.loop.fields.items) c.loop.continuation
          c.len-count.result c.loop.counter (rest c.loop.buffer)
          (field_list_of (rest c.args.buffer.now)) w.loop-test.false c.loop.invariant
      | then-loop-test+then-is_empty w ↦
          fields_end (map plain_shape c.loop.fields.items) c.loop.continuation
          (c.len-count.result - c.loop.counter) (rest c.loop.buffer)
          (field_list_of (rest c.args.buffer.now)) (search rules) c.loop.invariant
    ]
