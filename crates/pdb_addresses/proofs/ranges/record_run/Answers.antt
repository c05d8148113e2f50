use Rattle.std.proofs.Common.{◌-◌, ◌∙◌, arith, ap, subst, refl}
use Rattle.std.specs.Option.{unwrap_or}
use Rattle.pdb_addresses.specs.Cursor.{IsAt, sent_by_number}
use Rattle.pdb_addresses.specs.Omap.{records_of}
use Rattle.pdb_addresses.proofs.RecordRuns.{becomes_along, other_begins, record_end}
use Rattle.pdb_addresses.proofs.ranges.record_run.Goals as goal

pub returns-clause-some : goal.returns-clause-some
returns-clause-some c =
    let at = subst (λ a. IsAt (records_of c.args.omap) c.cursor_at-cursor.result.number a)
    c.cursor_at-cursor.ensures.address c.cursor_at-cursor.ensures.at in
    let ended = record_end (records_of c.args.omap) c.cursor_at-cursor.result.number c.args.address
    c.unwrap_or-stop.result c.args.end c.requires.order at c.cursor_at-cursor.ensures.number
    c.requires.some
    (c.unwrap_or-stop.ensures ∙ ap (λ o. unwrap_or o c.args.end) c.source_before.ensures) in
    let past = ended.past in omega (arith, past)

pub returns-clause-along : goal.returns-clause-along
returns-clause-along c = λ k lt.
    let at = subst (λ a. IsAt (records_of c.args.omap) c.cursor_at-cursor.result.number a)
    c.cursor_at-cursor.ensures.address c.cursor_at-cursor.ensures.at in
    let ended = record_end (records_of c.args.omap) c.cursor_at-cursor.result.number c.args.address
    c.unwrap_or-stop.result c.args.end c.requires.order at c.cursor_at-cursor.ensures.number
    c.requires.some
    (c.unwrap_or-stop.ensures ∙ ap (λ o. unwrap_or o c.args.end) c.source_before.ensures) in
    let low = c.ranges.end.fits in
    becomes_along (records_of c.args.omap) c.cursor_at-cursor.result.number c.args.address
    c.unwrap_or-stop.result c.args.end k c.sent.result at c.cursor_at-cursor.ensures.number ended
    (omega (arith, low))
    (c.sent.ensures
    ∙ ap (sent_by_number (records_of c.args.omap) c.cursor_at-cursor.result.number)
    c.cursor_at-cursor.ensures.address) lt

pub returns-clause-ends : goal.returns-clause-ends
returns-clause-ends c = λ lt.
    let at = subst (λ a. IsAt (records_of c.args.omap) c.cursor_at-cursor.result.number a)
    c.cursor_at-cursor.ensures.address c.cursor_at-cursor.ensures.at in
    let ended = record_end (records_of c.args.omap) c.cursor_at-cursor.result.number c.args.address
    c.unwrap_or-stop.result c.args.end c.requires.order at c.cursor_at-cursor.ensures.number
    c.requires.some
    (c.unwrap_or-stop.ensures ∙ ap (λ o. unwrap_or o c.args.end) c.source_before.ensures) in
    other_begins (records_of c.args.omap) c.args.address c.unwrap_or-stop.result
    (c.unwrap_or-stop.result - c.args.address) c.args.end ended refl lt
