use Rattle.std.proofs.Common.{◌≡◌, ◌≤◌, length, vec_len, arith, ap, sym, ◌∙◌}
use Rattle.std.proofs.KnownBytes.{Consumes-more}
use Rattle.std.proofs.Transfers.{starts_with_length}
use Rattle.pdb_container.specs.Container.{pages_end as end_in}
use Rattle.pdb_loading.proofs.Consumed.{on_ok, same_end, before_end, at_most_end}
use Rattle.pdb_loading.proofs.file_read.read_container.Goals as goal

pub returns-clause-taken : goal.returns-clause-taken
returns-clause-taken g c = on_ok c.read_on-2.result _ _ c.read_on-2.ensures.taken
    (λ second. Consumes-more _ _ _ c.args.bytes.now.items c.read_on.new.bytes.items c.read_on-2.new.bytes.items c.read_on.ensures.begun c.read_on-2.ensures.begun c.in_ok-read_on.ensures.taken second)

pub returns-clause-end : goal.returns-clause-end
returns-clause-end g c =
    let whole = c.read_on-2.new.bytes in
    let begun = c.read_on.new.bytes in
    let long : 4096 ≤ length begun.items = omega (arith, c.if-len-lt-HEADER_VIEW.false, c.len.ensures, begun.ok.0) in
    let more : length begun.items ≤ vec_len whole = omega (arith, starts_with_length whole.items begun.items c.read_on-2.ensures.begun, whole.ok.0) in
    let same : end_in whole.items ≡ c.pages_end-end.result = same_end begun.items whole.items c.read_on-2.ensures.begun long ∙ sym (c.pages_end-end.ensures ∙ ap end_in c.deref.ensures.value) in
    on_ok c.read_on-2.result _ _ c.read_on-2.ensures.end (λ at_end lt. at_end (before_end (vec_len whole) (length begun.items) c.pages_end-end.result (end_in whole.items) long more same lt))

pub returns-clause-bound : goal.returns-clause-bound
returns-clause-bound g c =
    let whole = c.read_on-2.new.bytes in
    let begun = c.read_on.new.bytes in
    let long : 4096 ≤ length begun.items = omega (arith, c.if-len-lt-HEADER_VIEW.false, c.len.ensures, begun.ok.0) in
    let short : vec_len begun ≤ 4096 = omega (arith, c.read_on.ensures.bound, c.requires) in
    let same : end_in whole.items ≡ c.pages_end-end.result = same_end begun.items whole.items c.read_on-2.ensures.begun long ∙ sym (c.pages_end-end.ensures ∙ ap end_in c.deref.ensures.value) in
    on_ok c.read_on-2.result _ _ c.read_on-2.ensures.taken (λ ok. at_most_end (vec_len whole) (vec_len begun) c.pages_end-end.result (end_in whole.items) short same c.read_on-2.ensures.bound)
