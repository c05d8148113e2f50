use Rattle.std.proofs.Common.{◌≡◌, ◌<◌, ◌∙◌, ap, length, subst, sym, get_or, ltb, ℕ}
use Rattle.std.specs.Prelude.{IfSome, Option}
use Rattle.pdb_symbol_files.specs.PieceRecords.{begun, ended, is_key, longer, path_in}
use Rattle.pdb_symbol_files.specs.Spans.{Path, Span, same_calls}
use Rattle.std.specs.Option.{option_or, option_to_list}
use Rattle.pdb_symbol_files.proofs.CommonPaths.{after_more, numbers_of_all, runs_on}
use Rattle.pdb_symbol_files.proofs.SpanSteps.{call_step}
use Rattle.pdb_symbol_files.proofs.inlines.stretches_of.Goals as goal

pub advanced-ended-requires : goal.advanced-ended-requires
advanced-ended-requires c =
    let pieces = c.args.pieces.now in
    let commons = c.args.commons.now in
    let i = c.loop-index.index in
    let lt : i < length commons
    = subst (λ (n : ℕ). i < n) (sym (ap length c.requires ∙ numbers_of_all _ pieces))
    c.loop-index-test.true in
    subst (λ (known : Option Path). IfSome c.loop-index.running
    (λ (s : Span Path). ltb c.args.level (get_or commons i 0) ≡ is_key same_calls s.key known))
    (sym c.path_of.ensures)
    (runs_on c.args.level pieces commons i c.index-pieces-index.result c.loop-index.running
    c.loop-index-test.true c.index-pieces-index.is lt c.loop-index.invariant.after)

pub loop-index-preserved : goal.loop-index-preserved
loop-index-preserved c =
    let pieces = c.args.pieces.now in
    let commons = c.args.commons.now in
    let i = c.loop-index.index in
    let p = c.index-pieces-index.result in
    let running = c.loop-index.running in
    let lt : i < length commons
    = subst (λ (n : ℕ). i < n) (sym (ap length c.requires ∙ numbers_of_all _ pieces))
    c.loop-index-test.true in
    let next : c.advanced-ended.result.1
    ≡ option_or (longer same_calls running p (path_in c.args.level p))
    (begun p (path_in c.args.level p))
    = c.advanced-ended.ensures.next
    ∙ ap (λ (known : Option Path). option_or (longer same_calls running p known) (begun p known))
    c.path_of.ensures in
    let first : option_to_list c.advanced-ended.result.0
    ≡ ended running (longer same_calls running p (path_in c.args.level p))
    = c.advanced-ended.ensures.ended
    ∙ ap (λ (known : Option Path). ended running (longer same_calls running p known))
    c.path_of.ensures in
    record {
      spans = call_step c.args.level pieces i p running c.advanced-ended.result.0
          c.advanced-ended.result.1 c.loop-index.stretches.items c.push_if_some.new.stretches.items _
          c.loop-index-test.true c.index-pieces-index.is first next c.in_ok-push_if_some.ensures
          c.loop-index.invariant.spans;
      after = after_more c.args.level pieces commons i p running c.advanced-ended.result.1
          c.loop-index-test.true c.index-pieces-index.is lt next c.loop-index.invariant.after;
    }
