use Rattle.std.proofs.Common.{ℕ, ◌<◌, ◌≤◌, ◌∙◌, length, arith}
use Rattle.pdb_container.specs.Fault.{HasRisen}
use Rattle.pdb_symbols_modules.specs.Streams.{streams}
use Rattle.pdb_loading.proofs.KeptSteps.{infos_more, risen_between}
use Rattle.pdb_loading.proofs.module_infos.read_infos.Goals as goal

pub loop-entry-preserved : goal.loop-entry-preserved
loop-entry-preserved g c =
    let first : ℕ = g.S.Source.failures c.args.pdb.now in
    let old : ℕ = g.S.Source.failures c.loop-entry.pdb in
    let new : ℕ = g.S.Source.failures c.keep_info.new.pdb in
    let rises : old ≤ new = c.keep_info.ensures.counts in
    let within : c.loop-entry.entry-index < length c.args.entries.now = omega arith in
    let shared = (rw c.loop-entry.invariant.same at c.in_ok-keep_info.ensures.shared) first c.loop-entry.invariant.counts c.loop-entry.invariant.read in
    record {
      same = c.keep_info.ensures.same ∙ c.loop-entry.invariant.same;
      counts = omega (arith, c.loop-entry.invariant.counts);
      read = shared.others;
      kept = rw c.in_ok-push.ensures.items (infos_more (streams (g.S.Source.bytes c.args.pdb.now)) c.args.entries.now c.loop-entry.entry-index c.entry-item.result c.loop-entry.infos.items c.in_ok-keep_info.field-0
          (HasRisen first old) (HasRisen first new) within c.entry-item.is (risen_between first first old new (omega arith) rises) c.loop-entry.invariant.kept shared.own);
    }
