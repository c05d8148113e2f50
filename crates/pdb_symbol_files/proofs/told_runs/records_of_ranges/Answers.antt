use Rattle.std.proofs.Common.{◌++◌, ◌-◌, ◌∙◌, List, ap, get_or, sym, subst, take, ℕ}
use Rattle.std.specs.Prelude.{Option}
use Rattle.pdb_symbol_files.specs.Code.{answers_along}
use Rattle.pdb_symbol_files.specs.PieceRecords.{AreOf}
use Rattle.pdb_symbol_files.specs.PlainAnswers.{ArePlainAnswers, IsPlainAnswer}
use Rattle.pdb_symbol_files.specs.Told.{Answer, Told}
use Rattle.pdb_symbol_files.proofs.PieceSteps.{few_ranges}
use Rattle.pdb_symbol_files.proofs.PlainRecords.{all_both}
use Rattle.pdb_symbol_files.specs.ToldRanges.{answers_of_ranges}
use Rattle.pdb_symbol_files.specs.declared.addresses.AddressRange.{AddressRange}
use Rattle.pdb_symbol_files.proofs.CodeRanges.{ranges_more}
use Rattle.pdb_symbol_files.proofs.told_runs.records_of_ranges.Goals as goal

pub loop-range-preserved : goal.loop-range-preserved
loop-range-preserved g c =
    let told : ℕ → Option Told = g.R.ToldRuns.told c.args.runs.now in
    let i = c.loop-range.invariant in
    let ranges = c.args.ranges.now in
    let index = c.loop-range.range-index in
    let none : AddressRange = record { start = 0; end = 0 } in
    let r = get_or ranges index none in
    let so_far = answers_of_ranges told (take index ranges) in
    record {
      grows = λ known. i.grows (c.add_range.ensures.grows known);
      same = c.add_range.ensures.same ∙ i.same;
      kept = c.add_range.ensures.file ∙ i.kept;
      of = λ known.
          subst (λ (xs : List Answer). AreOf c.add_range.new.records xs)
          (ap (λ (t : ℕ → Option Told). so_far ++ answers_along t r.start (r.end - r.start)) i.same
          ∙ sym (ranges_more told ranges index none c.loop-range-test.true))
          (c.in_ok-add_range.ensures.added known so_far
          (i.of (c.add_range.ensures.grows known)));
      plain = λ known.
          subst (λ (xs : List Answer). ArePlainAnswers xs)
          (ap (λ (t : ℕ → Option Told). so_far ++ answers_along t r.start (r.end - r.start)) i.same
          ∙ sym (ranges_more told ranges index none c.loop-range-test.true))
          (all_both IsPlainAnswer so_far
          (answers_along (g.R.ToldRuns.told c.loop-range.runs) r.start (r.end - r.start))
          (i.plain (c.add_range.ensures.grows known)) (c.in_ok-add_range.ensures.plain known));
      pieces = c.add_range.ensures.begins ∙ i.pieces;
      few = λ known. few_ranges (g.R.ToldRuns.begins c.args.runs.now)
          (g.R.ToldRuns.begins c.loop-range.runs) ranges index none
          (g.R.ToldRuns.lookups c.args.runs.now) (g.R.ToldRuns.lookups c.loop-range.runs)
          (g.R.ToldRuns.lookups c.add_range.new.runs) c.loop-range-test.true i.pieces
          (i.few (c.add_range.ensures.grows known)) (c.in_ok-add_range.ensures.lookups known);
    }
