use Rattle.std.proofs.Common.{◌++◌, ◌+◌, ◌-◌, ◌∙◌, Bool, List, ap, arith, subst}
use Rattle.std.proofs.Common.{sym, ℕ}
use Rattle.std.specs.Prelude.{Option}
use Rattle.std.proofs.lemmas.List.{append_assoc}
use Rattle.pdb_symbol_files.specs.Code.{answers_along}
use Rattle.pdb_symbol_files.specs.PieceRecords.{AreOf}
use Rattle.pdb_symbol_files.specs.PlainAnswers.{ArePlainAnswers, IsPlainAnswer}
use Rattle.pdb_symbol_files.specs.Told.{Answer, Told}
use Rattle.pdb_symbol_files.specs.ToldRanges.{begins_in}
use Rattle.pdb_symbol_files.proofs.PieceSteps.{few_more, passing_begins}
use Rattle.pdb_symbol_files.proofs.PlainAlong.{plain_along}
use Rattle.pdb_symbol_files.proofs.PlainRecords.{all_both}
use Rattle.pdb_symbol_files.proofs.ToldAlong.{along_more}
use Rattle.pdb_symbol_files.proofs.told_runs.add_range.Goals as goal

pub loop-address-preserved : goal.loop-address-preserved
loop-address-preserved g c =
    let told : ℕ → Option Told = g.R.ToldRuns.told c.args.runs.now in
    let i = c.loop-address.invariant in
    let start = c.args.range.start in
    let x = c.loop-address.address in
    let count = c.in_ok-run.run'.count in
    let within = c.in_ok-run.ensures.within in
    let begins : ℕ → Bool = g.R.ToldRuns.begins c.args.runs.now in
    record {
      low = omega (arith, i.low);
      high = omega (arith, i.high, i.low, within);
      grows = λ known. i.grows (c.told_run.ensures.grows known);
      same = c.told_run.ensures.same ∙ i.same;
      kept = c.told_run.ensures.file ∙ i.kept;
      added = λ known answers are.
          subst (λ (xs : List Answer). AreOf c.add_run.new.records xs)
          (append_assoc answers (answers_along told start (x - start)) (answers_along told x count)
          ∙ ap (λ (xs : List Answer). answers ++ xs) (sym (along_more told start x count i.low)))
          (c.in_ok-add_run.ensures told
          (λ a from below. ap (λ (t : ℕ → Option Told). t a) (sym i.same)
          ∙ c.in_ok-run.ensures.told known a from below)
          (answers ++ answers_along told start (x - start))
          (i.added (c.told_run.ensures.grows known) answers are));
      plain = λ known.
          subst (λ (xs : List Answer). ArePlainAnswers xs) (sym (along_more told start x count i.low))
          (all_both IsPlainAnswer (answers_along told start (x - start)) (answers_along told x count)
          (i.plain (c.told_run.ensures.grows known))
          (plain_along told c.in_ok-run.run'.told count x (omega (arith, within))
          (λ a from below. ap (λ (t : ℕ → Option Told). t a) (sym i.same)
          ∙ c.in_ok-run.ensures.told known a from below) c.in_ok-run.ensures.plain));
      pieces = c.told_run.ensures.begins ∙ i.pieces;
      next = λ known lt. passing_begins begins c.args.range (x + count)
          (ap (λ (f : ℕ → Bool). f (x + count)) (sym i.pieces) ∙ c.in_ok-run.ensures.ends known lt);
      few = λ known. few_more (begins_in begins c.args.range) start x count
          (g.R.ToldRuns.lookups c.args.runs.now) (g.R.ToldRuns.lookups c.loop-address.runs)
          (g.R.ToldRuns.lookups c.told_run.new.self) i.low c.in_ok-run.ensures.some
          (i.next (c.told_run.ensures.grows known) c.loop-address-test.true)
          (i.few (c.told_run.ensures.grows known)) c.in_ok-run.ensures.lookups;
    }
