use Rattle.std.proofs.Common.{◌≡◌, ◌∙◌, List, ap, subst, ℕ}
use Rattle.std.specs.Prelude.{Option}
use Rattle.pdb_addresses.specs.declared.sections.ImageSectionHeader.{ImageSectionHeader}
use Rattle.pdb_symbol_files.specs.Code.{answers_of_code, AreAscending, HoldsCode}
use Rattle.pdb_symbol_files.specs.PieceRecords.{AreOf}
use Rattle.pdb_symbol_files.specs.PlainAnswers.{ArePlainAnswers}
use Rattle.pdb_symbol_files.specs.Told.{Answer, Told}
use Rattle.pdb_symbol_files.specs.ToldRanges.{answers_of_ranges}
use Rattle.pdb_symbol_files.specs.declared.addresses.AddressRange.{AddressRange}
use Rattle.pdb_symbol_files.proofs.CodeRanges.{code_told}
use Rattle.pdb_symbol_files.proofs.PieceSteps.{few_pieces}
use Rattle.pdb_symbol_files.proofs.PlainAlong.{code_back}
use Rattle.pdb_symbol_files.proofs.told_runs.append_functions.Goals as goal

-- what is told of ranges that hold the addresses at which code may run is what is told of these
of_code : (told now : ℕ → Option Told) (ranges seen : List AddressRange)
    (sections : List ImageSectionHeader) → now ≡ told → seen ≡ ranges → AreAscending 0 ranges
    → HoldsCode ranges sections → answers_of_ranges now seen ≡ answers_of_code sections told
of_code told now ranges seen sections same is are holds =
    ap (λ (t : ℕ → Option Told). answers_of_ranges t seen) same
    ∙ ap (answers_of_ranges told) is ∙ code_told told ranges sections are holds

pub returns-clause-numbers : goal.returns-clause-numbers
returns-clause-numbers g c =
    λ known.
    let told : ℕ → Option Told = g.R.ToldRuns.told c.args.runs.now in
    c.in_ok-finish.ensures.numbers (answers_of_code c.args.sections.now told)
    (subst (λ (xs : List Answer). AreOf c.in_ok-records.records xs)
    (of_code told (g.R.ToldRuns.told c.prepare.new.self)
    c.in_ok-ranges.ranges.items c.as_slice-2.result.now c.args.sections.now c.prepare.ensures.same
    c.as_slice-2.ensures.value c.in_ok-ranges.ensures.ascending c.in_ok-ranges.ensures.code)
    (c.in_ok-records.ensures.of known))

pub returns-clause-functions : goal.returns-clause-functions
returns-clause-functions g c =
    λ known.
    let told : ℕ → Option Told = g.R.ToldRuns.told c.args.runs.now in
    c.in_ok-finish.ensures.functions (answers_of_code c.args.sections.now told)
    (subst (λ (xs : List Answer). AreOf c.in_ok-records.records xs)
    (of_code told (g.R.ToldRuns.told c.prepare.new.self)
    c.in_ok-ranges.ranges.items c.as_slice-2.result.now c.args.sections.now c.prepare.ensures.same
    c.as_slice-2.ensures.value c.in_ok-ranges.ensures.ascending c.in_ok-ranges.ensures.code)
    (c.in_ok-records.ensures.of known))

pub returns-clause-back : goal.returns-clause-back
returns-clause-back g c =
    λ known.
    let told : ℕ → Option Told = g.R.ToldRuns.told c.args.runs.now in
    let same = of_code told (g.R.ToldRuns.told c.prepare.new.self)
    c.in_ok-ranges.ranges.items c.as_slice-2.result.now c.args.sections.now c.prepare.ensures.same
    c.as_slice-2.ensures.value c.in_ok-ranges.ensures.ascending c.in_ok-ranges.ensures.code in
    code_back c.args.sections.now told
    (subst (λ (xs : List Answer). ArePlainAnswers xs) same (c.in_ok-records.ensures.plain known))
    (c.in_ok-finish.ensures.few (answers_of_code c.args.sections.now told)
    (subst (λ (xs : List Answer). AreOf c.in_ok-records.records xs) same
    (c.in_ok-records.ensures.of known)))

pub returns-clause-lookups : goal.returns-clause-lookups
returns-clause-lookups g c =
    λ known.
    few_pieces c.args.sections.now (g.R.ToldRuns.begins c.args.runs.now)
    (g.R.ToldRuns.begins c.prepare.new.self) c.in_ok-ranges.ranges.items c.as_slice-2.result.now
    (g.R.ToldRuns.lookups c.args.runs.now) (g.R.ToldRuns.lookups c.prepare.new.self)
    (g.R.ToldRuns.lookups c.records_of_ranges.new.runs) c.prepare.ensures.begins
    c.as_slice-2.ensures.value c.in_ok-ranges.ensures.ascending c.in_ok-ranges.ensures.bounds
    c.in_ok-ranges.ensures.code c.prepare.ensures.lookups (c.in_ok-records.ensures.lookups known)
