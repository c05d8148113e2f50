use Rattle.std.proofs.Common.{◌≡◌, ◌+◌, ◌*◌, ◌≤◌, take}
use Rattle.pdb_symbol_files.specs.PieceRecords.{AreOf}
use Rattle.pdb_symbol_files.specs.PlainAnswers.{ArePlainAnswers}
use Rattle.pdb_symbol_files.specs.ToldRanges.{answers_of_ranges, pieces_of_ranges}
use Rattle.pdb_symbol_files.proofs.told_runs.records_of_ranges.Given as goal

-- the records are those of what is told of the ranges so far
abbrev pub invariant-loop-range : goal.invariant-loop-range
invariant-loop-range g l =
    let known = g.R.ToldRuns.known in
    let told = g.R.ToldRuns.told in
    let begins = g.R.ToldRuns.begins in
    let lookups = g.R.ToldRuns.lookups in
    record {
      grows : known l.runs → known l.fn.runs;
      same : told l.runs ≡ told l.fn.runs;
      kept : g.R.ToldRuns.file l.runs ≡ g.R.ToldRuns.file l.fn.runs;
      of : known l.runs
          → AreOf l.records (answers_of_ranges (told l.fn.runs) (take l.range-index l.ranges));
      plain : known l.runs
          → ArePlainAnswers (answers_of_ranges (told l.fn.runs) (take l.range-index l.ranges));
      pieces : begins l.runs ≡ begins l.fn.runs;
      few : known l.runs → lookups l.runs ≤ lookups l.fn.runs
          + 2 * pieces_of_ranges (begins l.fn.runs) (take l.range-index l.ranges);
    }
