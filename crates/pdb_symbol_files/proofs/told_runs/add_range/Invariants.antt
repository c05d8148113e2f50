use Rattle.std.proofs.Common.{◌≡◌, ◌++◌, ◌+◌, ◌-◌, ◌*◌, ◌<◌, ◌≤◌, List, true}
use Rattle.pdb_owners.specs.Counts.{how_many}
use Rattle.pdb_symbol_files.specs.Code.{answers_along}
use Rattle.pdb_symbol_files.specs.PieceRecords.{AreOf}
use Rattle.pdb_symbol_files.specs.PlainAnswers.{ArePlainAnswers}
use Rattle.pdb_symbol_files.specs.Told.{Answer}
use Rattle.pdb_symbol_files.specs.ToldRanges.{begins_in}
use Rattle.pdb_symbol_files.proofs.told_runs.add_range.Given as goal

-- what is told of the addresses before this one was added, and a piece begins at this one
abbrev pub invariant-loop-address : goal.invariant-loop-address
invariant-loop-address g l =
    let known = g.R.ToldRuns.known in
    let told = g.R.ToldRuns.told in
    let begins = g.R.ToldRuns.begins in
    let lookups = g.R.ToldRuns.lookups in
    let start = l.range.start in
    record {
      low : start ≤ l.address;
      high : l.address - start ≤ l.range.end - start;
      grows : known l.runs → known l.fn.runs;
      same : told l.runs ≡ told l.fn.runs;
      kept : g.R.ToldRuns.file l.runs ≡ g.R.ToldRuns.file l.fn.runs;
      added : known l.runs → (answers : List Answer) → AreOf l.fn.records answers
          → AreOf l.records (answers ++ answers_along (told l.fn.runs) start (l.address - start));
      plain : known l.runs
          → ArePlainAnswers (answers_along (told l.fn.runs) start (l.address - start));
      pieces : begins l.runs ≡ begins l.fn.runs;
      next : known l.runs → l.address < l.range.end
          → begins_in (begins l.fn.runs) l.range l.address ≡ true;
      few : known l.runs → lookups l.runs ≤ lookups l.fn.runs
          + 2 * how_many (begins_in (begins l.fn.runs) l.range) start (l.address - start);
    }

abbrev pub decreases-loop-address : goal.decreases-loop-address
decreases-loop-address g l = l.range.end - l.address
