use Rattle.std.proofs.Common.{◌≡◌, List, ℕ, ◌++◌, take}
use Rattle.std.specs.List.{flat_map}
use Rattle.std.specs.Io.KnownBytes.{Appends}
use Rattle.pdb_engine.specs.Requests.{lines_of}
use Rattle.pdb_engine.specs.Watched.{inner_of, IsQuiet}
use Rattle.pdb_engine.proofs.engine.write_answers.Given as goal

-- the answers to the lines so far are out, but for what is pending
abbrev pub invariant-loop-request : goal.invariant-loop-request
invariant-loop-request g l =
    let contents = g.W.Write.contents in
    let text = g.A.Answers.text in
    record {
      out : g.A.Answers.known l.answers → (out : List ℕ) × Appends (contents (inner_of l.fn.writer)) (contents (inner_of l.writer)) out × (flat_map (text l.fn.answers) (lines_of g.A.Start.LineStart.kept (take l.request-index l.requests)) ≡ out ++ l.pending.items);
      grows : g.A.Answers.known l.answers → g.A.Answers.known l.fn.answers;
      same : text l.answers ≡ text l.fn.answers;
      subject : g.A.Answers.subject l.answers ≡ g.A.Answers.subject l.fn.answers;
      quiet : IsQuiet l.fn.writer l.writer;
    }
