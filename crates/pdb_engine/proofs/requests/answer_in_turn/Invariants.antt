use Rattle.std.proofs.Common.{◌≡◌}
use Rattle.pdb_engine.specs.Requests.{lines_of, AreAnswered, HaveLast}
use Rattle.pdb_engine.proofs.requests.answer_in_turn.Given as goal

-- the lines stay, and what was made is right
abbrev pub invariant-loop-turn : goal.invariant-loop-turn
invariant-loop-turn g l =
    let text = g.A.Answers.text in
    let kept = g.A.Start.LineStart.kept in
    record {
      lines : lines_of kept l.requests.items ≡ lines_of kept l.fn.requests.items;
      answered : AreAnswered (g.A.Answers.known l.answers) kept (text l.fn.answers) l.texts.items l.requests.items;
      last : HaveLast l.fn.texts.items l.fn.requests.items → HaveLast l.texts.items l.requests.items;
      grows : g.A.Answers.known l.answers → g.A.Answers.known l.fn.answers;
      same : text l.answers ≡ text l.fn.answers;
      subject : g.A.Answers.subject l.answers ≡ g.A.Answers.subject l.fn.answers;
    }
