use Rattle.std.proofs.Common.{◌≡◌, [], vec_len}
use Rattle.msvc_demangler.specs.Texts.{SameTasks, handed}
use Rattle.msvc_demangler.proofs.parser.Parser.take_over.Given as goal

-- what was read stays, and so do the tasks where nothing was planned
abbrev pub invariant-loop-task : goal.invariant-loop-task
invariant-loop-task l = record {
  tasks : l.fn.self.planned.items ≡ [] → SameTasks l.fn.self l.self;
  handed : handed l.self ≡ handed l.fn.self;
  texts : l.self.tree.texts.items ≡ l.fn.self.tree.texts.items;
}

abbrev pub decreases-loop-task : goal.decreases-loop-task
decreases-loop-task l = vec_len l.self.planned
