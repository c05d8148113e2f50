use Rattle.std.proofs.Common.{◌∙◌}
use Rattle.pdb_addr2line.specs.FileAnswers.{FileAnswers}
use Rattle.pdb_addr2line.proofs.FileSteps.{renewed}
use Rattle.pdb_addr2line.proofs.file_symbolizer.FileSymbolizer.renew.Goals as goal

pub invariant_of-self-2 : goal.invariant_of-self-2
invariant_of-self-2 g c =
    let f : FileAnswers = record { views = c.self.inside.source.views; contents = c.self.inside.source.contents.numbers; order = c.self.inside.source.order; flags = c.self.inside.flags.bits; held = c.self.inside.held.now; context = c.self.inside.context } in
    renewed f c.in-Ok.modules.now c.in_ok-context.context c.self.invariant (λ known. c.in-Ok.ensures ∙ c.in_ok-modules.ensures known) c.in_ok-context.ensures.made
