use Rattle.std.proofs.Common.{◌≡◌, subst, ◌∙◌}
use Rattle.pdb_addr2line.specs.Formatters.{formatting_of}
use Rattle.pdb_loading.specs.Held.{Held}
use Rattle.pdb_loading.specs.LoadedFile.{IsLoadedWith}
use Rattle.pdb_addr2line.specs.FileAnswers.{FileAnswers, IsKnown}
use Rattle.pdb_addr2line.proofs.FileSteps.{formatter_known}
use Rattle.pdb_addr2line.proofs.file_symbolizer.FileSymbolizer.type_formatter.Goals as goal

-- it is over the modules of what was read
pub returns-in-Ok-make_type_formatter_over-clause-formatter : goal.returns-in-Ok-make_type_formatter_over-clause-formatter
returns-in-Ok-make_type_formatter_over-clause-formatter g c =
    let f : FileAnswers = record { views = c.self.inside.source.views; contents = c.self.inside.source.contents.numbers; order = c.self.inside.source.order; flags = c.self.inside.flags.bits; held = c.self.inside.held.now; context = c.self.inside.context } in
    let formatter = c.in-Ok-make_type_formatter_over.formatter in
    subst (λ (s : FileAnswers). IsKnown s → (h : Held) × IsLoadedWith s.order s.contents h × (formatter ≡ formatting_of h c.args.flags.bits)) c.self.view_is
    (formatter_known f c.in-Ok-try_alloc.modules.now c.args.flags.bits formatter c.self.invariant (λ known. c.in-Ok-try_alloc.ensures ∙ c.in-Ok.ensures known) c.in-Ok-make_type_formatter_over.ensures.parts)
