use Rattle.std.proofs.Common.{subst, sym}
use Rattle.pdb_addr2line.specs.FileAnswers.{FileAnswers, IsOfContents}
use Rattle.pdb_addr2line.specs.declared.file_symbolizer.FileSymbolizer.TheInside.{Inside}
use Rattle.pdb_addr2line.proofs.FileSteps.{asked}
use Rattle.pdb_addr2line.proofs.file_symbolizer.FileSymbolizer.find_held_frames.Goals as goal
use Rattle.pdb_addr2line.proofs.file_symbolizer.FileSymbolizer.find_held_frames.Goals.{in-Some, in-None}

pub invariant_of-self : goal.invariant_of-self
invariant_of-self g c =
    let f : FileAnswers = record { views = c.self.inside.source.views; contents = c.self.inside.source.contents.numbers; order = c.self.inside.source.order; flags = c.self.inside.flags.bits; held = c.self.inside.held.now; context = c.self.inside.context } in
    elim c.match-self.branch [
      | in-Some w ↦ subst (λ (i : Inside g.row.F.Denot). IsOfContents (record { views = i.source.views; contents = i.source.contents.numbers; order = i.source.order; flags = i.flags.bits; held = i.held.now; context = i.context }))
          (sym w.self-inside-is) (asked f w.in-Some.context w.find_frames.new.self w.in-Some.is w.find_frames.ensures.same c.self.invariant)
      | in-None w ↦ subst (λ (i : Inside g.row.F.Denot). IsOfContents (record { views = i.source.views; contents = i.source.contents.numbers; order = i.source.order; flags = i.flags.bits; held = i.held.now; context = i.context }))
          (sym w.self-inside-is) c.self.invariant
    ]
