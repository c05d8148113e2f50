use Rattle.std.proofs.Common.{◌∙◌, ap, sym}
use Rattle.pdb_addr2line.specs.FileAnswers.{FileAnswers}
use Rattle.pdb_addr2line.proofs.FileSteps.{context_asked}
use Rattle.pdb_symbols.proofs.ToldSteps.{counted_by}
use Rattle.pdb_symbols.proofs.file_told.told_held.Goals as goal

pub put_context-requires : goal.put_context-requires
put_context-requires g c =
    context_asked c.take_context.new.self c.in-Some.context c.told_at_place-run.new.context
    c.told_at_place-run.ensures.same c.in-Some.ensures.answers

pub returns-clause-counted : goal.returns-clause-counted
returns-clause-counted g c =
    counted_by c.told_at_place-run.result _ _ c.in-Some.context c.told_at_place-run.new.context _ _
    (sym c.take_context.ensures.context ∙ c.in-Some.is)
    (ap (λ (f : FileAnswers). f.context) c.put_context.ensures)
    c.told_at_place-run.ensures.counted
