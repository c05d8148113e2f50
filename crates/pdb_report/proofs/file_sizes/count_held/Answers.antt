use Rattle.std.proofs.Common.{sym, ap, subst, ◌∙◌}
use Rattle.std.specs.Prelude.{None, IfOk}
use Rattle.pdb_symbols_modules.specs.Streams.{streams}
use Rattle.pdb_addr2line.specs.FileAnswers.{FileAnswers, file_of}
use Rattle.pdb_report.specs.RangeReports.{IsCounted, counted_loaded}
use Rattle.pdb_report.proofs.FileLines.{answers_known, unasked_context}
use Rattle.pdb_report.proofs.RangeSteps.{counted_places}
use Rattle.pdb_report.proofs.file_sizes.count_held.Goals as goal

-- the context counts as the file does
pub returns-clause-counted : goal.returns-clause-counted
returns-clause-counted g c = λ known.
    let counted = g.A.Counted in
    let f : FileAnswers = c.take_context.new.self in
    let left = c.take_context.ensures.left in
    let answers = answers_known f c.in-Some.context (ap (λ (v : FileAnswers). v.flags) left ∙ c.requires.flags) c.in-Some.ensures.answers known in
    subst (λ (v : FileAnswers). IfOk c.count_text.result (IsCounted (counted_loaded g.A.Counted.kind (file_of v)) c.args.start c.args.end)) left
    (counted_places counted.kind None (file_of f) c.address_map.result.now (counted.keyed c.in-Some.context).places c.args.start c.args.end c.in-Some.context.lookups
    (c.address_map.ensures.map known) (g.met.A.Counted.of_file f.order (streams f.contents) c.in-Some.context answers)
    (unasked_context c.args.symbolizer.now c.in-Some.context (sym c.take_context.ensures.context ∙ c.in-Some.is) c.requires.unasked)
    c.count_text.result c.count_text.ensures)
