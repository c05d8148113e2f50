use Rattle.pdb_addr2line.proofs.FileSteps.{context_asked}
use Rattle.pdb_llvm_symbolizer.proofs.loaded.FileAnswers.append_at.Goals as goal

-- the context that was asked is still one of the file
pub put_context-requires : goal.put_context-requires
put_context-requires g c = context_asked c.take_context.new.self c.in-Some.context c.append-appended.new.context c.append-appended.ensures c.in-Some.ensures.answers
