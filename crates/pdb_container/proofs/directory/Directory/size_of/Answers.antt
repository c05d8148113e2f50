use Rattle.std.proofs.Common.{arith, sym, ◌∙◌}
use Rattle.pdb_container.proofs.Starts.{place_none, place_uncounted, place_short, place_absent}
use Rattle.pdb_container.proofs.directory.Directory.size_of.Goals as goal

pub returns-then-len-eq0-clause-err : goal.returns-then-len-eq0-clause-err
returns-then-len-eq0-clause-err c = λ page_size used. place_none page_size used c.args.number c.args.self.now.numbers (omega arith)

pub returns-then-count-number-clause-err : goal.returns-then-count-number-clause-err
returns-then-count-number-clause-err c = λ page_size used. place_uncounted page_size used c.args.number c.args.self.now.numbers (omega arith) (omega arith)

pub returns-then-len-count-clause-err : goal.returns-then-len-count-clause-err
returns-then-len-count-clause-err c = λ page_size used. place_short page_size used c.args.number c.args.self.now.numbers (omega arith) (omega arith) (omega arith)

pub returns-then-size-clause-err : goal.returns-then-size-clause-err
returns-then-size-clause-err c = λ page_size used.
    place_absent page_size used c.args.number c.args.self.now.numbers (omega arith) (omega arith) (omega arith) (sym c.at-size.ensures ∙ c.if-size.true)
