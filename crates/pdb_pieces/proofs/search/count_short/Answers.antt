use Rattle.pdb_pieces.proofs.ShortSpanSteps.{short_split}
use Rattle.pdb_pieces.proofs.search.count_short.Goals as goal

pub returns-clause-begun : goal.returns-clause-begun
returns-clause-begun c = short_split c.args.spans.now c.args.place c.count_begun.result.0
    c.count_begun.ensures.begun
