use Rattle.pdb_symbol_records.specs.Kinds.{is_procedure, is_public}
use Rattle.pdb_listings.specs.Symbols.{kinds_left}
use Rattle.pdb_listings.proofs.KindCounts.{counted_all}
use Rattle.pdb_listings.proofs.symbol_counts.SymbolCounts.add.Goals as goal

pub returns-clause-procedures : goal.returns-clause-procedures
returns-clause-procedures c = counted_all is_procedure (kinds_left c.loop-kind.symbols) c.loop-kind.procedures _
    c.in_default.ensures c.loop-kind.invariant.few_procedures c.loop-kind.invariant.procedures

pub returns-clause-publics : goal.returns-clause-publics
returns-clause-publics c = counted_all is_public (kinds_left c.loop-kind.symbols) c.loop-kind.publics _
    c.in_default.ensures c.loop-kind.invariant.few_publics c.loop-kind.invariant.publics
