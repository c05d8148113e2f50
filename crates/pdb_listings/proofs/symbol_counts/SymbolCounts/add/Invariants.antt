use Rattle.std.proofs.Common.{◌≡◌, ◌+◌, ◌-◌, ◌^◌, ◌<◌, length, min}
use Rattle.pdb_symbol_records.specs.Kinds.{is_procedure, is_public}
use Rattle.pdb_listings.specs.Symbols.{how_many, kinds_left}
use Rattle.pdb_listings.proofs.symbol_counts.SymbolCounts.add.Given as goal

-- the symbols so far, and those that are left, are all
abbrev pub invariant-loop-kind : goal.invariant-loop-kind
invariant-loop-kind l = record {
  procedures : min (2 ^ 64 - 1) (l.procedures + how_many is_procedure (kinds_left l.symbols))
      ≡ min (2 ^ 64 - 1) (l.fn.self.procedures + how_many is_procedure (kinds_left l.fn.symbols));
  publics : min (2 ^ 64 - 1) (l.publics + how_many is_public (kinds_left l.symbols))
      ≡ min (2 ^ 64 - 1) (l.fn.self.publics + how_many is_public (kinds_left l.fn.symbols));
  few_procedures : l.procedures < 2 ^ 64;
  few_publics : l.publics < 2 ^ 64;
}

-- the symbols that are left
abbrev pub decreases-loop-kind : goal.decreases-loop-kind
decreases-loop-kind l = length (kinds_left l.symbols)
