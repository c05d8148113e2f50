use Rattle.std.proofs.Common.{◌≡◌, ◌++◌, drop}
use Rattle.std.specs.Prelude.{None}
use Rattle.pdb_symbol_files.specs.PieceRecords.{path_in, spans}
use Rattle.pdb_symbol_files.specs.Spans.{same_calls}
use Rattle.pdb_symbol_files.proofs.CommonPaths.{IsAfter}
use Rattle.pdb_symbol_files.proofs.inlines.stretches_of.Given as goal

abbrev pub invariant-loop-index : goal.invariant-loop-index
invariant-loop-index l = record {
  spans : (l.stretches).items
      ++ spans same_calls (path_in l.level) l.running (drop l.index l.pieces)
      ≡ spans same_calls (path_in l.level) None l.pieces;
  after : IsAfter l.level l.running (drop l.index l.pieces) (drop l.index l.commons);
}
