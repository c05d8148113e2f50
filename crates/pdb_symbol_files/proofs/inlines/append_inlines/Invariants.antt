use Rattle.std.proofs.Common.{◌≡◌, ◌++◌, ◌-◌, string_bytes}
use Rattle.std.specs.List.{flat_map}
use Rattle.pdb_symbol_files.specs.PieceRecords.{depth_of, level_records, numbers_after_inlines}
use Rattle.pdb_symbol_files.specs.PieceRecords.{numbers_after_levels}
use Rattle.pdb_symbol_files.specs.RecordTexts.{inline_text}
use Rattle.pdb_symbol_files.proofs.inlines.append_inlines.Given as goal

abbrev pub invariant-loop-level : goal.invariant-loop-level
invariant-loop-level l = record {
  given : numbers_after_levels l.numbers l.level (depth_of l.pieces - l.level) l.pieces
      ≡ numbers_after_inlines (l.initial).numbers l.pieces;
  written : string_bytes l.output
      ++ flat_map inline_text
      (level_records l.numbers l.level (depth_of l.pieces - l.level) l.pieces)
      ≡ string_bytes (l.initial).output
      ++ flat_map inline_text (level_records (l.initial).numbers 0 (depth_of l.pieces) l.pieces);
}
