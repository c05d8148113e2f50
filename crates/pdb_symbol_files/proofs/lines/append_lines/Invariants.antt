use Rattle.std.proofs.Common.{◌≡◌, ◌++◌, drop, string_bytes}
use Rattle.std.specs.List.{flat_map}
use Rattle.pdb_symbol_files.specs.PieceRecords.{files_after, line_records}
use Rattle.pdb_symbol_files.specs.RecordTexts.{line_text}
use Rattle.pdb_symbol_files.proofs.lines.append_lines.Given as goal

abbrev pub invariant-loop-stretch : goal.invariant-loop-stretch
invariant-loop-stretch l = record {
  numbers : files_after l.files (drop l.stretch-index l.stretch-items)
      ≡ files_after (l.initial).files l.stretch-items;
  written : string_bytes l.output
      ++ flat_map line_text (line_records l.files (drop l.stretch-index l.stretch-items))
      ≡ string_bytes (l.initial).output
      ++ flat_map line_text (line_records (l.initial).files l.stretch-items);
}
