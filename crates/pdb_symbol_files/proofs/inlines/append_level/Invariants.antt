use Rattle.std.proofs.Common.{◌≡◌, ◌++◌, drop, string_bytes}
use Rattle.std.specs.List.{flat_map}
use Rattle.pdb_symbol_files.specs.PieceRecords.{inline_records, numbers_after}
use Rattle.pdb_symbol_files.specs.RecordTexts.{inline_text}
use Rattle.pdb_symbol_files.proofs.inlines.append_level.Given as goal

abbrev pub invariant-loop-stretch : goal.invariant-loop-stretch
invariant-loop-stretch l = record {
  given : numbers_after l.numbers (drop l.stretch-index l.stretch-items)
      ≡ numbers_after (l.initial).numbers l.stretch-items;
  written : string_bytes l.output
      ++ flat_map inline_text (inline_records l.numbers l.level (drop l.stretch-index l.stretch-items))
      ≡ string_bytes (l.initial).output
      ++ flat_map inline_text (inline_records (l.initial).numbers l.level l.stretch-items);
}
