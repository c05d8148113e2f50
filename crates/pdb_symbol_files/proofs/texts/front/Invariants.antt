use Rattle.std.proofs.Common.{◌≡◌, ◌++◌, ◌-◌, ◌≤◌, drop, length, string_bytes}
use Rattle.std.specs.Str.{chars, encode_utf8_all}
use Rattle.pdb_symbol_files.specs.Texts.{front}
use Rattle.pdb_symbol_files.proofs.texts.front.Given as goal

abbrev pub invariant-loop-character : goal.invariant-loop-character
invariant-loop-character l = record {
  within : length (string_bytes l.made) ≤ l.limit;
  so_far : string_bytes l.made
      ++ encode_utf8_all
      (front (l.limit - length (string_bytes l.made)) (drop (length l.yielded) (chars l.text)))
      ≡ encode_utf8_all (front l.limit (chars l.text));
}
