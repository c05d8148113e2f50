use Rattle.std.proofs.Common.{◌≡◌, ◌++◌, drop, length, string_bytes, true}
use Rattle.std.specs.Str.{chars, encode_utf8_all}
use Rattle.pdb_symbol_files.specs.Texts.{clean}
use Rattle.pdb_symbol_files.proofs.texts.cleaned.Given as goal

abbrev pub invariant-loop-character : goal.invariant-loop-character
invariant-loop-character l =
    string_bytes l.made ++ encode_utf8_all (clean l.leading (drop (length l.yielded) (chars l.text)))
    ≡ encode_utf8_all (clean true (chars l.text))
