use Rattle.std.proofs.Common.{◌≡◌, ◌++◌}
use Rattle.std.specs.List.{flat_map}
use Rattle.std.specs.String.{string_bytes}
use Rattle.pdb_owners.specs.Texts.{file_text}
use Rattle.pdb_owners.proofs.text.append_files.Given as goal

-- the text and the lines of what is left are the whole
abbrev pub invariant-loop-file : goal.invariant-loop-file
invariant-loop-file l = string_bytes l.text ++ flat_map file_text l.file-iterator ≡ string_bytes l.fn.text ++ flat_map file_text l.numbers.entries
