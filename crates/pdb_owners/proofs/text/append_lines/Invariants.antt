use Rattle.std.proofs.Common.{◌≡◌, ◌++◌}
use Rattle.std.specs.List.{flat_map}
use Rattle.std.specs.String.{string_bytes}
use Rattle.pdb_owners.specs.Texts.{size_text}
use Rattle.pdb_owners.proofs.text.append_lines.Given as goal

-- the text and the lines of what is left are the whole
abbrev pub invariant-loop-function : goal.invariant-loop-function
invariant-loop-function l = string_bytes l.text ++ flat_map size_text l.function-iterator ≡ string_bytes l.fn.text ++ flat_map size_text l.numbers.entries
