use Rattle.std.proofs.Common.{◌≡◌, ◌++◌, take, string_bytes}
use Rattle.std.specs.Prelude.{None}
use Rattle.std.specs.List.{flat_map}
use Rattle.pdb_image.specs.Rules.{rule}
use Rattle.pdb_image.specs.Records.{changes_of}
use Rattle.pdb_image.specs.Texts.{rule_text}
use Rattle.pdb_image.proofs.records.append_rules.Given as goal

-- the rules before this one are appended
abbrev pub invariant-loop-name : goal.invariant-loop-name
invariant-loop-name l = string_bytes l.text ≡ string_bytes l.initial.text
    ++ flat_map rule_text (changes_of (λ r. None) (rule l.rules) (take l.name-index l.names))
