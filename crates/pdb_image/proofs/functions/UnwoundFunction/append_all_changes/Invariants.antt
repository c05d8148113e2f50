use Rattle.std.proofs.Common.{◌≡◌, ◌++◌, ◌-◌, string_bytes}
use Rattle.pdb_image.specs.Rules.{rules_at}
use Rattle.pdb_image.specs.Texts.{changes_text}
use Rattle.pdb_image.proofs.functions.UnwoundFunction.append_all_changes.Given as goal

-- the changes before this offset are appended
abbrev pub invariant-loop-offset : goal.invariant-loop-offset
invariant-loop-offset l = record {
  text : string_bytes l.text ≡ string_bytes l.initial.text ++ changes_text l.self (l.offset - 1);
  rules : l.rules ≡ rules_at l.self.codes (l.offset - 1);
}
