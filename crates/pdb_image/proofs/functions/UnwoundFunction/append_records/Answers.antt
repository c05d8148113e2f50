use Rattle.std.proofs.Common.{rules, codes, ◌≡◌, ℕ, ◌-◌, ◌++◌, List, ap, ◌∙◌}
use Rattle.std.specs.Prelude.{string_bytes, Ok, Err, OnOk, None}
use Rattle.pdb_image.specs.Records.{changes_of, records_of}
use Rattle.pdb_image.specs.Rules.{rule}
use Rattle.pdb_image.specs.Texts.{changes_text, hexadecimal, records_text, rules_text}
use Rattle.pdb_image.specs.declared.rules.Register.{Register}
use Rattle.pdb_image.proofs.Offsets.{records_appended}
use Rattle.pdb_image.proofs.functions.UnwoundFunction.append_records.Goals as goal

pub returns : goal.returns
returns c =
    let f = c.args.self.now in
    let old = string_bytes c.args.text.now in
    let one = string_bytes c.write.new.self in
    let two = string_bytes c.append_rules.new.text in
    let three = string_bytes c.append_all_changes.new.text in
    let long = ap (λ (n : ℕ). n - c.begin.result) c.end.ensures.end ∙ ap (λ (n : ℕ). f.end - n) c.begin.ensures in
    let named : List Register → List ℕ
    = λ (names : List Register). rules_text (changes_of (λ r. None) (rule c.rules_at-rules.result) names) in
    let head : one ≡ old ++ (codes "STACK CFI INIT " ++ (hexadecimal c.begin-begin.result ++ (codes " " ++ hexadecimal (c.end.result - c.begin.result))))
    = search rules in
    elim c.append_all_changes.result as (λ r. OnOk r (three ≡ two ++ changes_text f (f.end - f.begin - 1)) → OnOk r (three ≡ old ++ records_text (records_of f))) [
      | Ok x ↦ λ h. records_appended f c.begin-begin.result (c.end.result - c.begin.result) c.rules_at-rules.result
          old one two three c.begin-begin.ensures long c.rules_at-rules.ensures head
          (c.in_ok-append_rules.ensures ∙ ap (λ (names : List Register). one ++ named names) c.registers.ensures) h
      | Err e ↦ λ h. h
    ] c.append_all_changes.ensures
