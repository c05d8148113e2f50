use Rattle.std.proofs.Common.{arith, ◌≡◌, ◌-◌, ◌≤◌, sym, ap, ◌∙◌, false, eqb}
use Rattle.std.specs.List.{list_any}
use Rattle.std.specs.Prelude.{string_bytes}
use Rattle.pdb_image.specs.Rules.{last_offset}
use Rattle.pdb_image.specs.declared.code.UnwindCode.{UnwindCode}
use Rattle.pdb_image.proofs.Offsets.{any_above, offset_same, offsets_end, rules_same}
use Rattle.pdb_image.proofs.functions.UnwoundFunction.append_all_changes.Goals as goal

pub loop-offset-preserved-then-not-is_step_at : goal.loop-offset-preserved-then-not-is_step_at
loop-offset-preserved-then-not-is_step_at c =
    let f = c.args.self.now in
    let o = c.loop-offset.offset in
    let some = c.loop-offset.auto.offset in
    let none : false ≡ list_any (λ (x : UnwindCode). eqb x.offset o) f.codes
    = sym c.if-not-is_step_at.true ∙ c.is_step_at.ensures
    ∙ any_above o c.of-tail.result.begin c.codes-codes.result.now some c.of-tail.ensures.1
    ∙ ap (list_any (λ (x : UnwindCode). eqb x.offset o)) c.codes-codes.ensures.codes in
    record {
      text = offset_same f o (string_bytes c.args.text.now) (string_bytes c.loop-offset.text) some none
          c.loop-offset.invariant.text;
      rules = rules_same f o c.loop-offset.rules some none c.loop-offset.invariant.rules;
    }

pub returns : goal.returns
returns c =
    let f = c.args.self.now in
    let ends = c.end.ensures.end in
    let above = c.end.ensures.above in
    let begins = c.begin.ensures in
    let least = c.min-end.ensures in
    let past = c.loop-offset-test.false in
    let bound : c.loop-offset.offset ≤ c.min-end.result = c.loop-offset.auto.offset-end (omega arith) in
    offsets_end f c.last_offset.result c.loop-offset.offset (f.end - f.begin)
    (string_bytes c.args.text.now) (string_bytes c.loop-offset.text)
    (c.last_offset.ensures.last ∙ ap last_offset c.codes-codes.ensures.codes) c.loop-offset.auto.offset
    (omega arith) (omega arith) c.loop-offset.invariant.text
