use Rattle.std.proofs.Common.{◌≡◌, take, drop, ap, ◌∙◌, arith}
use Rattle.std.specs.Int.{from_le_bytes, w32}
use Rattle.std.proofs.lemmas.List.{take_min, drop_min}
use Rattle.msvc_demangler.specs.Characters.{written}
use Rattle.msvc_demangler.proofs.Strings.{one_joined, none_joined}
use Rattle.msvc_demangler.proofs.literals.push_joined.Goals as goal

pub loop-left-preserved : goal.loop-left-preserved
loop-left-preserved c =
    let rest = c.loop-left.rest.now in
    let size = c.args.size in
    let front : c.split_at.result.0.now ≡ take size rest = c.split_at.ensures.front
    ∙ ap (λ n. take n rest) c.min.ensures ∙ take_min size rest in
    let back : c.split_at.result.1.now ≡ drop size rest = c.split_at.ensures.back
    ∙ ap (λ n. drop n rest) c.min.ensures ∙ drop_min size rest in
    let is : c.value_of.result ≡ from_le_bytes w32 (take size rest) =
    c.value_of.ensures ∙ ap (from_le_bytes w32) front in
    let more = one_joined written size c.loop-left.left rest c.loop-left.text.items
    c.value_of.result _ (omega arith) is c.loop-left.invariant in
    let text = c.in_ok-push_character.ensures in
    cc

pub returns : goal.returns
returns c = none_joined written c.args.size c.loop-left.left c.loop-left.rest.now
    c.loop-left.text.items _ (omega arith) c.loop-left.invariant
