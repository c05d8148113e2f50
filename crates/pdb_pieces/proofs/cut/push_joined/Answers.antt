use Rattle.std.proofs.Common.{◌≡◌, ◌++◌, [], ◌∷◌, ap, ◌∙◌, sym, subst, arith}
use Rattle.pdb_pieces.specs.Spans.{AreWide, best, better, mark_over}
use Rattle.pdb_pieces.proofs.Runs.{AreWide-push, AreWide-front, AreWide-last, best-push, joined_law}
use Rattle.pdb_pieces.proofs.Runs.{same_mark}
use Rattle.pdb_pieces.proofs.cut.push_joined.Goals as goal

pub returns-in_ok-push-in-Some-clause-wide : goal.returns-in_ok-push-in-Some-clause-wide
returns-in_ok-push-in-Some-clause-wide c =
    let front = c.pop.new.self.items in
    let last = c.in-Some.last in
    let old : c.args.spans.now.items ≡ front ++ last ∷ [] = c.in-Some.ensures.items in
    let all = subst AreWide old c.requires.all_wide in
    let wide = AreWide-last front last all in
    subst AreWide (sym c.in_ok-push-in-Some.ensures.items)
    (AreWide-push front _ (AreWide-front front last all)
    (omega (arith, wide, c.requires.wide, c.if-last-span.true)))

pub returns-in_ok-push-in-Some-clause-best : goal.returns-in_ok-push-in-Some-clause-best
returns-in_ok-push-in-Some-clause-best c p =
    let front = c.pop.new.self.items in
    let last = c.in-Some.last in
    let old : c.args.spans.now.items ≡ front ++ last ∷ [] = c.in-Some.ensures.items in
    let wide = AreWide-last front last (subst AreWide old c.requires.all_wide) in
    ap (λ ys. best ys p) c.in_ok-push-in-Some.ensures.items
    ∙ joined_law front last c.args.span p wide c.requires.wide c.if-last-span.true
    (same_mark last.mark (c.args.span).mark c.if-eq.ensures)
    ∙ ap (λ ys. better (best ys p) (mark_over c.args.span p)) (sym old)

pub returns-in_ok-push-in-Some-3-clause-wide : goal.returns-in_ok-push-in-Some-3-clause-wide
returns-in_ok-push-in-Some-3-clause-wide c =
    let old : c.args.spans.now.items ≡ c.pop.new.self.items ++ c.in-Some.last ∷ [] =
    c.in-Some.ensures.items in
    let back = c.in_ok-push-in-Some-2.ensures.items ∙ sym old in
    let new = c.in_ok-push-in-Some-3.ensures.items ∙ ap (λ ys. ys ++ c.args.span ∷ []) back in
    subst AreWide (sym new)
    (AreWide-push c.args.spans.now.items c.args.span c.requires.all_wide c.requires.wide)

pub returns-in_ok-push-in-Some-3-clause-best : goal.returns-in_ok-push-in-Some-3-clause-best
returns-in_ok-push-in-Some-3-clause-best c p =
    let old : c.args.spans.now.items ≡ c.pop.new.self.items ++ c.in-Some.last ∷ [] =
    c.in-Some.ensures.items in
    let back = c.in_ok-push-in-Some-2.ensures.items ∙ sym old in
    let new = c.in_ok-push-in-Some-3.ensures.items ∙ ap (λ ys. ys ++ c.args.span ∷ []) back in
    ap (λ ys. best ys p) new ∙ best-push c.args.spans.now.items c.args.span p
