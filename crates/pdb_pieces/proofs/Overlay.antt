-- One step of an overlay, and its end.
use Rattle.std.proofs.Common.{◌≡◌, ℕ, ◌<◌, ◌≤◌, Option, Some, None, List, [], ◌∷◌, ◌++◌, sym, ap}
use Rattle.std.proofs.Common.{◌∙◌, arith, ⊎_elim}
use Rattle.std.proofs.lemmas.Bool.{cases_lt}
use Rattle.pdb_pieces.specs.declared.span.Mark.{Mark}
use Rattle.pdb_pieces.specs.declared.span.Span.{Span}
use Rattle.pdb_pieces.specs.Spans.{mark_over, better, best, ArePieces, StandsWith}
use Rattle.pdb_pieces.proofs.Covers.{best-append, best-after, better-none, mark_over-before}
use Rattle.pdb_pieces.proofs.Covers.{mark_over-within}

-- below the bound the list is at each place the better of the two
abbrev pub IsBetterBelow : List Span → List Span → List Span → ℕ → Type 0
IsBetterBelow done left right to = (p : ℕ) → p < to
    → best done p ≡ better (best left p) (best right p)

both : (left right : List Span) (p : ℕ) (a b : Option Mark) → best left p ≡ a → best right p ≡ b
    → better a b ≡ better (best left p) (best right p)
both left right p a b h k = cc

pub IsBetterBelow-push : (left right done : List Span) (from to u v : ℕ) (a b : Option Mark)
    (m : Mark) → ArePieces 0 from done → IsBetterBelow done left right from
    → StandsWith left from u a → StandsWith right from v b → to ≤ u → to ≤ v → better a b ≡ Some m
    → IsBetterBelow (done ++ record { start = from; end = to; mark = m } ∷ []) left right to
IsBetterBelow-push left right done from to u v a b m h law x y i j e p k =
    let s : Span = record { start = from; end = to; mark = m } in
    let split = best-append done (s ∷ []) p
    ∙ ap (better (best done p)) (better-none (mark_over s p)) in
    ⊎_elim
    (λ (l : p < from). split ∙ ap (better (best done p)) (mark_over-before s p l)
    ∙ better-none (best done p) ∙ law p l)
    (λ (l : from ≤ p). split ∙ ap (λ o. better o (mark_over s p)) (best-after 0 from done p h l)
    ∙ mark_over-within s p l k ∙ sym e
    ∙ both left right p a b (x p l (omega arith)) (y p l (omega arith)))
    (cases_lt p from)

pub IsBetterBelow-skip : (left right done : List Span) (from to u v : ℕ) (a b : Option Mark)
    → ArePieces 0 from done → IsBetterBelow done left right from → StandsWith left from u a
    → StandsWith right from v b → to ≤ u → to ≤ v → better a b ≡ None
    → IsBetterBelow done left right to
IsBetterBelow-skip left right done from to u v a b h law x y i j e p k =
    ⊎_elim
    (λ (l : p < from). law p l)
    (λ (l : from ≤ p). best-after 0 from done p h l ∙ sym e
    ∙ both left right p a b (x p l (omega arith)) (y p l (omega arith)))
    (cases_lt p from)

pub IsBetter-at_end : (left right done : List Span) (from high : ℕ) → ArePieces 0 from done
    → IsBetterBelow done left right from → ArePieces 0 high left → ArePieces 0 high right
    → high ≤ from → (p : ℕ) → best done p ≡ better (best left p) (best right p)
IsBetter-at_end left right done from high h law x y k p =
    ⊎_elim
    (λ (m : p < from). law p m)
    (λ (m : from ≤ p). best-after 0 from done p h m
    ∙ both left right p None None (best-after 0 high left p x (omega arith))
    (best-after 0 high right p y (omega arith)))
    (cases_lt p from)
