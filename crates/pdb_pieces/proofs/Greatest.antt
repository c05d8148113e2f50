-- What `best` says, spelled out.
use Rattle.std.proofs.Common.{◌≡◌, ℕ, ◌<◌, ◌≤◌, Option, Some, None, List, [], ◌∷◌, ◌⊎◌, inl, inr}
use Rattle.std.proofs.Common.{zero, suc, refl, sym, ap, subst, arith}
use Rattle.std.specs.List.{slice_get}
use Rattle.std.proofs.lemmas.Bool.{cases_lt, lt-ltb, le-ltb}
use Rattle.pdb_pieces.specs.declared.span.Mark.{Mark}
use Rattle.pdb_pieces.specs.declared.span.Span.{Span}
use Rattle.pdb_pieces.specs.Spans.{mark_over, better, best, IsOver, IsGreatest}
use Rattle.pdb_pieces.proofs.Covers.{mark_over-before, mark_over-after, mark_over-within}

mark_over-at : (s : Span) (p : ℕ) → IsOver s p → mark_over s p ≡ Some s.mark
mark_over-at s p o = mark_over-within s p o.from o.before

-- a span that shows a mark is over the place, and the mark is its own
over_from_mark : (s : Span) (p : ℕ) (m : Mark) → mark_over s p ≡ Some m
    → (IsOver s p) × (s.mark ≡ m)
over_from_mark s p m e = elim (cases_lt p s.start) [
  | inl k ↦ (let f = mark_over-before s p k in cc)
  | inr k ↦ elim (cases_lt p s.end) [
    | inl l ↦ (let f = mark_over-within s p k l in (record { from = k; before = l }, cc))
    | inr l ↦ (let f = mark_over-after s p l in cc)
  ]
]

better_cases : (a b : Option Mark) (m : Mark) → better a b ≡ Some m
    → ((a ≡ Some m) × ((n : Mark) → b ≡ Some n → n.rank ≤ m.rank))
    ⊎ ((b ≡ Some m) × ((n : Mark) → a ≡ Some n → n.rank < m.rank))
better_cases None b m e = inr (e, λ n f. cc)
better_cases (Some a) None m e = inl (e, λ n f. cc)
better_cases (Some a) (Some b) m e = elim (cases_lt a.rank b.rank) [
  | inl l ↦ (let t = lt-ltb a.rank b.rank l in let f : Some b ≡ Some m = rw t at e in
      let g : b ≡ m = cc in
      inr (
        f,
        λ n k. (let h : a ≡ n = cc in subst (λ (x : Mark). x.rank < m.rank) h
            (subst (λ (x : Mark). a.rank < x.rank) g l)),
      ))
  | inr l ↦ (let t = le-ltb a.rank b.rank l in let f : Some a ≡ Some m = rw t at e in
      let g : a ≡ m = cc in
      inl (
        f,
        λ n k. (let h : b ≡ n = cc in subst (λ (x : Mark). x.rank ≤ m.rank) h
            (subst (λ (x : Mark). b.rank ≤ x.rank) g l)),
      ))
]

better_left : (a : Mark) (b : Option Mark) → (n : Mark) × (better (Some a) b ≡ Some n)
    × (a.rank ≤ n.rank)
better_left a None = (a, refl, omega arith)
better_left a (Some b) = elim (cases_lt a.rank b.rank) [
  | inl l ↦ (let t = lt-ltb a.rank b.rank l in (b, rw t refl, omega arith))
  | inr l ↦ (let t = le-ltb a.rank b.rank l in (a, rw t refl, omega arith))
]

better_right : (a : Option Mark) (b : Mark) → (n : Mark) × (better a (Some b) ≡ Some n)
    × (b.rank ≤ n.rank)
better_right None b = (b, refl, omega arith)
better_right (Some a) b = elim (cases_lt a.rank b.rank) [
  | inl l ↦ (let t = lt-ltb a.rank b.rank l in (b, rw t refl, omega arith))
  | inr l ↦ (let t = le-ltb a.rank b.rank l in (a, rw t refl, omega arith))
]

-- where a span is over the place there is a best mark, of its rank or a greater one
stands_above : (spans : List Span) (p j : ℕ) (t : Span) → slice_get spans j ≡ Some t → IsOver t p
    → (n : Mark) × (best spans p ≡ Some n) × (t.mark.rank ≤ n.rank)
stands_above [] p j t e o = cc
stands_above (s ∷ rest) p zero t e o =
    let same : t ≡ s = cc in
    let f : mark_over s p ≡ Some t.mark =
    subst (λ (x : Span). mark_over x p ≡ Some t.mark) same (mark_over-at t p o) in
    let r = better_left t.mark (best rest p) in
    (r.0, rw f r.1, r.2)
stands_above (s ∷ rest) p (suc j) t e o =
    let i = stands_above rest p j t e o in
    let r = better_right (mark_over s p) i.0 in
    (r.0, rw i.1 r.1, omega (arith, i.2, r.2))

pub none_over : (spans : List Span) (p : ℕ) → best spans p ≡ None → (j : ℕ) (t : Span)
    → slice_get spans j ≡ Some t → IsOver t p → ⊥
none_over spans p e j t f o = let r = stands_above spans p j t f o in let g = r.1 in cc

greatest_here : (s : Span) (rest : List Span) (p : ℕ) (m : Mark) → s.mark ≡ m
    → ((n : Mark) → best rest p ≡ Some n → n.rank ≤ m.rank) → (j : ℕ) (t : Span)
    → slice_get (s ∷ rest) j ≡ Some t → IsOver t p → t.mark.rank ≤ m.rank
greatest_here s rest p m e h zero t f o =
    let same : t ≡ s = cc in
    let g = ap (λ (x : Span). x.mark.rank) same in
    let k = ap (λ (x : Mark). x.rank) e in omega arith
greatest_here s rest p m e h (suc j) t f o =
    let r = stands_above rest p j t f o in omega (arith, r.2, h r.0 r.1)

below_there : (s : Span) (rest : List Span) (p i : ℕ) (m : Mark) (R : ℕ → ℕ → Type 0)
    → ((t : Span) → s ≡ t → IsOver t p → R t.mark.rank m.rank)
    → ((j : ℕ) (t : Span) → j < i → slice_get rest j ≡ Some t → IsOver t p → R t.mark.rank m.rank)
    → (j : ℕ) (t : Span) → j < suc i → slice_get (s ∷ rest) j ≡ Some t → IsOver t p
    → R t.mark.rank m.rank
below_there s rest p i m R h k zero t l f o = (let same : s ≡ t = cc in h t same o)
below_there s rest p i m R h k (suc j) t l f o = k j t (omega arith) f o

pub greatest : (spans : List Span) (p : ℕ) (m : Mark) → best spans p ≡ Some m → IsGreatest spans p m
greatest [] p m e = cc
greatest (s ∷ rest) p m e = elim (better_cases (mark_over s p) (best rest p) m e) [
  | inl w ↦ (
      let o = over_from_mark s p m w.0 in
      record {
        number = 0;
        span = s;
        is = refl;
        over = o.0;
        mark = o.1;
        greatest = greatest_here s rest p m o.1 w.1;
        first = λ j t l f k. absurd (omega arith);
      })
  | inr w ↦ (
      let r = greatest rest p m w.0 in
      let here : (t : Span) → s ≡ t → IsOver t p → t.mark.rank < m.rank =
      λ t same o. w.1 t.mark
      (subst (λ (x : Span). mark_over x p ≡ Some t.mark) (sym same) (mark_over-at t p o)) in
      record {
        number = suc r.number;
        span = r.span;
        is = r.is;
        over = r.over;
        mark = r.mark;
        greatest = λ j t f o. below_there s rest p (suc j) m ◌≤◌
            (λ u g q. (let a = here u g q in omega arith)) (λ i u l g q. r.greatest i u g q) j t
            (omega arith) f o;
        first = below_there s rest p r.number m ◌<◌ here r.first;
      })
]
