-- What `best` is over pieces, and over lists that are joined.
use Rattle.std.proofs.Common.{◌≡◌, ℕ, ◌+◌, ◌<◌, ◌≤◌, Option, Some, None, List, [], ◌∷◌, ◌++◌}
use Rattle.std.proofs.Common.{length, drop, get_or, refl, sym, ap, subst, ◌∙◌, arith}
use Rattle.std.proofs.lemmas.List.{drop_more, drop_all}
use Rattle.std.proofs.lemmas.Bool.Decides.{nat_tests}
use Rattle.pdb_pieces.specs.declared.span.Mark.{Mark}
use Rattle.pdb_pieces.specs.declared.span.Span.{Span}
use Rattle.pdb_pieces.specs.Spans.{mark_over, better, best, ArePieces, IsRest, IsAhead, StandsWith}
use Rattle.pdb_pieces.specs.Spans.{FirstReaches}

pub mark_over-before : (s : Span) (p : ℕ) → p < s.start → mark_over s p ≡ None
mark_over-before s p h = grind (arith, nat_tests)

pub mark_over-after : (s : Span) (p : ℕ) → s.end ≤ p → mark_over s p ≡ None
mark_over-after s p h = grind (arith, nat_tests)

pub mark_over-within : (s : Span) (p : ℕ) → s.start ≤ p → p < s.end → mark_over s p ≡ Some s.mark
mark_over-within s p h k = grind (arith, nat_tests)

pub better-none : (a : Option Mark) → better a None ≡ a
better-none None = refl
better-none (Some a) = refl

pub better_assoc : (a b c : Option Mark) → better (better a b) c ≡ better a (better b c)
better_assoc None b c = refl
better_assoc (Some a) None c = refl
better_assoc (Some a) (Some b) None = grind (arith, nat_tests, better-none)
better_assoc (Some a) (Some b) (Some c) = grind (arith, nat_tests)

pub best-append : (xs ys : List Span) (p : ℕ) → best (xs ++ ys) p ≡ better (best xs p) (best ys p)
best-append [] ys p = refl
best-append (s ∷ rest) ys p =
    ap (better (mark_over s p)) (best-append rest ys p)
    ∙ sym (better_assoc (mark_over s p) (best rest p) (best ys p))

pub ArePieces-le : (low high : ℕ) (xs : List Span) → ArePieces low high xs → low ≤ high
ArePieces-le low high [] h = h
ArePieces-le low high (s ∷ rest) h = let k = ArePieces-le s.end high rest h.2 in omega arith

pub best-before : (low high : ℕ) (xs : List Span) (p : ℕ) → ArePieces low high xs → p < low
    → best xs p ≡ None
best-before low high [] p h k = refl
best-before low high (s ∷ rest) p h k =
    let e = mark_over-before s p (omega arith) in
    let f = best-before s.end high rest p h.2 (omega arith) in rw (e, f) refl

pub best-after : (low high : ℕ) (xs : List Span) (p : ℕ) → ArePieces low high xs → high ≤ p
    → best xs p ≡ None
best-after low high [] p h k = refl
best-after low high (s ∷ rest) p h k =
    let l = ArePieces-le s.end high rest h.2 in
    let e = mark_over-after s p (omega arith) in
    let f = best-after s.end high rest p h.2 k in rw (e, f) refl

pub ArePieces-wider : (low mid high : ℕ) (xs : List Span) → ArePieces low mid xs → mid ≤ high
    → ArePieces low high xs
ArePieces-wider low mid high [] h k = omega arith
ArePieces-wider low mid high (s ∷ rest) h k = (h.0, h.1, ArePieces-wider s.end mid high rest h.2 k)

pub ArePieces-push : (low mid high : ℕ) (xs : List Span) (s : Span) → ArePieces low mid xs
    → mid ≤ s.start → s.start < s.end → s.end ≤ high → ArePieces low high (xs ++ s ∷ [])
ArePieces-push low mid high [] s h k l m = (omega arith, l, m)
ArePieces-push low mid high (x ∷ rest) s h k l m =
    (h.0, h.1, ArePieces-push x.end mid high rest s h.2 k l m)

-- what is left of the spans, by its first
pub rest_first : (xs : List Span) (i from high : ℕ) (d : Span) → IsAhead xs i from high
    → i < length xs → IsRest from high (get_or xs i d ∷ drop (i + 1) xs)
rest_first xs i from high d a h = subst (IsRest from high) (drop_more xs i d h) a.rest

pub best_first : (xs : List Span) (i from high : ℕ) (d : Span) → IsAhead xs i from high
    → i < length xs → (p : ℕ) → from ≤ p → p < (get_or xs i d).end
    → best xs p ≡ mark_over (get_or xs i d) p
best_first xs i from high d a h p k l =
    let r = rest_first xs i from high d a h in
    let e = best-before (get_or xs i d).end high (drop (i + 1) xs) p r.2 l in
    a.same p k ∙ ap (λ ys. best ys p) (drop_more xs i d h)
    ∙ ap (better (mark_over (get_or xs i d) p)) e ∙ better-none (mark_over (get_or xs i d) p)

-- past the end of the first, the rest alone
pub best_past : (xs : List Span) (i from high to : ℕ) (d : Span) → IsAhead xs i from high
    → i < length xs → from ≤ to → (get_or xs i d).end ≤ to → (p : ℕ) → to ≤ p
    → best xs p ≡ best (drop (i + 1) xs) p
best_past xs i from high to d a h k l p m =
    let e = mark_over-after (get_or xs i d) p (omega arith) in
    a.same p (omega arith) ∙ ap (λ ys. best ys p) (drop_more xs i d h)
    ∙ ap (λ o. better o (best (drop (i + 1) xs) p)) e

IsRest-from_pieces : (low high to : ℕ) (xs : List Span) → ArePieces low high xs → to ≤ low
    → IsRest to high xs
IsRest-from_pieces low high to [] h k = tt
IsRest-from_pieces low high to (s ∷ rest) h k = (omega arith, h.1, h.2)

pub IsAhead-passed : (xs : List Span) (i from high to : ℕ) (d : Span) → IsAhead xs i from high
    → i < length xs → from ≤ to → (get_or xs i d).end ≡ to → IsAhead xs (i + 1) to high
IsAhead-passed xs i from high to d a h k e =
    let r = rest_first xs i from high d a h in
    record {
      in_range = omega arith;
      rest = IsRest-from_pieces (get_or xs i d).end high to
          (drop (i + 1) xs) r.2 (omega arith);
      same = best_past xs i from high to d a h k (omega arith);
    }

pub IsAhead-stays : (xs : List Span) (i from high to : ℕ) (d : Span) → IsAhead xs i from high
    → i < length xs → from ≤ to → to < (get_or xs i d).end → IsAhead xs i to high
IsAhead-stays xs i from high to d a h k l =
    let r = rest_first xs i from high d a h in
    let e = drop_more xs i d h in
    record {
      in_range = a.in_range;
      rest = subst (IsRest to high) (sym e) (l, r.1, r.2);
      same = λ p m. a.same p (omega arith);
    }

pub IsAhead-ended : (xs : List Span) (i from high to : ℕ) → IsAhead xs i from high → length xs ≤ i
    → from ≤ to → IsAhead xs i to high
IsAhead-ended xs i from high to a h k =
    let e = drop_all i xs h in
    record {
      in_range = a.in_range;
      rest = subst (IsRest to high) (sym e) tt;
      same = λ p m. a.same p (omega arith);
    }

pub stands_before_first : (xs : List Span) (i from high : ℕ) (d : Span) → IsAhead xs i from high
    → i < length xs → StandsWith xs from (get_or xs i d).start None
stands_before_first xs i from high d a h p k l =
    let r = rest_first xs i from high d a h in
    best_first xs i from high d a h p k (omega (arith, r.1)) ∙ mark_over-before (get_or xs i d) p l

pub stands_in_first : (xs : List Span) (i from high : ℕ) (d : Span) → IsAhead xs i from high
    → i < length xs → (get_or xs i d).start ≤ from
    → StandsWith xs from (get_or xs i d).end (Some (get_or xs i d).mark)
stands_in_first xs i from high d a h m p k l =
    best_first xs i from high d a h p k l ∙ mark_over-within (get_or xs i d) p (omega arith) l

pub first_reaches : (xs : List Span) (i to : ℕ) (d : Span) → i < length xs
    → to ≤ (get_or xs i d).end → FirstReaches to (drop i xs)
first_reaches xs i to d h k = subst (FirstReaches to) (sym (drop_more xs i d h)) k

pub first_starts : (xs : List Span) (i from high : ℕ) (d : Span) → IsAhead xs i from high
    → i < length xs → (get_or xs i d).start ≤ (get_or xs i d).end
first_starts xs i from high d a h = let r = rest_first xs i from high d a h in omega (arith, r.1)

pub first_reaches_end : (xs : List Span) (i : ℕ) (d : Span) → i < length xs
    → FirstReaches (get_or xs i d).end (drop i xs)
first_reaches_end xs i d h = first_reaches xs i (get_or xs i d).end d h (omega arith)
