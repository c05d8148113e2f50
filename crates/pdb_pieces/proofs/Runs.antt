-- Runs one after another in a list, and what joining and merging leave of the best mark.
use Rattle.std.proofs.Common.{◌≡◌, ℕ, ◌+◌, ◌-◌, ◌<◌, ◌≤◌, None, List, [], ◌∷◌, ◌++◌, true, ◌&&◌}
use Rattle.std.proofs.Common.{◌==◌, length, take, drop, get_or, length-append, inl, inr, zero, suc}
use Rattle.std.proofs.Common.{refl, sym, ap, subst, ◌∙◌, arith}
use Rattle.std.proofs.lemmas.Bool.{cases_lt}
use Rattle.std.proofs.lemmas.Bool.Decides.{nat_tests}
use Rattle.std.proofs.lemmas.List.{take_more, take_all, drop_more, drop_all, length-drop}
use Rattle.std.proofs.lemmas.List.{get_or-drop, drop-append-le, take-append-le}
use Rattle.std.proofs.Math.Seq.{take-add, drop-append_seam}
use Rattle.std.specs.List.{slice_range}
use Rattle.pdb_pieces.specs.declared.span.Mark.{Mark}
use Rattle.pdb_pieces.specs.declared.span.Span.{Span}
use Rattle.pdb_pieces.specs.Spans.{mark_over, better, best, ArePieces, AreWide, AreRuns, AddsBetter}
use Rattle.pdb_pieces.proofs.Covers.{best-append, better-none, better_assoc, mark_over-before}
use Rattle.pdb_pieces.proofs.Covers.{mark_over-after, ArePieces-push, ArePieces-wider}

-- what an index past a list's end reads
abbrev pub no_span : Span
no_span = record { start = 0; end = 0; mark = record { rank = 0; value = 0 } }

-- parts of a list

pub between_more : (xs : List Span) (from i : ℕ) (d : Span) → from ≤ i → i < length xs
    → slice_range xs from (i + 1) ≡ slice_range xs from i ++ get_or xs i d ∷ []
between_more xs from i d h k =
    let rest = drop from xs in
    let n = i - from in
    let e : (i + 1) - from ≡ n + 1 = omega arith in
    let f : from + n ≡ i = omega arith in
    let in_rest : n < length rest = omega (arith, length-drop from xs) in
    ap (λ m. take m rest) e ∙ take_more rest n d in_rest
    ∙ ap (λ x. take n rest ++ x ∷ []) (get_or-drop from xs n d ∙ ap (λ m. get_or xs m d) f)

pub between_append : (xs ys : List Span) (from to : ℕ) → from ≤ to → to ≤ length xs
    → slice_range (xs ++ ys) from to ≡ slice_range xs from to
between_append xs ys from to h k =
    let e = drop-append-le from xs ys (omega arith) in
    ap (take (to - from)) e ∙ take-append-le (to - from) (drop from xs) ys
    (omega (arith, length-drop from xs))

pub between_added : (xs ys : List Span)
    → slice_range (xs ++ ys) (length xs) (length (xs ++ ys)) ≡ ys
between_added xs ys =
    let e = drop-append_seam xs ys in
    ap (take (length (xs ++ ys) - length xs)) e
    ∙ take_all (length (xs ++ ys) - length xs) ys (omega (arith, length-append xs ys))

pub take_between : (xs : List Span) (from to : ℕ) → from ≤ to
    → take to xs ≡ take from xs ++ slice_range xs from to
take_between xs from to h =
    let e : to ≡ from + (to - from) = omega arith in
    ap (λ n. take n xs) e ∙ take-add from (to - from) xs

-- runs

pub AreRuns-push : (xs : List Span) (from to end : ℕ) (es : List ℕ) → AreRuns xs from es to
    → to ≤ end → end ≤ length xs → ArePieces 0 18446744073709551615 (slice_range xs to end)
    → AreRuns xs from (es ++ end ∷ []) end
AreRuns-push xs from to end [] h k l m = (
  omega (arith, h),
  l,
  subst (λ n. ArePieces 0 18446744073709551615 (slice_range xs n end))
      (sym h) m,
  refl,
)
AreRuns-push xs from to end (e ∷ es) h k l m =
    (h.0, h.1, h.2, AreRuns-push xs e to end es h.3 k l m)

pub AreRuns-more : (xs ys : List Span) (from to : ℕ) (es : List ℕ) → AreRuns xs from es to
    → AreRuns (xs ++ ys) from es to
AreRuns-more xs ys from to [] h = h
AreRuns-more xs ys from to (e ∷ es) h = (
  h.0,
  omega (arith, h.1, length-append xs ys),
  subst (ArePieces 0 18446744073709551615) (sym (between_append xs ys from e h.0 h.1)) h.2,
  AreRuns-more xs ys e to es h.3,
)

-- runs, and pieces after them, which are one more run
pub AreRuns-added : (xs ys : List Span) (es : List ℕ) → AreRuns xs 0 es (length xs)
    → ArePieces 0 18446744073709551615 ys
    → AreRuns (xs ++ ys) 0 (es ++ length (xs ++ ys) ∷ []) (length (xs ++ ys))
AreRuns-added xs ys es h k =
    AreRuns-push (xs ++ ys) 0 (length xs) (length (xs ++ ys)) es
    (AreRuns-more xs ys 0 (length xs) es h) (omega (arith, length-append xs ys)) (omega arith)
    (subst (ArePieces 0 18446744073709551615) (sym (between_added xs ys)) k)

pub AreRuns-first : (xs : List Span) (from to i : ℕ) (es : List ℕ) (d : ℕ)
    → AreRuns xs from (drop i es) to → i < length es
    → AreRuns xs from (get_or es i d ∷ drop (i + 1) es) to
AreRuns-first xs from to i es d h k = subst (λ rest. AreRuns xs from rest to) (drop_more es i d k) h

-- wide spans

pub AreWide-push : (xs : List Span) (s : Span) → AreWide xs → s.start < s.end
    → AreWide (xs ++ s ∷ [])
AreWide-push [] s h k = (k, tt)
AreWide-push (x ∷ xs) s h k = (h.0, AreWide-push xs s h.1 k)

pub AreWide-front : (xs : List Span) (s : Span) → AreWide (xs ++ s ∷ []) → AreWide xs
AreWide-front [] s h = tt
AreWide-front (x ∷ xs) s h = (h.0, AreWide-front xs s h.1)

pub AreWide-last : (xs : List Span) (s : Span) → AreWide (xs ++ s ∷ []) → s.start < s.end
AreWide-last [] s h = h.0
AreWide-last (x ∷ xs) s h = AreWide-last xs s h.1

pub AreWide-at : (xs : List Span) (i : ℕ) (d : Span) → AreWide xs → i < length xs
    → (get_or xs i d).start < (get_or xs i d).end
AreWide-at [] i d h k = absurd (omega arith)
AreWide-at (x ∷ xs) zero d h k = h.0
AreWide-at (x ∷ xs) (suc i) d h k = AreWide-at xs i d h.1 (omega arith)

-- the best mark

pub best-push : (xs : List Span) (s : Span) (p : ℕ)
    → best (xs ++ s ∷ []) p ≡ better (best xs p) (mark_over s p)
best-push xs s p = best-append xs (s ∷ []) p ∙ ap (better (best xs p)) (better-none (mark_over s p))

joined_over : (last s : Span) (p : ℕ) → last.start < last.end → s.start < s.end → last.end ≡ s.start
    → last.mark ≡ s.mark → mark_over (record { start = last.start; end = s.end; mark = last.mark })
    p ≡ better (mark_over last p) (mark_over s p)
joined_over last s p h k e f = grind (arith, nat_tests)

pub joined_law : (xs : List Span) (last s : Span) (p : ℕ) → last.start < last.end → s.start < s.end
    → last.end ≡ s.start → last.mark ≡ s.mark
    → best (xs ++ (record { start = last.start; end = s.end; mark = last.mark }) ∷ []) p
    ≡ better (best (xs ++ last ∷ []) p) (mark_over s p)
joined_law xs last s p h k e f =
    let j : Span = record { start = last.start; end = s.end; mark = last.mark } in
    best-push xs j p ∙ ap (better (best xs p)) (joined_over last s p h k e f)
    ∙ sym (better_assoc (best xs p) (mark_over last p) (mark_over s p))
    ∙ ap (λ o. better o (mark_over s p)) (sym (best-push xs last p))

pub best-take_more : (spans : List Span) (i : ℕ) (d : Span) (p : ℕ) → i < length spans
    → best (take (i + 1) spans) p ≡ better (best (take i spans) p) (mark_over (get_or spans i d) p)
best-take_more spans i d p h = ap (λ ys. best ys p) (take_more spans i d h)
    ∙ best-push (take i spans) (get_or spans i d) p

mark_over-empty : (s : Span) (p : ℕ) → s.end ≤ s.start → mark_over s p ≡ None
mark_over-empty s p h = elim (cases_lt p s.start) [
  | inl l ↦ mark_over-before s p l
  | inr l ↦ mark_over-after s p (omega arith)
]

pub empty_law : (spans : List Span) (i : ℕ) (d : Span) (p : ℕ) → i < length spans
    → (get_or spans i d).end ≤ (get_or spans i d).start
    → best (take (i + 1) spans) p ≡ best (take i spans) p
empty_law spans i d p h k = best-take_more spans i d p h
    ∙ ap (better (best (take i spans) p)) (mark_over-empty (get_or spans i d) p k)
    ∙ better-none (best (take i spans) p)

-- with what two neighbors are merged into, the best is that of one more pair
pub pair_law : (spans done after : List Span) (from middle to : ℕ) (p : ℕ) → from ≤ middle
    → middle ≤ to → AddsBetter done after (slice_range spans from middle)
    (slice_range spans middle to) → best done p ≡ best (take from spans) p
    → best after p ≡ best (take to spans) p
pair_law spans done after from middle to p h k a law =
    let l = best (slice_range spans from middle) p in
    let r = best (slice_range spans middle to) p in
    ap (λ ys. best ys p) a.is ∙ best-append done a.added p ∙ ap (better (best done p)) (a.best p)
    ∙ ap (λ o. better o (better l r)) law
    ∙ sym (better_assoc (best (take from spans) p) l r)
    ∙ ap (λ o. better o r)
    (sym (ap (λ ys. best ys p) (take_between spans from middle h)
    ∙ best-append (take from spans) (slice_range spans from middle) p))
    ∙ sym (ap (λ ys. best ys p) (take_between spans middle to k)
    ∙ best-append (take middle spans) (slice_range spans middle to) p)

-- and with the last of them as it is
pub last_law : (spans done after : List Span) (from to : ℕ) (p : ℕ) → from ≤ to → to ≡ length spans
    → after ≡ done ++ slice_range spans from to → best done p ≡ best (take from spans) p
    → best after p ≡ best spans p
last_law spans done after from to p h e is law =
    ap (λ ys. best ys p) is ∙ best-append done (slice_range spans from to) p
    ∙ ap (λ o. better o (best (slice_range spans from to) p)) law
    ∙ sym (best-append (take from spans) (slice_range spans from to) p)
    ∙ sym (ap (λ ys. best ys p) (take_between spans from to h))
    ∙ ap (λ ys. best ys p) (take_all to spans (omega (arith, e)))

pub same_mark : (a b : Mark) → true ≡ ((a.rank == b.rank) && (a.value == b.value)) → a ≡ b
same_mark a b h = grind (arith, nat_tests)

-- the same as `AreRuns-added`, by what the lists are afterwards
pub AreRuns-after : (xs ys after : List Span) (es ends : List ℕ) (n : ℕ) → after ≡ xs ++ ys
    → ends ≡ es ++ n ∷ [] → n ≡ length after → AreRuns xs 0 es (length xs)
    → ArePieces 0 18446744073709551615 ys → AreRuns after 0 ends (length after)
AreRuns-after xs ys after es ends n e f g h k = rw (f, g, e) (AreRuns-added xs ys es h k)

-- where no run is left, all is passed
pub all_passed : (xs : List Span) (from to i : ℕ) (es : List ℕ) → AreRuns xs from (drop i es) to
    → length es ≤ i → from ≡ to
all_passed xs from to i es h k = subst (λ rest. AreRuns xs from rest to) (drop_all i es k) h

-- one run, or none
pub one_run : (xs : List Span) (es : List ℕ) → AreRuns xs 0 es (length xs) → length es ≤ 1
    → ArePieces 0 18446744073709551615 xs
one_run [] [] h k = omega arith
one_run (x ∷ xs) [] h k = absurd (omega (arith, h))
one_run xs (e ∷ []) h k = subst (ArePieces 0 18446744073709551615)
    (take_all (e - 0) xs (omega (arith, h.3))) h.2
one_run xs (e ∷ f ∷ es) h k = absurd (omega arith)

between_none : (xs : List Span) (i : ℕ) → slice_range xs i i ≡ []
between_none xs i = let e : i - i ≡ 0 = omega arith in ap (λ n. take n (drop i xs)) e

-- the run that goes on, and the one that begins, with one more span
pub run_more : (xs : List Span) (from i end : ℕ) (d : Span) → from ≤ i → i < length xs
    → ArePieces 0 end (slice_range xs from i) → end ≤ (get_or xs i d).start → (get_or xs i d).start
    < (get_or xs i d).end → ArePieces 0 (get_or xs i d).end (slice_range xs from (i + 1))
run_more xs from i end d h k run l m =
    subst (ArePieces 0 (get_or xs i d).end) (sym (between_more xs from i d h k))
    (ArePieces-push 0 end (get_or xs i d).end (slice_range xs from i) (get_or xs i d) run l m
    (omega arith))

pub run_first : (xs : List Span) (i : ℕ) (d : Span) → i < length xs → (get_or xs i d).start
    < (get_or xs i d).end → ArePieces 0 (get_or xs i d).end (slice_range xs i (i + 1))
run_first xs i d k m =
    let none : ArePieces 0 0 (slice_range xs i i) =
    subst (ArePieces 0 0) (sym (between_none xs i)) (omega arith) in
    run_more xs i i 0 d (omega arith) k none (omega arith) m

-- the run that goes on has ended
pub run_ended : (xs : List Span) (es ends : List ℕ) (from i end : ℕ) → AreRuns xs 0 es from
    → from ≤ i → i ≤ length xs → ArePieces 0 end (slice_range xs from i)
    → end ≤ 18446744073709551615 → ends ≡ es ++ i ∷ [] → AreRuns xs 0 ends i
run_ended xs es ends from i end h k l run m e =
    subst (λ ns. AreRuns xs 0 ns i) (sym e)
    (AreRuns-push xs 0 from i es h k l
    (ArePieces-wider 0 end 18446744073709551615 (slice_range xs from i) run m))
