-- A binary search among pieces.
use Rattle.std.proofs.Common.{◌≡◌, ℕ, ◌+◌, ◌-◌, ◌*◌, ◌/◌, ◌^◌, ◌<◌, ◌≤◌, Option, Some, None, length}
use Rattle.std.proofs.Common.{get_or, map, List, [], ◌∷◌, ◌⊎◌, ◌↔◌, inl, inr, zero, suc, refl, sym}
use Rattle.std.proofs.Common.{ap, subst, ◌∙◌, arith}
use Rattle.std.specs.List.{slice_get}
use Rattle.std.specs.Option.{option_map}
use Rattle.std.proofs.lemmas.Bool.{cases_lt, cases_order}
use Rattle.std.proofs.Math.Nat.{pow-succ', mul-le-mul_left}
use Rattle.std.proofs.lemmas.List.{length-map}
use Rattle.std.proofs.lemmas.Option.{slice_get_within, slice_get_past, slice_get-get_or}
use Rattle.std.proofs.lemmas.Option.{slice_get-map, slice_get_read}
use Rattle.pdb_pieces.specs.declared.span.Mark.{Mark}
use Rattle.pdb_pieces.specs.declared.span.Span.{Span}
use Rattle.pdb_pieces.specs.Spans.{mark_over, best, starts_of, ArePieces, PieceHolds, mark_at}
use Rattle.pdb_pieces.specs.Halving.{Ascend, IsSplit}
use Rattle.pdb_pieces.proofs.Covers.{best-before, mark_over-before, mark_over-after}
use Rattle.pdb_pieces.proofs.Covers.{mark_over-within}

ArePieces-at : (low high : ℕ) (xs : List Span) (i : ℕ) (s : Span) → ArePieces low high xs
    → slice_get xs i ≡ Some s → (low ≤ s.start) × (s.start < s.end)
ArePieces-at low high [] i s h e = cc
ArePieces-at low high (x ∷ rest) zero s h e =
    let same : x ≡ s = cc in
    subst (λ (y : Span). (low ≤ y.start) × (y.start < y.end)) same (h.0, h.1)
ArePieces-at low high (x ∷ rest) (suc i) s h e =
    let r = ArePieces-at x.end high rest i s h.2 e in (omega arith, r.1)

pub ArePieces-ascend : (low high : ℕ) (xs : List Span) (i j : ℕ) (s t : Span)
    → ArePieces low high xs → slice_get xs i ≡ Some s → slice_get xs j ≡ Some t → i < j
    → s.end ≤ t.start
ArePieces-ascend low high [] i j s t h e f l = cc
ArePieces-ascend low high (x ∷ rest) i zero s t h e f l = absurd (omega arith)
ArePieces-ascend low high (x ∷ rest) zero (suc j) s t h e f l =
    let same : x ≡ s = cc in
    let r = ArePieces-at x.end high rest j t h.2 f in
    subst (λ (y : Span). y.end ≤ t.start) same r.0
ArePieces-ascend low high (x ∷ rest) (suc i) (suc j) s t h e f l =
    ArePieces-ascend x.end high rest i j s t h.2 e f (omega arith)

pub best-at : (low high : ℕ) (xs : List Span) (i : ℕ) (s : Span) (p : ℕ) → ArePieces low high xs
    → slice_get xs i ≡ Some s → s.start ≤ p → p < s.end → best xs p ≡ Some s.mark
best-at low high [] i s p h e k l = cc
best-at low high (x ∷ rest) zero s p h e k l =
    let same : s ≡ x = cc in
    let f : mark_over x p ≡ Some s.mark =
    subst (λ (y : Span). mark_over y p ≡ Some s.mark) same (mark_over-within s p k l) in
    let before : p < x.end = subst (λ (y : Span). p < y.end) same l in
    let g = best-before x.end high rest p h.2 before in rw (f, g) refl
best-at low high (x ∷ rest) (suc i) s p h e k l =
    let r = ArePieces-at x.end high rest i s h.2 e in
    let f = mark_over-after x p (omega arith) in rw f (best-at x.end high rest i s p h.2 e k l)

-- the pieces before `low` end at the place or before it
pub record IsPast (xs : List Span) (low p : ℕ) : Type 0 where
  pub each : (i : ℕ) (s : Span) → i < low → slice_get xs i ≡ Some s → s.end ≤ p

-- the pieces from `high` on start past the place
pub record IsBeyond (xs : List Span) (high p : ℕ) : Type 0 where
  pub each : (i : ℕ) (s : Span) → high ≤ i → slice_get xs i ≡ Some s → p < s.start

best-none : (xs : List Span) (p : ℕ)
    → ((i : ℕ) (s : Span) → slice_get xs i ≡ Some s → (s.end ≤ p) ⊎ (p < s.start))
    → best xs p ≡ None
best-none [] p h = refl
best-none (x ∷ rest) p h =
    let e : mark_over x p ≡ None = elim (h 0 x refl) [
      | inl k ↦ mark_over-after x p k
      | inr k ↦ mark_over-before x p k
    ] in
    rw e (best-none rest p (λ i s f. h (suc i) s f))

outside : (xs : List Span) (n p i : ℕ) (s : Span) → IsPast xs n p → IsBeyond xs n p
    → slice_get xs i ≡ Some s → (s.end ≤ p) ⊎ (p < s.start)
outside xs n p i s a b e = elim (cases_lt i n) [
  | inl l ↦ inl (a.each i s l e)
  | inr l ↦ inr (b.each i s l e)
]

pub best_nowhere : (xs : List Span) (low high p : ℕ) → IsPast xs low p → IsBeyond xs high p
    → high ≤ low → best xs p ≡ None
best_nowhere xs low high p a b l =
    let b' : IsBeyond xs low p = record { each = λ i s k e. b.each i s (omega arith) e } in
    best-none xs p (λ i s e. outside xs low p i s a b' e)

pub holds_nowhere : (xs : List Span) (low high p i : ℕ) → IsPast xs low p → IsBeyond xs high p
    → high ≤ low → PieceHolds xs p i → ⊥
holds_nowhere xs low high p i a b l h =
    let b' : IsBeyond xs low p = record { each = λ i s k e. b.each i s (omega arith) e } in
    elim (outside xs low p i h.piece a b' h.is) [
      | inl k ↦ omega (arith, h.before)
      | inr k ↦ omega (arith, h.from)
    ]

pub holds_once : (low high : ℕ) (xs : List Span) (p i j : ℕ) → ArePieces low high xs
    → PieceHolds xs p i → PieceHolds xs p j → i ≡ j
holds_once low high xs p i j h a b =
    elim (cases_order i j) [
      | inl e ↦ e
      | inr l ↦ elim l [
        | inl m ↦
            absurd
            (omega (
              arith,
              ArePieces-ascend low high xs i j a.piece b.piece h a.is b.is m,
              a.before,
              b.from,
            ))
        | inr m ↦
            absurd
            (omega (
              arith,
              ArePieces-ascend low high xs j i b.piece a.piece h b.is a.is m,
              b.before,
              a.from,
            ))
      ]
    ]

pub IsPast-more : (low high : ℕ) (xs : List Span) (m p : ℕ) (s : Span) → ArePieces low high xs
    → slice_get xs m ≡ Some s → s.end ≤ p → IsPast xs (m + 1) p
IsPast-more low high xs m p s h e k = record {
  each = λ i t l f. elim (cases_lt i m) [
    | inl n ↦ (let a = ArePieces-ascend low high xs i m t s h f e n in
        let b = ArePieces-at low high xs m s h e in omega (arith, b.1))
    | inr n ↦
        (let same : i ≡ m = omega arith in let g : Some s ≡ Some t = sym e
        ∙ ap (slice_get xs) (sym same) ∙ f in let st : s ≡ t = cc in
        subst (λ (y : Span). y.end ≤ p) st k)
  ];
}

-- among n pieces: no more probes than n has digits, and what is left has as many digits as probes
-- are left
pub record IsCheap (n probes left : ℕ) : Type 0 where
  pub each : (digits : ℕ) → n < 2 ^ digits → (probes ≤ digits) × (left < 2 ^ (digits - probes))

halve : (m k : ℕ) → 0 < m → m < 2 ^ k → (0 < k) × (m / 2 < 2 ^ (k - 1))
halve m zero h l = absurd (omega arith)
halve m (suc k) h l =
    let e : suc k - 1 ≡ k = omega arith in
    let f = pow-succ' 2 k in
    (omega arith, rw e (omega arith))

pub IsCheap-start : (n : ℕ) → IsCheap n 0 n
IsCheap-start n =
    record { each = λ d h. (let e : d - 0 ≡ d = omega arith in (omega arith, rw e h)) }

pub IsCheap-more : (n probes left fewer : ℕ) → IsCheap n probes left → 0 < left → fewer ≤ left / 2
    → IsCheap n (probes + 1) fewer
IsCheap-more n probes left fewer c h l = record {
  each = λ d k. (
      let a = c.each d k in
      let b = halve left (d - probes) h a.1 in
      let e : d - (probes + 1) ≡ d - probes - 1 = omega arith in
      (omega (arith, b.0), rw e (omega (arith, b.1))));
}

pub found_one : (low high : ℕ) (xs : List Span) (p m : ℕ) (s : Span) → ArePieces low high xs
    → slice_get xs m ≡ Some s → s.start ≤ p → p < s.end → (i : ℕ) → (Some m ≡ Some i)
    ↔ PieceHolds xs p i
found_one low high xs p m s h e k l i =
    let here : PieceHolds xs p m = record { piece = s; is = e; from = k; before = l } in (
      λ f. (let same : m ≡ i = cc in subst (PieceHolds xs p) same here),
      λ w. ap Some (holds_once low high xs p m i h here w),
    )

pub found_best : (low high : ℕ) (xs : List Span) (p m : ℕ) (s : Span) → ArePieces low high xs
    → slice_get xs m ≡ Some s → s.start ≤ p → p < s.end → best xs p ≡ mark_at xs (Some m)
found_best low high xs p m s h e k l = best-at low high xs m s p h e k l
    ∙ sym (ap (option_map (λ (x : Span). x.mark)) e)

-- what an index past a list's end reads
abbrev pub no_span : Span
no_span = record { start = 0; end = 0; mark = record { rank = 0; value = 0 } }

-- that many pieces begin at the place or before it: the last of them does, and none after them
pub record HasBegun (pieces : List Span) (count p : ℕ) : Type 0 where
  pub bound : count ≤ length pieces
  pub last : (i : ℕ) (s : Span) → i + 1 ≡ count → slice_get pieces i ≡ Some s → s.start ≤ p
  pub behind : (i : ℕ) (s : Span) → count ≤ i → slice_get pieces i ≡ Some s → p < s.start

-- where pieces begin ascends
pub pieces_ascend : (low high : ℕ) (xs : List Span) → ArePieces low high xs
    → Ascend low (starts_of xs)
pieces_ascend low high [] h = tt
pieces_ascend low high (x ∷ rest) h = (
  h.0,
  starts_above x.start x.end (starts_of rest) (omega (arith, h.1))
      (pieces_ascend x.end high rest h.2),
)
  where
    starts_above : (fewer low : ℕ) (ns : List ℕ) → fewer ≤ low → Ascend low ns → Ascend fewer ns
    starts_above fewer low [] l h = tt
    starts_above fewer low (n ∷ ns) l h = (omega (arith, h.0), h.1)

-- the pieces that begin at a place or before it, by how many starts do
pub begun_by : (xs : List Span) (count p : ℕ) → IsSplit (starts_of xs) p count
    → HasBegun xs count p
begun_by xs count p s = record {
  bound = simp length-map at s.bound;
  last = λ i x e f. s.before i x.start (omega arith)
      (slice_get-map (λ (y : Span). y.start) xs i ∙ ap (option_map (λ (y : Span). y.start)) f);
  behind = λ i x l f. s.after i x.start l (slice_get-map (λ (y : Span). y.start) xs i
      ∙ ap (option_map (λ (y : Span). y.start)) f);
}

-- no piece begins at the place or before it
pub IsPast-none : (xs : List Span) (p : ℕ) → IsPast xs 0 p
IsPast-none xs p = record { each = λ i s l f. absurd (omega arith) }

-- the last one that begins so ends there
pub IsPast-last : (low high : ℕ) (xs : List Span) (count p : ℕ) (s : Span) → ArePieces low high xs
    → 0 < count → slice_get xs (count - 1) ≡ Some s → s.end ≤ p → IsPast xs count p
IsPast-last low high xs count p s h some is le =
    let e : count - 1 + 1 ≡ count = omega arith in
    subst (λ n. IsPast xs n p) e (IsPast-more low high xs (count - 1) p s h is le)

pub IsBeyond-begun : (xs : List Span) (count p : ℕ) → HasBegun xs count p → IsBeyond xs count p
IsBeyond-begun xs count p h = record { each = h.behind }

-- the last one that begins so begins at the place or before it
pub last_begun : (xs : List Span) (count p : ℕ) (s : Span) → HasBegun xs count p → 0 < count
    → slice_get xs (count - 1) ≡ Some s → s.start ≤ p
last_begun xs count p s h some is = h.last (count - 1) s (omega arith) is

-- no piece holds the place
pub found_none : (xs : List Span) (count p : ℕ) → IsPast xs count p → IsBeyond xs count p → (i : ℕ)
    → (None ≡ Some i) ↔ PieceHolds xs p i
found_none xs count p a b i =
    (λ e. absurd cc, λ h. absurd (holds_nowhere xs count count p i a b (omega arith) h))

-- ---- a search among numbers in ascending order

Ascend-at : (low : ℕ) (ns : List ℕ) (i n : ℕ) → Ascend low ns → slice_get ns i ≡ Some n → low ≤ n
Ascend-at low [] i n h e = cc
Ascend-at low (x ∷ rest) zero n h e = let same : x ≡ n = cc in subst (λ y. low ≤ y) same h.0
Ascend-at low (x ∷ rest) (suc i) n h e = let r = Ascend-at x rest i n h.1 e in omega (arith, h.0)

Ascend-rises : (low : ℕ) (ns : List ℕ) (i j m n : ℕ) → Ascend low ns → i < j
    → slice_get ns i ≡ Some m → slice_get ns j ≡ Some n → m ≤ n
Ascend-rises low [] i j m n h l e f = cc
Ascend-rises low (x ∷ rest) i zero m n h l e f = absurd (omega arith)
Ascend-rises low (x ∷ rest) zero (suc j) m n h l e f = let same : x ≡ m = cc in
    subst (λ y. y ≤ n) same (Ascend-at x rest j n h.1 f)
Ascend-rises low (x ∷ rest) (suc i) (suc j) m n h l e f =
    Ascend-rises x rest i j m n h.1 (omega arith) e f

-- the numbers before `low` lie at the place or before it
pub record AreBefore (ns : List ℕ) (low place : ℕ) : Type 0 where
  pub each : (i n : ℕ) → i < low → slice_get ns i ≡ Some n → n ≤ place

-- the numbers from `high` on lie past the place
pub record AreAfter (ns : List ℕ) (high place : ℕ) : Type 0 where
  pub each : (i n : ℕ) → high ≤ i → slice_get ns i ≡ Some n → place < n

pub AreBefore-start : (ns : List ℕ) (place : ℕ) → AreBefore ns 0 place
AreBefore-start ns place = record { each = λ i n l e. absurd (omega arith) }

pub AreAfter-start : (ns : List ℕ) (high place : ℕ) → high ≡ length ns → AreAfter ns high place
AreAfter-start ns high place is =
    record { each = λ i n l e. (let none = slice_get_past ns i (omega arith) in absurd cc) }

same_number : (ns : List ℕ) (i m k n : ℕ) → i ≡ m → slice_get ns i ≡ Some k
    → slice_get ns m ≡ Some n → n ≡ k
same_number ns i m k n s e f = let g : Some n ≡ Some k = sym f ∙ ap (slice_get ns) (sym s) ∙ e in cc

pub AreBefore-more : (ns : List ℕ) (m n place : ℕ) → Ascend 0 ns → slice_get ns m ≡ Some n
    → n ≤ place → AreBefore ns (m + 1) place
AreBefore-more ns m n place h e k = record {
  each = λ i x l f. elim (cases_lt i m) [
    | inl before ↦ (let r = Ascend-rises 0 ns i m x n h before f e in omega arith)
    | inr past ↦ (let same = same_number ns i m x n (omega arith) f e in omega arith)
  ];
}

pub AreAfter-more : (ns : List ℕ) (m n place : ℕ) → Ascend 0 ns → slice_get ns m ≡ Some n
    → place < n → AreAfter ns m place
AreAfter-more ns m n place h e k = record {
  each = λ i x l f. elim (cases_lt m i) [
    | inl past ↦ (let r = Ascend-rises 0 ns m i n x h past e f in omega arith)
    | inr before ↦ (let same = same_number ns i m x n (omega arith) f e in omega arith)
  ];
}

pub split_at : (ns : List ℕ) (low high place : ℕ) → AreBefore ns low place → AreAfter ns high place
    → low ≡ high → low ≤ length ns → IsSplit ns place low
split_at ns low high place a b is bound =
    record { bound = bound; before = a.each; after = λ i n l e. b.each i n (omega arith) e }

-- where an item begins that was read
pub number_read : {T : Type 0} (f : T → ℕ) (xs : List T) (m : ℕ) (x : T) → m < length xs
    → x ≡ get_or xs m x → slice_get (map f xs) m ≡ Some (f x)
number_read f xs m x lt is = slice_get-map f xs m
    ∙ ap (option_map f) (slice_get_read xs (length xs) m x refl lt is)

-- among n items: what is left, doubled as often as was probed, makes up for n
pub record IsThorough (n probes left : ℕ) : Type 0 where
  pub least : n + 1 < (left + 2) * 2 ^ probes

pub IsThorough-start : (n : ℕ) → IsThorough n 0 n
IsThorough-start n = record { least = omega arith }

pub IsThorough-more : (n probes left fewer : ℕ) → IsThorough n probes left → left ≤ 2 * fewer + 2
    → IsThorough n (probes + 1) fewer
IsThorough-more n probes left fewer c l = record {
  least =
      let e = pow-succ' 2 probes in
      let same : probes + 1 ≡ suc probes = omega arith in
      let grown = mul-le-mul_left {m = left + 2} {n = 2 * fewer + 4} (2 ^ probes) (omega arith) in
      rw (same, e) (omega (arith, c.least));
}

pub IsThorough-end : (n probes left : ℕ) → IsThorough n probes left → left ≡ 0
    → n + 1 < 2 ^ (probes + 1)
IsThorough-end n probes left c none =
    let e = pow-succ' 2 probes in
    let same : probes + 1 ≡ suc probes = omega arith in
    let l : n + 1 < 2 * 2 ^ probes = subst (λ k. n + 1 < (k + 2) * 2 ^ probes) none c.least in
    rw (same, e) l
