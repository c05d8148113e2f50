-- Short spans, and the spans that they stand for.
use Rattle.std.proofs.Common.{◌≡◌, ℕ, ◌+◌, ◌-◌, ◌*◌, ◌/◌, ◌%◌, ◌<◌, ◌≤◌, List, [], ◌∷◌, map}
use Rattle.std.proofs.Common.{◌^◌, length, Option, refl, sym, ap, subst, ◌∙◌, arith}
use Rattle.std.specs.List.{slice_get}
use Rattle.std.specs.Option.{option_map}
use Rattle.std.proofs.lemmas.List.{length-map}
use Rattle.std.proofs.lemmas.Option.{slice_get-map}
use Rattle.pdb_pieces.specs.declared.short_spans.ShortSpan.{ShortSpan}
use Rattle.pdb_pieces.specs.declared.span.Span.{Span}
use Rattle.pdb_pieces.specs.Halving.{Ascend, IsSplit}
use Rattle.pdb_pieces.specs.Spans.{starts_of, ArePieces}
use Rattle.pdb_pieces.specs.ShortSpans.{rank_by, whole_span, whole_spans}
use Rattle.pdb_pieces.proofs.Halving.{pieces_ascend}

-- the short span of these numbers
abbrev pub short_of : ℕ → ℕ → ℕ → ℕ → ShortSpan
short_of start code far value =
    record { place_and_code = start * 32768 + code; to_last = far; value = value }

-- a short span stands for the span that it was made of
pub shorter : (s : Span) (code far : ℕ) → code < 32768 → rank_by s.start code ≡ s.mark.rank
    → s.start + far + 1 ≡ s.end → whole_span (short_of s.start code far s.mark.value) ≡ s
shorter s code far low rank last =
    let first : (s.start * 32768 + code) / 32768 ≡ s.start = omega arith in
    let own : (s.start * 32768 + code) % 32768 ≡ code = omega arith in
    rw (first, own, rank, last) refl

-- where short spans begin, the spans do that they stand for
pub starts_alike : (xs : List ShortSpan) → map (λ (s : ShortSpan). s.place_and_code / 32768) xs
    ≡ starts_of (whole_spans xs)
starts_alike [] = refl
starts_alike (x ∷ xs) = ap (λ (ns : List ℕ). x.place_and_code / 32768 ∷ ns) (starts_alike xs)

-- where short pieces begin ascends
pub short_ascend : (xs : List ShortSpan) → ArePieces 0 18446744073709551615 (whole_spans xs)
    → Ascend 0 (map (λ (s : ShortSpan). s.place_and_code / 32768) xs)
short_ascend xs h =
    subst (Ascend 0) (sym (starts_alike xs)) (pieces_ascend 0 18446744073709551615 _ h)

-- where pieces begin ascends
pub whole_ascend : (xs : List Span) → ArePieces 0 18446744073709551615 xs
    → Ascend 0 (map (λ (s : Span). s.start) xs)
whole_ascend xs h = pieces_ascend 0 18446744073709551615 xs h

-- as many short ones begin at a place or before it as of the spans that they stand for
pub short_split : (xs : List ShortSpan) (p count : ℕ)
    → IsSplit (map (λ (s : ShortSpan). s.place_and_code / 32768) xs) p count
    → IsSplit (starts_of (whole_spans xs)) p count
short_split xs p count h = subst (λ ns. IsSplit ns p count) (starts_alike xs) h

-- short spans are as many as the spans that they stand for
as_many : (xs : List ShortSpan) → length (whole_spans xs) ≡ length xs
as_many xs = simp length-map

pub short_probes : (xs : List ShortSpan) (n : ℕ)
    → ((digits : ℕ) → length xs < 2 ^ digits → n ≤ digits) → (digits : ℕ)
    → length (whole_spans xs) < 2 ^ digits → n ≤ digits
short_probes xs n each digits h = each digits (rw (as_many xs) at h)

pub short_fewest : (xs : List ShortSpan) (n : ℕ) → length xs + 1 < 2 ^ (n + 1)
    → length (whole_spans xs) + 1 < 2 ^ (n + 1)
short_fewest xs n h = rw (as_many xs) h

-- the span that a short one with some number stands for
pub numbered_alike : (xs : List ShortSpan) (i : ℕ) → slice_get (whole_spans xs) i
    ≡ option_map whole_span (slice_get xs i)
numbered_alike xs i = slice_get-map whole_span xs i
