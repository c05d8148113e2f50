-- The INLINE records of spans and levels, one after the other.
use Rattle.std.proofs.Common.{◌≡◌, ℕ, ◌+◌, ◌-◌, ◌<◌, ◌≤◌, List, [], ◌∷◌, ◌++◌, length, drop, get_or}
use Rattle.std.proofs.Common.{sym, ◌∙◌, ap, arith, suc, max}
use Rattle.std.specs.List.{flat_map}
use Rattle.std.proofs.lemmas.Grind.{flat_map-append}
use Rattle.std.proofs.lemmas.List.{append_assoc, append-nil, drop_all, drop_more}
use Rattle.pdb_symbol_files.specs.Told.{Piece}
use Rattle.pdb_symbol_files.specs.Spans.{Span, Path}
use Rattle.pdb_symbol_files.specs.Records.{Numbers, inline_record}
use Rattle.pdb_symbol_files.specs.PieceRecords.{inline_records, numbers_after, level_spans, depth_of}
use Rattle.pdb_symbol_files.specs.PieceRecords.{level_records, numbers_after_levels}
use Rattle.pdb_symbol_files.specs.RecordTexts.{inline_text}

here : (items : List (Span Path)) (i : ℕ) (s : Span Path) → i < length items
    → s ≡ get_or items i s → drop i items ≡ s ∷ drop (i + 1) items
here items i s lt is =
    drop_more items i s lt ∙ ap (λ (x : Span Path). x ∷ drop (i + 1) items) (sym is)

pub numbers_more : (items : List (Span Path)) (i : ℕ) (s : Span Path) (n next all : Numbers)
    → i < length items → s ≡ get_or items i s
    → next ≡ numbers_after n (s ∷ []) → numbers_after n (drop i items) ≡ all
    → numbers_after next (drop (i + 1) items) ≡ all
numbers_more items i s n next all lt is e so_far =
    ap (λ (x : Numbers). numbers_after x (drop (i + 1) items)) e
    ∙ sym (ap (numbers_after n) (here items i s lt is))
    ∙ so_far

pub text_more : (level : ℕ) (items : List (Span Path)) (i : ℕ) (s : Span Path) (n next : Numbers)
    (out more all : List ℕ) → i < length items → s ≡ get_or items i s
    → next ≡ numbers_after n (s ∷ []) → more ≡ out ++ inline_text (inline_record n level s)
    → out ++ flat_map inline_text (inline_records n level (drop i items)) ≡ all
    → more ++ flat_map inline_text (inline_records next level (drop (i + 1) items)) ≡ all
text_more level items i s n next out more all lt is e m so_far =
    let rest = drop (i + 1) items in
    let text = inline_text (inline_record n level s) in
    ap (λ (xs : List ℕ). xs ++ flat_map inline_text (inline_records next level rest)) m
    ∙ append_assoc out text (flat_map inline_text (inline_records next level rest))
    ∙ ap (λ (x : Numbers). out ++ (text ++ flat_map inline_text (inline_records x level rest))) e
    ∙ sym (ap (λ (xs : List (Span Path)). out ++ flat_map inline_text (inline_records n level xs))
    (here items i s lt is))
    ∙ so_far

pub numbers_end : (items : List (Span Path)) (i : ℕ) (n all : Numbers) → length items ≤ i
    → numbers_after n (drop i items) ≡ all → n ≡ all
numbers_end items i n all past so_far =
    sym (ap (numbers_after n) (drop_all i items past)) ∙ so_far

pub text_end : (level : ℕ) (items : List (Span Path)) (i : ℕ) (n : Numbers) (out all : List ℕ)
    → length items ≤ i → out ++ flat_map inline_text (inline_records n level (drop i items)) ≡ all
    → out ≡ all
text_end level items i n out all past so_far =
    sym (append-nil out)
    ∙ sym (ap (λ (xs : List (Span Path)). out ++ flat_map inline_text (inline_records n level xs))
    (drop_all i items past))
    ∙ so_far

-- ---- levels

most : (a b c all : ℕ) → max a (max b c) ≡ all → max (max b a) c ≡ all
most a b c all e = omega arith

most_none : (a all : ℕ) → max a 0 ≡ all → a ≡ all
most_none a all e = omega arith

pub depth_more : (pieces : List Piece) (i : ℕ) (p : Piece) (depth next all : ℕ)
    → i < length pieces → p ≡ get_or pieces i p → next ≡ max (length (p.told).calls) depth
    → max depth (depth_of (drop i pieces)) ≡ all → max next (depth_of (drop (i + 1) pieces)) ≡ all
depth_more pieces i p depth next all lt is e so_far =
    let rest = drop (i + 1) pieces in
    let step : drop i pieces ≡ p ∷ rest
    = drop_more pieces i p lt ∙ ap (λ (x : Piece). x ∷ rest) (sym is) in
    ap (λ (n : ℕ). max n (depth_of rest)) e
    ∙ most depth (length (p.told).calls) (depth_of rest) all
    (sym (ap (λ (xs : List Piece). max depth (depth_of xs)) step) ∙ so_far)

pub depth_end : (pieces : List Piece) (i depth all : ℕ) → length pieces ≤ i
    → max depth (depth_of (drop i pieces)) ≡ all → depth ≡ all
depth_end pieces i depth all past so_far =
    most_none depth all
    (sym (ap (λ (xs : List Piece). max depth (depth_of xs)) (drop_all i pieces past)) ∙ so_far)

left : (count level : ℕ) → level < count → count - level ≡ suc (count - (level + 1))
left count level lt = omega arith

next_level : (level : ℕ) → suc level ≡ level + 1
next_level level = omega arith

none_left : (count level : ℕ) → count ≤ level → count - level ≡ 0
none_left count level le = omega arith

pub levels_more : (pieces : List Piece) (level count : ℕ) (n next all : Numbers) → level < count
    → next ≡ numbers_after n (level_spans level pieces)
    → numbers_after_levels n level (count - level) pieces ≡ all
    → numbers_after_levels next (level + 1) (count - (level + 1)) pieces ≡ all
levels_more pieces level count n next all lt e so_far =
    let less = count - (level + 1) in
    ap (λ (x : Numbers). numbers_after_levels x (level + 1) less pieces) e
    ∙ sym (ap (λ (l : ℕ). numbers_after_levels (numbers_after n (level_spans level pieces)) l less
    pieces) (next_level level))
    ∙ sym (ap (λ (k : ℕ). numbers_after_levels n level k pieces) (left count level lt))
    ∙ so_far

pub levels_text_more : (pieces : List Piece) (level count : ℕ) (n next : Numbers)
    (out more all : List ℕ) → level < count → next ≡ numbers_after n (level_spans level pieces)
    → more ≡ out ++ flat_map inline_text (inline_records n level (level_spans level pieces))
    → out ++ flat_map inline_text (level_records n level (count - level) pieces) ≡ all
    → more ++ flat_map inline_text (level_records next (level + 1) (count - (level + 1)) pieces)
    ≡ all
levels_text_more pieces level count n next out more all lt e m so_far =
    let less = count - (level + 1) in
    let here = inline_records n level (level_spans level pieces) in
    let then = numbers_after n (level_spans level pieces) in
    let rest = level_records then (suc level) less pieces in
    ap (λ (xs : List ℕ). xs ++ flat_map inline_text (level_records next (level + 1) less pieces)) m
    ∙ ap (λ (x : Numbers). (out ++ flat_map inline_text here)
    ++ flat_map inline_text (level_records x (level + 1) less pieces)) e
    ∙ sym (ap (λ (l : ℕ). (out ++ flat_map inline_text here)
    ++ flat_map inline_text (level_records then l less pieces)) (next_level level))
    ∙ append_assoc out (flat_map inline_text here) (flat_map inline_text rest)
    ∙ sym (ap (λ (xs : List ℕ). out ++ xs) (flat_map-append inline_text here rest))
    ∙ sym (ap (λ (k : ℕ). out ++ flat_map inline_text (level_records n level k pieces))
    (left count level lt))
    ∙ so_far

pub levels_end : (pieces : List Piece) (level count : ℕ) (n all : Numbers) → count ≤ level
    → numbers_after_levels n level (count - level) pieces ≡ all → n ≡ all
levels_end pieces level count n all past so_far =
    sym (ap (λ (k : ℕ). numbers_after_levels n level k pieces) (none_left count level past))
    ∙ so_far

pub levels_text_end : (pieces : List Piece) (level count : ℕ) (n : Numbers) (out all : List ℕ)
    → count ≤ level
    → out ++ flat_map inline_text (level_records n level (count - level) pieces) ≡ all → out ≡ all
levels_text_end pieces level count n out all past so_far =
    sym (append-nil out)
    ∙ sym (ap (λ (k : ℕ). out ++ flat_map inline_text (level_records n level k pieces))
    (none_left count level past))
    ∙ so_far
