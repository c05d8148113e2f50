-- The spans of pieces are those of their addresses.
use Rattle.std.proofs.Common.{◌≡◌, ℕ, ◌+◌, ◌-◌, ◌<◌, ◌≤◌, List, [], ◌∷◌, ◌++◌, Bool, true, false, cond}
use Rattle.std.proofs.Common.{eqb, length, refl, sym, ◌∙◌, ap, arith, zero, suc, map}
use Rattle.std.specs.Prelude.{Option, None, Some, ◌&&◌}
use Rattle.std.specs.List.{flat_map}
use Rattle.std.specs.Option.{option_eq, option_or, option_to_list}
use Rattle.std.proofs.lemmas.Bool.{and_parts, and_from, eqb-true, eq-eqb}
use Rattle.std.proofs.lemmas.List.{append-nil}
use Rattle.pdb_symbol_files.specs.Told.{Answer, Told, Piece, end_of, answers_from, answers_of}
use Rattle.pdb_symbol_files.specs.Told.{answers_in}
use Rattle.pdb_symbol_files.specs.Stretches.{Stretch, stretches, with_first, size_of, members}
use Rattle.pdb_symbol_files.specs.Spans.{Span, same_known, span_if, spans_of, is_next}
use Rattle.pdb_symbol_files.specs.PieceRecords.{begun, longer, ended, spans}
use Rattle.pdb_symbol_files.proofs.Finding.{IsChain}

-- ---- spans of which something is known, or nothing

-- a span goes on with another one
abbrev pub joins : {K : Type 0} → (K → K → Bool) → Span (Option K) → Span (Option K) → Bool
joins same s t = eqb s.end t.start && option_eq same s.key t.key

-- a span before others
abbrev pub put : {K : Type 0} → (K → K → Bool) → Span (Option K) → List (Span (Option K))
    → List (Span (Option K))
put same s [] = s ∷ []
put same s (t ∷ rest) =
    cond (joins same s t) (record { start = s.start; end = t.end; key = s.key } ∷ rest) (s ∷ t ∷ rest)

-- the span of a stretch
abbrev pub span_of : {K : Type 0} → (Told → Option K) → Stretch Answer → Span (Option K)
span_of known s = record {
  start = (s.first).address;
  end = (s.first).address + size_of s;
  key = known (s.first).told;
}

-- those of which something is known
abbrev pub kept : {K : Type 0} → List (Span (Option K)) → List (Span K)
kept [] = []
kept (s ∷ rest) = span_if s.start (s.end - s.start) s.key ++ kept rest

abbrev pub all_spans : {K : Type 0} → (K → K → Bool) → (Told → Option K) → List Answer
    → List (Span (Option K))
all_spans same known answers = map (span_of known) (stretches (same_known same known) answers)

abbrev pub one : {K : Type 0} → (Told → Option K) → Answer → Span (Option K)
one known a = record { start = a.address; end = suc a.address; key = known a.told }

abbrev pub span_made : {K : Type 0} → ℕ → ℕ → Option K → Span (Option K)
span_made start end key = record { start = start; end = end; key = key }

plus_one : (n : ℕ) → n + suc zero ≡ suc n
plus_one n = omega arith

longer_end : (a b n : ℕ) → suc a ≡ b → a + suc (suc n) ≡ b + suc n
longer_end a b n e = omega arith

with_one : {K : Type 0} (same : K → K → Bool) (known : Told → Option K) (a : Answer)
    (rest : List (Stretch Answer))
    → map (span_of known) (with_first (same_known same known) a rest)
    ≡ put same (one known a) (map (span_of known) rest)
with_one {K} same known a [] =
    ap (λ (n : ℕ). span_made a.address n (known a.told) ∷ []) (plus_one a.address)
with_one {K} same known a (s ∷ rest) =
    let others = map (span_of known) rest in
    let now : Stretch Answer = record { first = a; more = members s } in
    let by : (b : Bool) → same_known same known a s.first ≡ b
    → map (span_of known) (cond b (now ∷ rest) (record { first = a; more = [] } ∷ s ∷ rest))
    ≡ cond b (span_made a.address (span_of known s).end (known a.told) ∷ others)
    (one known a ∷ span_of known s ∷ others)
    = λ (b : Bool). elim b as (λ (x : Bool). same_known same known a s.first ≡ x
    → map (span_of known) (cond x (now ∷ rest) (record { first = a; more = [] } ∷ s ∷ rest))
    ≡ cond x (span_made a.address (span_of known s).end (known a.told) ∷ others)
    (one known a ∷ span_of known s ∷ others)) [
      | true ↦ λ (e : same_known same known a s.first ≡ true).
          let next : suc a.address ≡ (s.first).address
          = eqb-true (suc a.address) (s.first).address
          (and_parts (is_next a s.first)
          (option_eq same (known a.told) (known (s.first).told)) e).0 in
          ap (λ (n : ℕ). span_made a.address n (known a.told) ∷ others)
          (longer_end a.address (s.first).address (length s.more) next)
      | false ↦ λ (e : same_known same known a s.first ≡ false).
          ap (λ (n : ℕ). span_made a.address n (known a.told) ∷ span_of known s ∷ others)
          (plus_one a.address)
    ] in
    by (same_known same known a s.first) refl

-- one address before others
pub all_more : {K : Type 0} (same : K → K → Bool) (known : Told → Option K) (a : Answer)
    (answers : List Answer)
    → all_spans same known (a ∷ answers) ≡ put same (one known a) (all_spans same known answers)
all_more same known a answers = with_one same known a (stretches (same_known same known) answers)

-- ---- a span before two others

pub opt_sound : {K : Type 0} (same : K → K → Bool) → ((x y : K) → same x y ≡ true → x ≡ y)
    → (x y : Option K) → option_eq same x y ≡ true → x ≡ y
opt_sound same sound None None e = refl
opt_sound same sound None (Some y) e = cc
opt_sound same sound (Some x) None e = cc
opt_sound same sound (Some x) (Some y) e = ap Some (sound x y e)

pub opt_refl : {K : Type 0} (same : K → K → Bool) → ((x : K) → same x x ≡ true)
    → (x : Option K) → option_eq same x x ≡ true
opt_refl same r None = refl
opt_refl same r (Some x) = r x

abbrev pub joined_span : {K : Type 0} → Span (Option K) → Span (Option K) → Span (Option K)
joined_span s t = record { start = s.start; end = t.end; key = s.key }

-- before two that may have become one
put_both : {K : Type 0} (same : K → K → Bool) (s t u : Span (Option K))
    (rest : List (Span (Option K))) (c : Bool)
    → put same s (cond c (joined_span t u ∷ rest) (t ∷ u ∷ rest))
    ≡ cond (joins same s t)
    (cond c (joined_span s u ∷ rest) (joined_span s t ∷ u ∷ rest))
    (s ∷ cond c (joined_span t u ∷ rest) (t ∷ u ∷ rest))
put_both same s t u rest true = refl
put_both same s t u rest false = refl

pub put_put : {K : Type 0} (same : K → K → Bool) → ((x y : K) → same x y ≡ true → x ≡ y)
    → (s t : Span (Option K)) (rest : List (Span (Option K)))
    → put same s (put same t rest)
    ≡ cond (joins same s t) (put same (joined_span s t) rest) (s ∷ put same t rest)
put_put same sound s t [] = refl
put_put {K} same sound s t (u ∷ rest) =
    let far = joined_span s u ∷ rest in
    let near = joined_span s t ∷ u ∷ rest in
    let by : (b : Bool) → joins same s t ≡ b
    → cond b (cond (joins same t u) far near) (s ∷ put same t (u ∷ rest))
    ≡ cond b (cond (joins same (joined_span s t) u) far near) (s ∷ put same t (u ∷ rest))
    = λ (b : Bool). elim b as (λ (x : Bool). joins same s t ≡ x
    → cond x (cond (joins same t u) far near) (s ∷ put same t (u ∷ rest))
    ≡ cond x (cond (joins same (joined_span s t) u) far near) (s ∷ put same t (u ∷ rest))) [
      | true ↦ λ (e : joins same s t ≡ true).
          let keys : s.key ≡ t.key
          = opt_sound same sound s.key t.key
          (and_parts (eqb s.end t.start) (option_eq same s.key t.key) e).1 in
          ap (λ (k : Option K). cond (eqb t.end u.start && option_eq same k u.key) far near)
          (sym keys)
      | false ↦ λ (e : joins same s t ≡ false). refl
    ] in
    put_both same s t u rest (joins same t u) ∙ by (joins same s t) refl

-- ---- a piece before others

abbrev pub piece_span : {K : Type 0} → (Told → Option K) → ℕ → ℕ → Told → Span (Option K)
piece_span known a n t = record { start = a; end = a + n; key = known t }

step_end : (a n : ℕ) → suc a + suc n ≡ a + suc (suc n)
step_end a n = omega arith

pub block_more : {K : Type 0} (same : K → K → Bool) → ((x y : K) → same x y ≡ true → x ≡ y)
    → ((x : K) → same x x ≡ true) → (known : Told → Option K) (t : Told) (answers : List Answer)
    (n a : ℕ)
    → all_spans same known (answers_from a (suc n) t ++ answers)
    ≡ put same (piece_span known a (suc n) t) (all_spans same known answers)
block_more same sound r known t answers zero a =
    all_more same known (record { address = a; told = t }) answers
    ∙ ap (λ (e : ℕ). put same (span_made a e (known t)) (all_spans same known answers))
    (sym (plus_one a))
block_more {K} same sound r known t answers (suc n) a =
    let x : Answer = record { address = a; told = t } in
    let next = piece_span known (suc a) (suc n) t in
    let rest = all_spans same known answers in
    let whole : joins same (one known x) next ≡ true
    = and_from (eqb (suc a) (suc a)) (option_eq same (known t) (known t))
    (eq-eqb (suc a) (suc a) refl) (opt_refl same r (known t)) in
    all_more same known x (answers_from (suc a) (suc n) t ++ answers)
    ∙ ap (put same (one known x)) (block_more same sound r known t answers n (suc a))
    ∙ put_put same sound (one known x) next rest
    ∙ ap (λ (b : Bool). cond b (put same (joined_span (one known x) next) rest)
    (one known x ∷ put same next rest)) whole
    ∙ ap (λ (e : ℕ). put same (span_made a e (known t)) rest) (step_end a n)

-- ---- the spans of pieces

abbrev pub run_if : {K : Type 0} → ℕ → ℕ → Option K → Option (Span K)
run_if start end None = None
run_if start end (Some key) = Some (record { start = start; end = end; key = key })

length_back : (a n : ℕ) → (a + n) - a ≡ n
length_back a n = omega arith

back : (s e : ℕ) → s ≤ e → s + (e - s) ≡ e
back s e le = omega arith

abbrev plain_of : {K : Type 0} → ℕ → ℕ → K → Span K
plain_of start end key = record { start = start; end = end; key = key }

if_run : {K : Type 0} (s e : ℕ) (k : Option K) → s ≤ e
    → span_if s (e - s) k ≡ option_to_list (run_if s e k)
if_run s e None le = refl
if_run s e (Some k) le = ap (λ (n : ℕ). plain_of s n k ∷ []) (back s e le)

-- a piece after a span that may run on
on_piece : {K : Type 0} (same : K → K → Bool) (s e : ℕ) (p : Piece)
    (flow : Span (Option K) → List (Span (Option K))) (go : Option (Span K) → List (Span K))
    → ((a : ℕ) (k : Option K) → a ≤ end_of p
    → kept (flow (span_made a (end_of p) k)) ≡ go (run_if a (end_of p) k))
    → s ≤ e → s ≤ end_of p → e ≡ p.address → (x y : Option K) (b : Bool) → option_eq same x y ≡ b
    → kept (cond b (flow (span_made s (end_of p) x))
    (span_made s e x ∷ flow (span_made p.address (end_of p) y)))
    ≡ ended (run_if s e x) (longer same (run_if s e x) p y)
    ++ go (option_or (longer same (run_if s e x) p y) (begun p y))
on_piece same s e p flow go ih le far at None None true h = ih s None far
on_piece same s e p flow go ih le far at None None false h = cc
on_piece same s e p flow go ih le far at None (Some y) true h = cc
on_piece same s e p flow go ih le far at None (Some y) false h =
    ih p.address (Some y) (omega arith)
on_piece same s e p flow go ih le far at (Some x) None true h = cc
on_piece {K} same s e p flow go ih le far at (Some x) None false h =
    ap (λ (xs : List (Span K)). xs ++ kept (flow (span_made p.address (end_of p) None)))
    (if_run s e (Some x) le)
    ∙ ap (λ (xs : List (Span K)). plain_of s e x ∷ xs) (ih p.address None (omega arith))
on_piece {K} same s e p flow go ih le far at (Some x) (Some y) true h =
    ih s (Some x) far
    ∙ sym (ap (λ (b : Bool). ended (run_if s e (Some x))
    (cond b (run_if s (end_of p) (Some x)) None)
    ++ go (option_or (cond b (run_if s (end_of p) (Some x)) None) (begun p (Some y)))) h)
on_piece {K} same s e p flow go ih le far at (Some x) (Some y) false h =
    ap (λ (xs : List (Span K)). xs ++ kept (flow (span_made p.address (end_of p) (Some y))))
    (if_run s e (Some x) le)
    ∙ ap (λ (xs : List (Span K)). plain_of s e x ∷ xs) (ih p.address (Some y) (omega arith))
    ∙ sym (ap (λ (b : Bool). ended (run_if s e (Some x))
    (cond b (run_if s (end_of p) (Some x)) None)
    ++ go (option_or (cond b (run_if s (end_of p) (Some x)) None) (begun p (Some y)))) h)

-- a piece after a span: what it makes of the spans after it
after_span : {K : Type 0} (same : K → K → Bool) → ((x y : K) → same x y ≡ true → x ≡ y)
    → (known : Told → Option K) (s e : ℕ) (x : Option K) (p : Piece) (rest : List (Span (Option K)))
    → e ≡ p.address
    → put same (span_made s e x)
    (put same (span_made p.address (end_of p) (known p.told)) rest)
    ≡ cond (option_eq same x (known p.told)) (put same (span_made s (end_of p) x) rest)
    (span_made s e x ∷ put same (span_made p.address (end_of p) (known p.told)) rest)
after_span same sound known s e x p rest at =
    let next = span_made p.address (end_of p) (known p.told) in
    put_put same sound (span_made s e x) next rest
    ∙ ap (λ (b : Bool). cond (b && option_eq same x (known p.told))
    (put same (span_made s (end_of p) x) rest) (span_made s e x ∷ put same next rest))
    (eq-eqb e p.address at)

-- pieces that have addresses, before others
pub piece_more : {K : Type 0} (same : K → K → Bool) → ((x y : K) → same x y ≡ true → x ≡ y)
    → ((x : K) → same x x ≡ true) → (known : Told → Option K) (t : Told) (answers : List Answer)
    (a n : ℕ) → 0 < n
    → all_spans same known (answers_from a n t ++ answers)
    ≡ put same (span_made a (a + n) (known t)) (all_spans same known answers)
piece_more same sound r known t answers a zero some = absurd (omega arith)
piece_more same sound r known t answers a (suc n) some =
    block_more same sound r known t answers n a

follow : {K : Type 0} (same : K → K → Bool) → ((x y : K) → same x y ≡ true → x ≡ y)
    → ((x : K) → same x x ≡ true) → (known : Told → Option K) (pieces : List Piece) (s e : ℕ)
    (x : Option K) → s ≤ e → IsChain e pieces
    → kept (put same (span_made s e x) (all_spans same known (answers_in pieces)))
    ≡ spans same (λ p. known p.told) (run_if s e x) pieces
follow {K} same sound r known [] s e x le c =
    ap (λ (xs : List (Span K)). xs ++ []) (if_run s e x le)
    ∙ append-nil (option_to_list (run_if s e x))
follow {K} same sound r known (p ∷ pieces) s e x le c =
    let start : p.address ≡ e = c.0 in
    let some : 0 < p.size = c.1 in
    let rest = all_spans same known (answers_in pieces) in
    ap (λ (xs : List (Span (Option K))). kept (put same (span_made s e x) xs))
    (piece_more same sound r known p.told (answers_in pieces) p.address p.size some)
    ∙ ap (λ (xs : List (Span (Option K))). kept xs)
    (after_span same sound known s e x p rest (sym start))
    ∙ on_piece same s e p (λ (y : Span (Option K)). put same y rest)
    (λ (y : Option (Span K)). spans same (λ (q : Piece). known q.told) y pieces)
    (λ (a : ℕ) (k : Option K) (far : a ≤ end_of p).
    follow same sound r known pieces a (end_of p) k far c.2)
    le (omega arith) (sym start) x (known p.told) (option_eq same x (known p.told)) refl

start_none : {K : Type 0} (same : K → K → Bool) (p : Piece) (k : Option K)
    (go : Option (Span K) → List (Span K))
    → go (run_if p.address (end_of p) k) ≡ go (begun p k)
start_none same p None go = refl
start_none same p (Some k) go = refl

-- the spans that are kept are those of the stretches
pub kept_spans : {K : Type 0} (known : Told → Option K) (rest : List (Stretch Answer))
    → kept (map (span_of known) rest)
    ≡ flat_map (λ s. span_if (s.first).address (size_of s) (known (s.first).told)) rest
kept_spans known [] = refl
kept_spans {K} known (s ∷ rest) =
    let others = flat_map (λ (x : Stretch Answer). span_if (x.first).address (size_of x)
    (known (x.first).told)) rest in
    let n : ((s.first).address + size_of s) - (s.first).address ≡ size_of s
    = length_back (s.first).address (size_of s) in
    ap (λ (xs : List (Span K)). span_if (s.first).address
    (((s.first).address + size_of s) - (s.first).address) (known (s.first).told) ++ xs)
    (kept_spans known rest)
    ∙ ap (λ (x : ℕ). span_if (s.first).address x (known (s.first).told) ++ others) n

-- the spans of pieces side by side are those of their addresses
pub same_spans : {K : Type 0} (same : K → K → Bool) → ((x y : K) → same x y ≡ true → x ≡ y)
    → ((x : K) → same x x ≡ true) → (known : Told → Option K) (e : ℕ) (pieces : List Piece)
    → IsChain e pieces
    → spans same (λ p. known p.told) None pieces ≡ spans_of same known (answers_in pieces)
same_spans same sound r known e [] c = refl
same_spans {K} same sound r known e (p ∷ pieces) c =
    let some : 0 < p.size = c.1 in
    let rest = all_spans same known (answers_in pieces) in
    sym (start_none same p (known p.told)
    (λ (y : Option (Span K)). spans same (λ (q : Piece). known q.told) y pieces))
    ∙ sym (follow same sound r known pieces p.address (end_of p) (known p.told) (omega arith) c.2)
    ∙ sym (ap (λ (xs : List (Span (Option K))). kept xs)
    (piece_more same sound r known p.told (answers_in pieces) p.address p.size some))
    ∙ kept_spans known (stretches (same_known same known) (answers_of p ++ answers_in pieces))
