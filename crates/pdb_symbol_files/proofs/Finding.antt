-- Stretches have at each address what its piece has.
use Rattle.std.proofs.Common.{◌≡◌, ℕ, ◌<◌, ◌≤◌, List, [], ◌∷◌, ◌++◌, Bool, true, false, cond, leb, ltb}
use Rattle.std.proofs.Common.{refl, sym, ◌∙◌, ap, arith, inl, inr, eqb}
use Rattle.std.specs.Prelude.{Option, None, Some, ◌&&◌}
use Rattle.std.specs.Option.{option_or}
use Rattle.std.specs.Str.{bytes_eq}
use Rattle.std.proofs.lemmas.Bool.{le-leb, lt-leb, lt-ltb, le-ltb, ltb-true, eqb-true, and_parts, and_from}
use Rattle.std.proofs.lemmas.Bool.{and_left, and_right, cases_lt}
use Rattle.std.proofs.lemmas.Slice.Eq.{bytes_eq-Decides}
use Rattle.pdb_symbol_files.specs.Lookup.{holds}
use Rattle.pdb_symbol_files.specs.PieceRecords.{begun, ended, is_key, spans}
use Rattle.pdb_symbol_files.specs.Spans.{Path, same_calls, same_place, SourcePlace, Span}
use Rattle.pdb_symbol_files.specs.Told.{Call, end_of, Piece, same_call, same_path}

-- ---- an address in a range, or not

pub in_range : (s e a : ℕ) → s ≤ a → a < e → (leb s a && ltb a e) ≡ true
in_range s e a low high = and_from (leb s a) (ltb a e) (le-leb s a low) (lt-ltb a e high)

pub below_range : (s e a : ℕ) → a < s → (leb s a && ltb a e) ≡ false
below_range s e a low = and_left (leb s a) (ltb a e) (lt-leb s a low)

pub after_range : (s e a : ℕ) → e ≤ a → (leb s a && ltb a e) ≡ false
after_range s e a high = and_right (leb s a) (ltb a e) (le-ltb a e high)

-- two ranges, one after the other, with one value
joined : {X : Type 0} (s e m a : ℕ) (x other : X) → s ≤ e → e ≤ m
    → cond (leb s a && ltb a m) x other
    ≡ cond (leb s a && ltb a e) x (cond (leb e a && ltb a m) x other)
joined {X} s e m a x other se em =
    let whole : (b c d : Bool) → (leb s a && ltb a m) ≡ b → (leb s a && ltb a e) ≡ c
    → (leb e a && ltb a m) ≡ d → cond b x other ≡ cond c x (cond d x other)
    → cond (leb s a && ltb a m) x other
    ≡ cond (leb s a && ltb a e) x (cond (leb e a && ltb a m) x other)
    = λ (b c d : Bool) (p : (leb s a && ltb a m) ≡ b) (q : (leb s a && ltb a e) ≡ c)
    (r : (leb e a && ltb a m) ≡ d) (h : cond b x other ≡ cond c x (cond d x other)).
    ap (λ (y : Bool). cond y x other) p ∙ h
    ∙ sym (ap (λ (y : Bool). cond y x (cond d x other)) q)
    ∙ sym (ap (λ (y : Bool). cond (leb s a && ltb a e) x (cond y x other)) r) in
    elim (cases_lt a s) [
      | inl low ↦ whole false false false (below_range s m a low) (below_range s e a low)
          (below_range e m a (omega arith)) refl
      | inr low ↦ elim (cases_lt a e) [
        | inl high ↦ whole true true false (in_range s m a low (omega arith))
            (in_range s e a low high) (below_range e m a high) refl
        | inr high ↦ elim (cases_lt a m) [
          | inl in_both ↦ whole true false true (in_range s m a low in_both)
              (after_range s e a high) (in_range e m a high in_both) refl
          | inr past ↦ whole false false false (after_range s m a past)
              (after_range s e a high) (after_range e m a past) refl
        ]
      ]
    ]

-- ---- what pieces and stretches have at an address

-- pieces that begin at an address, each where the one before ends
abbrev pub IsChain : ℕ → List Piece → Type 0
IsChain e [] = Unit {0}
IsChain e (p ∷ pieces) = (p.address ≡ e) × (0 < p.size) × IsChain (end_of p) pieces

abbrev pub known_at : {K : Type 0} → (Piece → Option K) → List Piece → ℕ → Option K
known_at known [] a = None
known_at known (p ∷ pieces) a =
    cond (holds p.address p.size a) (known p) (known_at known pieces a)

abbrev pub span_at : {K : Type 0} → List (Span K) → ℕ → Option K
span_at [] a = None
span_at (s ∷ rest) a = cond (leb s.start a && ltb a s.end) (Some s.key) (span_at rest a)

-- nothing is known before the first piece
known_before : {K : Type 0} (known : Piece → Option K) (e a : ℕ) (pieces : List Piece)
    → IsChain e pieces → a < e → known_at known pieces a ≡ None
known_before known e a [] c lt = refl
known_before known e a (p ∷ pieces) c lt =
    let start : p.address ≡ e = c.0 in
    let some : 0 < p.size = c.1 in
    ap (λ (b : Bool). cond b (known p) (known_at known pieces a))
    (below_range p.address (end_of p) a (omega arith))
    ∙ known_before known (end_of p) a pieces c.2 (omega arith)

-- ---- stretches

-- a stretch that runs up to an address
abbrev pub Runs : {K : Type 0} → ℕ → Option (Span K) → Type 0
Runs e None = Unit {0}
Runs e (Some s) = (s.start < s.end) × (s.end ≡ e)

abbrev run_at : {K : Type 0} → Option (Span K) → ℕ → Option K → Option K
run_at None a other = other
run_at (Some s) a other = cond (leb s.start a && ltb a s.end) (Some s.key) other

-- what comes once a stretch may have begun with a piece
started : {K : Type 0} (p : Piece) (a : ℕ) (other : Option K) (flow : Option (Span K) → Option K)
    → ((x : Option (Span K)) → Runs (end_of p) x → flow x ≡ run_at x a other)
    → (holds p.address p.size a ≡ true → other ≡ None) → 0 < p.size
    → (k : Option K) → flow (begun p k) ≡ cond (holds p.address p.size a) k other
started {K} p a other flow ih none some (Some k) =
    ih (begun p (Some k)) (omega arith, refl)
started {K} p a other flow ih none some None =
    let by : (b : Bool) → holds p.address p.size a ≡ b → other ≡ cond b None other
    = λ (b : Bool). elim b as (λ (x : Bool). holds p.address p.size a ≡ x → other ≡ cond x None other) [
      | true ↦ none
      | false ↦ λ (e : holds p.address p.size a ≡ false). refl
    ] in
    ih None tt ∙ by (holds p.address p.size a) refl

-- what comes once a running stretch may have gone on with a piece
gone_on : {K : Type 0} (same : K → K → Bool) → ((x y : K) → same x y ≡ true → x ≡ y)
    → (s : Span K) (p : Piece) (a : ℕ) (other : Option K)
    (flow : Option (Span K) → List (Span K))
    → ((x : Option (Span K)) → Runs (end_of p) x → span_at (flow x) a ≡ run_at x a other)
    → (holds p.address p.size a ≡ true → other ≡ None) → 0 < p.size
    → s.start < s.end → p.address ≡ s.end
    → (k : Option K) (b : Bool) → is_key same s.key k ≡ b
    → span_at
    (ended (Some s) (cond b (Some (record { start = s.start; end = end_of p; key = s.key })) None)
    ++ flow (option_or
    (cond b (Some (record { start = s.start; end = end_of p; key = s.key })) None) (begun p k))) a
    ≡ run_at (Some s) a (cond (holds p.address p.size a) k other)
gone_on {K} same sound s p a other flow ih none some long at None true e = cc
gone_on {K} same sound s p a other flow ih none some long at (Some k) true e =
    let key : s.key ≡ k = sound s.key k e in
    let now : Span K = record { start = s.start; end = end_of p; key = s.key } in
    let far : Runs (end_of p) (Some now) = (omega arith, refl) in
    let first : span_at (flow (Some now)) a
    ≡ cond (leb s.start a && ltb a (end_of p)) (Some s.key) other
    = ih (Some now) far in
    first
    ∙ joined s.start s.end (end_of p) a (Some s.key) other (omega arith) (omega arith)
    ∙ sym (ap (λ (m : ℕ). cond (leb s.start a && ltb a s.end) (Some s.key)
    (cond (leb m a && ltb a (end_of p)) (Some s.key) other)) at)
    ∙ ap (λ (x : K). cond (leb s.start a && ltb a s.end) (Some s.key)
    (cond (holds p.address p.size a) (Some x) other)) key
gone_on {K} same sound s p a other flow ih none some long at k false e =
    ap (cond (leb s.start a && ltb a s.end) (Some s.key))
    (started p a other (λ (x : Option (Span K)). span_at (flow x) a) ih none some k)

pub finds : {K : Type 0} (same : K → K → Bool) → ((x y : K) → same x y ≡ true → x ≡ y)
    → (known : Piece → Option K) (a : ℕ) (pieces : List Piece) (e : ℕ)
    (running : Option (Span K)) → Runs e running → IsChain e pieces
    → span_at (spans same known running pieces) a
    ≡ run_at running a (known_at known pieces a)
finds {K} same sound known a [] e None r c = refl
finds {K} same sound known a [] e (Some s) r c = refl
finds {K} same sound known a (p ∷ pieces) e None r c =
    let some : 0 < p.size = c.1 in
    let none : holds p.address p.size a ≡ true → known_at known pieces a ≡ None
    = λ (h : holds p.address p.size a ≡ true).
    known_before known (end_of p) a pieces c.2
    (ltb-true a (end_of p) (and_parts (leb p.address a) (ltb a (end_of p)) h).1) in
    started p a (known_at known pieces a)
    (λ (x : Option (Span K)). span_at (spans same known x pieces) a)
    (λ (x : Option (Span K)) (h : Runs (end_of p) x).
    finds same sound known a pieces (end_of p) x h c.2)
    none some (known p)
finds {K} same sound known a (p ∷ pieces) e (Some s) r c =
    let some : 0 < p.size = c.1 in
    let long : s.start < s.end = r.0 in
    let last : s.end ≡ e = r.1 in
    let start : p.address ≡ e = c.0 in
    let none : holds p.address p.size a ≡ true → known_at known pieces a ≡ None
    = λ (h : holds p.address p.size a ≡ true).
    known_before known (end_of p) a pieces c.2
    (ltb-true a (end_of p) (and_parts (leb p.address a) (ltb a (end_of p)) h).1) in
    gone_on same sound s p a (known_at known pieces a)
    (λ (x : Option (Span K)). spans same known x pieces)
    (λ (x : Option (Span K)) (h : Runs (end_of p) x).
    finds same sound known a pieces (end_of p) x h c.2)
    none some long (start ∙ sym last) (known p) (is_key same s.key (known p)) refl

-- ---- stretches rise

abbrev pub IsRising : {K : Type 0} → ℕ → List (Span K) → Type 0
IsRising low [] = Unit {0}
IsRising low (s ∷ rest) = (low ≤ s.start) × (s.start < s.end) × IsRising s.end rest

abbrev pub RunsFrom : {K : Type 0} → ℕ → ℕ → Option (Span K) → Type 0
RunsFrom low e None = Unit {0}
RunsFrom low e (Some s) = (low ≤ s.start) × (s.start < s.end) × (s.end ≡ e)

begun_from : {K : Type 0} (low : ℕ) (p : Piece) (k : Option K) → low ≤ p.address → 0 < p.size
    → RunsFrom low (end_of p) (begun p k)
begun_from low p None le some = tt
begun_from low p (Some k) le some = (le, omega arith, refl)

rises_on : {K : Type 0} (low : ℕ) (s : Span K) (p : Piece)
    (flow : Option (Span K) → List (Span K))
    → ((m : ℕ) (x : Option (Span K)) → m ≤ end_of p → RunsFrom m (end_of p) x
    → IsRising m (flow x))
    → 0 < p.size → low ≤ s.start → s.start < s.end → p.address ≡ s.end → (k : Option K) (b : Bool)
    → IsRising low
    (ended (Some s) (cond b (Some (record { start = s.start; end = end_of p; key = s.key })) None)
    ++ flow (option_or
    (cond b (Some (record { start = s.start; end = end_of p; key = s.key })) None) (begun p k)))
rises_on {K} low s p flow ih some le long at k true =
    let now : Span K = record { start = s.start; end = end_of p; key = s.key } in
    ih low (Some now) (omega arith) (le, omega arith, refl)
rises_on {K} low s p flow ih some le long at k false =
    (le, long, ih s.end (begun p k) (omega arith) (begun_from s.end p k (omega arith) some))

pub rises : {K : Type 0} (same : K → K → Bool) (known : Piece → Option K) (pieces : List Piece)
    (low e : ℕ) (running : Option (Span K)) → low ≤ e → RunsFrom low e running
    → IsChain e pieces → IsRising low (spans same known running pieces)
rises {K} same known [] low e None le r c = tt
rises {K} same known [] low e (Some s) le r c = (r.0, r.1, tt)
rises {K} same known (p ∷ pieces) low e None le r c =
    let some : 0 < p.size = c.1 in
    let start : p.address ≡ e = c.0 in
    rises same known pieces low (end_of p) (begun p (known p)) (omega arith)
    (begun_from low p (known p) (omega arith) some) c.2
rises {K} same known (p ∷ pieces) low e (Some s) le r c =
    let some : 0 < p.size = c.1 in
    let start : p.address ≡ e = c.0 in
    let last : s.end ≡ e = r.2 in
    rises_on low s p (λ (x : Option (Span K)). spans same known x pieces)
    (λ (m : ℕ) (x : Option (Span K)) (h : m ≤ end_of p) (f : RunsFrom m (end_of p) x).
    rises same known pieces m (end_of p) x h f c.2)
    some r.0 r.1 (start ∙ sym last) (known p) (is_key same s.key (known p))

-- ---- what is the same is equal

pub text_equal : (a b : List ℕ) → bytes_eq a b ≡ true → a ≡ b
text_equal a b e = (bytes_eq-Decides a b).0 e

place_made : List ℕ → ℕ → SourcePlace
place_made file line = record { file = file; line = line }

pub place_equal : (a b : SourcePlace) → same_place a b ≡ true → a ≡ b
unfolding place_made
place_equal a b e =
    let both = and_parts (eqb a.line b.line) (bytes_eq a.file b.file) e in
    let first : place_made a.file a.line ≡ place_made b.file a.line
    = ap (λ (x : List ℕ). place_made x a.line) (text_equal a.file b.file both.1) in
    let second : place_made b.file a.line ≡ place_made b.file b.line
    = ap (place_made b.file) (eqb-true a.line b.line both.0) in
    first ∙ second

call_made : List ℕ → ℕ → List ℕ → Call
call_made file line callee = record { file = file; line = line; callee = callee }

call_equal : (a b : Call) → same_call a b ≡ true → a ≡ b
unfolding call_made
call_equal a b e =
    let both = and_parts (eqb a.line b.line && bytes_eq a.file b.file) (bytes_eq a.callee b.callee) e in
    let two = and_parts (eqb a.line b.line) (bytes_eq a.file b.file) both.0 in
    let first : call_made a.file a.line a.callee ≡ call_made b.file a.line a.callee
    = ap (λ (x : List ℕ). call_made x a.line a.callee) (text_equal a.file b.file two.1) in
    let second : call_made b.file a.line a.callee ≡ call_made b.file b.line a.callee
    = ap (λ (x : ℕ). call_made b.file x a.callee) (eqb-true a.line b.line two.0) in
    let third : call_made b.file b.line a.callee ≡ call_made b.file b.line b.callee
    = ap (call_made b.file b.line) (text_equal a.callee b.callee both.1) in
    first ∙ second ∙ third

path_equal : (a b : List Call) → same_path a b ≡ true → a ≡ b
path_equal [] [] e = refl
path_equal [] (y ∷ b) e = cc
path_equal (x ∷ a) [] e = cc
path_equal (x ∷ a) (y ∷ b) e =
    let both = and_parts (same_call x y) (same_path a b) e in
    ap (λ (z : Call). z ∷ a) (call_equal x y both.0) ∙ ap (λ (zs : List Call). y ∷ zs) (path_equal a b both.1)

path_made : List Call → Call → Path
path_made outer call = record { outer = outer; call = call }

pub calls_equal : (a b : Path) → same_calls a b ≡ true → a ≡ b
unfolding path_made
calls_equal a b e =
    let both = and_parts (same_call a.call b.call) (same_path a.outer b.outer) e in
    let first : path_made a.outer a.call ≡ path_made b.outer a.call
    = ap (λ (x : List Call). path_made x a.call) (path_equal a.outer b.outer both.1) in
    let second : path_made b.outer a.call ≡ path_made b.outer b.call
    = ap (path_made b.outer) (call_equal a.call b.call both.0) in
    first ∙ second
