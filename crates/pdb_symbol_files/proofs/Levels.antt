-- INLINE records, level by level.
use Rattle.std.proofs.Common.{◌≡◌, ℕ, ◌+◌, ◌-◌, ◌<◌, ◌≤◌, List, [], ◌∷◌, ◌++◌, Bool, true, false, cond}
use Rattle.std.proofs.Common.{leb, ltb, eqb, refl, sym, ◌∙◌, ap, subst, arith, inl, inr, zero}
use Rattle.std.proofs.Common.{suc}
use Rattle.std.specs.Prelude.{Option, None, Some, ◌&&◌, ◌⊎◌}
use Rattle.std.proofs.lemmas.Bool.{le-leb, lt-leb, eq-eqb, ne_eqb, and_left, and_right, cases_lt}
use Rattle.std.proofs.lemmas.Bool.{cases_eq}
use Rattle.pdb_symbol_files.specs.Lookup.{held, holds, inline_at, later, nearest, text_at}
use Rattle.pdb_symbol_files.specs.PieceRecords.{inline_records, level_records, level_spans}
use Rattle.pdb_symbol_files.specs.PieceRecords.{numbers_after, numbers_after_levels, with_call}
use Rattle.pdb_symbol_files.specs.Records.{inline_record, InlineRecord, Numbers}
use Rattle.pdb_symbol_files.specs.Spans.{Path, Span}
use Rattle.pdb_symbol_files.specs.Told.{Piece}
use Rattle.pdb_symbol_files.proofs.Finding.{in_range, below_range, after_range, span_at, IsRising}
use Rattle.pdb_symbol_files.proofs.Numbered.{Begins, begins_itself, begins_on, begins_used}
use Rattle.pdb_symbol_files.proofs.Numbered.{text_back, range_same}

-- ---- numbers stay

pub record Extends (all n : Numbers) : Type 0 where
  pub files : Begins all.files n.files
  pub origins : Begins all.origins n.origins

pub extends_itself : (n : Numbers) → Extends n n
extends_itself n = record { files = begins_itself n.files; origins = begins_itself n.origins }

pub extends_on : (a b c : Numbers) → Extends a b → Extends b c → Extends a c
extends_on a b c x y = record {
  files = begins_on a.files b.files c.files x.files y.files;
  origins = begins_on a.origins b.origins c.origins x.origins y.origins;
}

pub extends_after : (n : Numbers) (rest : List (Span Path)) → Extends (numbers_after n rest) n
extends_after n [] = extends_itself n
extends_after n (s ∷ rest) =
    let call = (s.key).call in
    extends_on (numbers_after (with_call n call) rest) (with_call n call) n
    (extends_after (with_call n call) rest)
    (record { files = begins_used n.files call.file; origins = begins_used n.origins call.callee })

pub extends_levels : (n : Numbers) (level count : ℕ) (pieces : List Piece)
    → Extends (numbers_after_levels n level count pieces) n
extends_levels n level zero pieces = extends_itself n
extends_levels n level (suc count) pieces =
    let next = numbers_after n (level_spans level pieces) in
    extends_on (numbers_after_levels next (suc level) count pieces) next n
    (extends_levels next (suc level) count pieces)
    (extends_after n (level_spans level pieces))

-- ---- the nearest record of one level

-- a record says what a path does
abbrev pub Says : Numbers → Option InlineRecord → Option Path → Type 0
Says n None None = Unit {0}
Says n None (Some p) = ⊥
Says n (Some r) None = ⊥
Says n (Some r) (Some p) = (text_at n.files r.file ≡ (p.call).file) × (r.line ≡ (p.call).line)
    × (text_at n.origins r.origin ≡ (p.call).callee)

none_before : (n : Numbers) (level a e : ℕ) (rest : List (Span Path)) → IsRising e rest → a < e
    → nearest level a (inline_records n level rest) ≡ None
none_before n level a e [] r lt = refl
none_before n level a e (s ∷ rest) r lt =
    let low : e ≤ s.start = r.0 in
    let long : s.start < s.end = r.1 in
    let next = with_call n (s.key).call in
    let more = nearest level a (inline_records next level rest) in
    ap (λ (b : Bool). cond b (later (inline_record n level s) more) more)
    (and_right (eqb level level) (leb s.start a) (lt-leb s.start a (omega arith)))
    ∙ none_before next level a s.end rest r.2 (omega arith)

some_same : (x y : InlineRecord) → Some x ≡ Some y → x ≡ y
some_same x y e = cc

above : (e : ℕ) (x y : InlineRecord) → Some x ≡ Some y → e ≤ x.address → e ≤ y.address
above e x y i le =
    let P : InlineRecord → Type 0 = λ (z : InlineRecord). e ≤ z.address in
    subst P (some_same x y i) le

one_of : (e : ℕ) (r s q : InlineRecord) (c : Bool) → cond c (Some s) (Some r) ≡ Some q
    → e ≤ r.address → e ≤ s.address → e ≤ q.address
one_of e r s q true i lr ls = above e s q i ls
one_of e r s q false i lr ls = above e r q i lr

later_from : (e : ℕ) (r q : InlineRecord) (m : Option InlineRecord)
    → ((s : InlineRecord) → m ≡ Some s → e ≤ s.address) → e ≤ r.address
    → later r m ≡ Some q → e ≤ q.address
later_from e r q None h le i = above e r q i le
later_from e r q (Some s) h le i = one_of e r s q (leb r.address s.address) i le (h s refl)

either_from : (e : ℕ) (r q : InlineRecord) (m : Option InlineRecord) (b : Bool)
    → ((s : InlineRecord) → m ≡ Some s → e ≤ s.address) → e ≤ r.address
    → cond b (later r m) m ≡ Some q → e ≤ q.address
either_from e r q m true h le i = later_from e r q m h le i
either_from e r q m false h le i = h q i

nearest_from : (n : Numbers) (level a e : ℕ) (rest : List (Span Path)) → IsRising e rest
    → (q : InlineRecord) → nearest level a (inline_records n level rest) ≡ Some q → e ≤ q.address
nearest_from n level a e [] r q i = let bad : ⊥ = cc in absurd bad
nearest_from n level a e (s ∷ rest) r q i =
    let low : e ≤ s.start = r.0 in
    let long : s.start < s.end = r.1 in
    let next = with_call n (s.key).call in
    either_from e (inline_record n level s) q (nearest level a (inline_records next level rest))
    (eqb level level && leb s.start a)
    (λ (x : InlineRecord) (j : nearest level a (inline_records next level rest) ≡ Some x).
    let more : s.end ≤ x.address = nearest_from next level a s.end rest r.2 x j in
    omega arith)
    low i

-- past a record's range it doesn't count, and those after it do
past_range : (n : Numbers) (a : ℕ) (r : InlineRecord) (m : Option InlineRecord)
    (other : Option Path) → holds r.address r.size a ≡ false
    → ((s : InlineRecord) → m ≡ Some s → r.address ≤ s.address) → Says n (held a m) other
    → Says n (held a (later r m)) other
past_range n a r None other out h says =
    let P : Bool → Type 0 = λ (b : Bool). Says n (cond b (Some r) None) other in
    subst P (sym out) says
past_range n a r (Some s) other out h says =
    let P : Bool → Type 0 = λ (b : Bool). Says n (held a (cond b (Some s) (Some r))) other in
    subst P (sym (le-leb r.address s.address (h s refl))) says

level_found : (all n : Numbers) (level a e : ℕ) (rest : List (Span Path)) → IsRising e rest
    → Extends all (numbers_after n rest)
    → Says all (held a (nearest level a (inline_records n level rest))) (span_at rest a)
level_found all n level a e [] r x = tt
level_found all n level a e (s ∷ rest) r x =
    let long : s.start < s.end = r.1 in
    let call = (s.key).call in
    let next = with_call n call in
    let one = inline_record n level s in
    let m = nearest level a (inline_records next level rest) in
    let other = span_at rest a in
    let front = extends_on all (numbers_after next rest) next x (extends_after next rest) in
    let facts : Says all (Some one) (Some s.key) = (
      text_back all.files n.files (front.files).more call.file (front.files).is,
      refl,
      text_back all.origins n.origins (front.origins).more call.callee (front.origins).is,
    ) in
    let ih : Says all (held a m) other = level_found all next level a s.end rest r.2 x in
    let P : Bool → Bool → Type 0
    = λ (b c : Bool). Says all (held a (cond b (later one m) m)) (cond c (Some s.key) other) in
    let same : (eqb level level && leb s.start a) ≡ leb s.start a
    = ap (λ (b : Bool). b && leb s.start a) (eq-eqb level level refl) in
    let at : (b c : Bool) → leb s.start a ≡ b → (leb s.start a && ltb a s.end) ≡ c → P b c
    → P (eqb level level && leb s.start a) (leb s.start a && ltb a s.end)
    = λ (b c : Bool) (f : leb s.start a ≡ b) (g : (leb s.start a && ltb a s.end) ≡ c) (h : P b c).
    let Q : Bool → Type 0 = λ (y : Bool). P y (leb s.start a && ltb a s.end) in
    let R : Bool → Type 0 = λ (y : Bool). P b y in
    subst Q (sym (same ∙ f)) (subst R (sym g) h) in
    let first : a < s.start → P (eqb level level && leb s.start a) (leb s.start a && ltb a s.end)
    = λ (low : a < s.start).
    at false false (lt-leb s.start a low) (below_range s.start s.end a low) ih in
    let second : s.start ≤ a → a < s.end
    → P (eqb level level && leb s.start a) (leb s.start a && ltb a s.end)
    = λ (low : s.start ≤ a) (high : a < s.end).
    let none : m ≡ None = none_before next level a s.end rest r.2 high in
    let inside : holds s.start (s.end - s.start) a ≡ true
    = range_same s.start s.end a ∙ in_range s.start s.end a low high in
    let Q : Option InlineRecord → Type 0
    = λ (y : Option InlineRecord). Says all (held a (later one y)) (Some s.key) in
    let R : Bool → Type 0 = λ (y : Bool). Says all (cond y (Some one) None) (Some s.key) in
    at true true (le-leb s.start a low) (in_range s.start s.end a low high)
    (subst Q (sym none) (subst R (sym inside) facts)) in
    let third : s.end ≤ a → P (eqb level level && leb s.start a) (leb s.start a && ltb a s.end)
    = λ (high : s.end ≤ a).
    at true false (le-leb s.start a (omega arith)) (after_range s.start s.end a high)
    (past_range all a one m other
    (range_same s.start s.end a ∙ after_range s.start s.end a high)
    (λ (y : InlineRecord) (j : m ≡ Some y).
    let more : s.end ≤ y.address = nearest_from next level a s.end rest r.2 y j in
    omega arith)
    ih) in
    elim (cases_lt a s.start) [
      | inl low ↦ first low
      | inr low ↦ elim (cases_lt a s.end) [ inl high ↦ second low high | inr high ↦ third high ]
    ]

-- ---- several levels

skip_level : (n : Numbers) (l level a : ℕ) (rest : List (Span Path)) (more : List InlineRecord)
    → eqb level l ≡ false
    → nearest l a (inline_records n level rest ++ more) ≡ nearest l a more
skip_level n l level a [] more ne = refl
skip_level n l level a (s ∷ rest) more ne =
    let next = with_call n (s.key).call in
    let others = nearest l a (inline_records next level rest ++ more) in
    ap (λ (b : Bool). cond b (later (inline_record n level s) others) others)
    (and_left (eqb level l) (leb s.start a) ne)
    ∙ skip_level next l level a rest more ne

front_alone : (l a : ℕ) (front more : List InlineRecord) → nearest l a more ≡ None
    → nearest l a (front ++ more) ≡ nearest l a front
front_alone l a [] more e = e
front_alone l a (r ∷ front) more e =
    ap (λ (m : Option InlineRecord). cond (eqb r.level l && leb r.address a) (later r m) m)
    (front_alone l a front more e)

pub others_none : (n : Numbers) (l level count a : ℕ) (pieces : List Piece)
    → (l < level) ⊎ (level + count ≤ l) → nearest l a (level_records n level count pieces) ≡ None
others_none n l level zero a pieces out = refl
others_none n l level (suc count) a pieces out =
    let next = numbers_after n (level_spans level pieces) in
    let more = level_records next (suc level) count pieces in
    let ne : eqb level l ≡ false
    = ne_eqb level l (λ (e : level ≡ l). elim out [
      | inl low ↦ absurd (omega arith)
      | inr high ↦ absurd (omega arith)
    ]) in
    let on : (l < suc level) ⊎ (suc level + count ≤ l) = elim out [
      | inl low ↦ inl (omega arith)
      | inr high ↦ inr (omega arith)
    ] in
    skip_level n l level a (level_spans level pieces) more ne
    ∙ others_none next l (suc level) count a pieces on

pub levels_found : (all n : Numbers) (l level count a : ℕ) (pieces : List Piece)
    → ((k : ℕ) → IsRising 0 (level_spans k pieces)) → level ≤ l → l < level + count
    → Extends all (numbers_after_levels n level count pieces)
    → Says all (inline_at (level_records n level count pieces) l a)
    (span_at (level_spans l pieces) a)
levels_found all n l level zero a pieces rise low high x = absurd (omega arith)
levels_found all n l level (suc count) a pieces rise low high x =
    let stretched = level_spans level pieces in
    let next = numbers_after n stretched in
    let front = inline_records n level stretched in
    let more = level_records next (suc level) count pieces in
    let P : Option InlineRecord → Type 0
    = λ (m : Option InlineRecord). Says all (held a m) (span_at (level_spans l pieces) a) in
    elim (cases_eq level l) [
      | inl e ↦
          let alone : nearest level a (front ++ more) ≡ nearest level a front
          = front_alone level a front more
          (others_none next level (suc level) count a pieces (inl (omega arith))) in
          let Q : Option InlineRecord → Type 0
          = λ (m : Option InlineRecord). Says all (held a m) (span_at stretched a) in
          let R : ℕ → Type 0
          = λ (k : ℕ). Says all (held a (nearest k a (front ++ more)))
          (span_at (level_spans k pieces) a) in
          subst R e (subst Q (sym alone) (level_found all n level a 0 stretched (rise level)
          (extends_on all (numbers_after_levels next (suc level) count pieces) next x
          (extends_levels next (suc level) count pieces))))
      | inr ne ↦
          let skipped : nearest l a (front ++ more) ≡ nearest l a more
          = skip_level n l level a stretched more (ne_eqb level l ne) in
          let above_it : suc level ≤ l = elim (cases_lt level l) [
            | inl lt ↦ omega arith
            | inr le ↦ absurd (ne (omega arith))
          ] in
          subst P (sym skipped)
          (levels_found all next l (suc level) count a pieces rise above_it (omega arith) x)
    ]
