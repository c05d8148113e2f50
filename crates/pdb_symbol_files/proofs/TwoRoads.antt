-- A consumer's frames, by the records of pieces, are what is told.
use Rattle.std.proofs.Common.{◌≡◌, ℕ, ◌+◌, ◌<◌, ◌≤◌, List, [], ◌∷◌, ◌++◌, Bool, true, false, cond}
use Rattle.std.proofs.Common.{leb, ltb, eqb, length, refl, sym, ◌∙◌, ap, subst, arith, inl, inr, zero}
use Rattle.std.proofs.Common.{suc, drop, max}
use Rattle.std.specs.Prelude.{Option, None, Some, ◌&&◌, ◌⊎◌, codes, slice_get, take}
use Rattle.std.specs.Str.{bytes_eq}
use Rattle.std.specs.Option.{option_eq}
use Rattle.std.specs.Prelude.{nat_eq}
use Rattle.std.proofs.lemmas.Bool.{cases_lt, and_parts, eqb-true}
use Rattle.std.proofs.lemmas.List.{append_assoc, drop_all}
use Rattle.std.proofs.lemmas.Option.{slice_get_past}
use Rattle.pdb_symbol_files.specs.Lookup.{caller, frames_in, function_at, held, holds, inline_at}
use Rattle.pdb_symbol_files.specs.Lookup.{innermost, later, levels_of, line_at, lookup, nearest}
use Rattle.pdb_symbol_files.specs.Lookup.{Shown, shown, shown_over, text_at, walk, walk_on}
use Rattle.pdb_symbol_files.specs.PieceRecords.{all_numbers, depth_of, files_after}
use Rattle.pdb_symbol_files.specs.PieceRecords.{function_records, group_record, groups}
use Rattle.pdb_symbol_files.specs.PieceRecords.{last_of, level_spans, line_spans}
use Rattle.pdb_symbol_files.specs.PieceRecords.{no_numbers, numbers_after_function}
use Rattle.pdb_symbol_files.specs.PieceRecords.{numbers_after_inlines, path_in, piece_records}
use Rattle.pdb_symbol_files.specs.PieceRecords.{place_in}
use Rattle.pdb_symbol_files.specs.Records.{FunctionRecord, InlineRecord, Numbers}
use Rattle.pdb_symbol_files.specs.Spans.{Path, path_of, path_to, same_calls, same_place}
use Rattle.pdb_symbol_files.specs.Told.{Call, continues, end_of, Piece, same_function, Told}
use Rattle.pdb_symbol_files.proofs.Finding.{in_range, below_range, after_range, IsChain, known_at}
use Rattle.pdb_symbol_files.proofs.Finding.{span_at, finds, rises, IsRising, text_equal}
use Rattle.pdb_symbol_files.proofs.Finding.{place_equal, calls_equal}
use Rattle.pdb_symbol_files.proofs.Numbered.{begins_on, begins_files, range_same, placed}
use Rattle.pdb_symbol_files.proofs.Numbered.{line_found}
use Rattle.pdb_symbol_files.proofs.Levels.{Extends, extends_itself, extends_on, extends_levels, Says}
use Rattle.pdb_symbol_files.proofs.Levels.{others_none, levels_found}

-- ---- the walk over levels

-- a call of a list, by its level
taken : (calls : List Call) (l : ℕ) (c : Call) → slice_get calls l ≡ Some c
    → drop l calls ≡ c ∷ drop (suc l) calls
taken [] l c e = cc
taken (x ∷ calls) zero c e =
    let same : x ≡ c = cc in
    ap (λ (y : Call). y ∷ calls) same
taken (x ∷ calls) (suc l) c e = taken calls l c e

past_calls : (calls : List Call) (l : ℕ) → slice_get calls l ≡ None → length calls ≤ l
past_calls [] l e = omega arith
past_calls (x ∷ calls) zero e = let bad : ⊥ = cc in absurd bad
past_calls (x ∷ calls) (suc l) e =
    let more : length calls ≤ l = past_calls calls l e in omega arith

call_there : (calls : List Call) (l : ℕ) → l < length calls
    → (c : Call) × (slice_get calls l ≡ Some c)
call_there [] l lt = absurd (omega arith)
call_there (x ∷ calls) zero lt = (x, refl)
call_there (x ∷ calls) (suc l) lt = call_there calls l (omega arith)

-- the level of the nearest record is one of theirs
nearest_level : (l a : ℕ) (inlines : List InlineRecord) (r : InlineRecord)
    → nearest l a inlines ≡ Some r → l < levels_of inlines
nearest_level l a [] r e = let bad : ⊥ = cc in absurd bad
nearest_level l a (x ∷ inlines) r e =
    let m = nearest l a inlines in
    let by : (b : Bool) → (eqb x.level l && leb x.address a) ≡ b
    → l < max (suc x.level) (levels_of inlines)
    = λ (b : Bool). elim b as (λ (y : Bool). (eqb x.level l && leb x.address a) ≡ y
    → l < max (suc x.level) (levels_of inlines)) [
      | true ↦ λ (h : (eqb x.level l && leb x.address a) ≡ true).
          let same : x.level ≡ l
          = eqb-true x.level l (and_parts (eqb x.level l) (leb x.address a) h).0 in
          omega arith
      | false ↦ λ (h : (eqb x.level l && leb x.address a) ≡ false).
          let other : m ≡ Some r = sym (ap (λ (y : Bool). cond y (later x m) m) h) ∙ e in
          let more : l < levels_of inlines = nearest_level l a inlines r other in
          omega arith
    ] in
    by (eqb x.level l && leb x.address a) refl

held_some : (a : ℕ) (m : Option InlineRecord) (q : InlineRecord) → held a m ≡ Some q
    → (r : InlineRecord) × (m ≡ Some r)
held_some a None q e = let bad : ⊥ = cc in absurd bad
held_some a (Some r) q e = (r, refl)

none_said : (n : Numbers) (r : Option InlineRecord) → Says n r None → r ≡ None
none_said n None s = refl
none_said n (Some r) s = absurd s

-- a record that says what a path does
record Said (n : Numbers) (r : Option InlineRecord) (p : Path) : Type 0 where
  one : InlineRecord
  is : r ≡ Some one
  file : text_at n.files one.file ≡ (p.call).file
  line : one.line ≡ (p.call).line
  callee : text_at n.origins one.origin ≡ (p.call).callee

some_said : (n : Numbers) (r : Option InlineRecord) (p : Path) → Says n r (Some p) → Said n r p
some_said n None p s = absurd s
some_said n (Some r) p s =
    record { one = r; is = refl; file = s.0; line = s.1; callee = s.2 }

-- each level has its path
abbrev AllSay : Numbers → FunctionRecord → ℕ → List Call → Type 0
AllSay n f a calls = (l : ℕ) → Says n (inline_at f.inlines l a) (path_of l calls)

abbrev frame_made : List ℕ → List ℕ → ℕ → Shown
frame_made name file line = record { name = name; file = file; line = line }

-- one level, by the call there
level_shown : (n : Numbers) (name file : List ℕ) (line : ℕ) (here : List Shown)
    (further : List ℕ → List Shown) (r : Option InlineRecord) (calls : List Call) (l : ℕ)
    (c : Option Call) → slice_get calls l ≡ c → Says n r (path_to (take l calls) c)
    → here ≡ frame_made name file line ∷ []
    → ((d : Call) → slice_get calls l ≡ Some d
    → further d.callee ≡ shown_over d.callee (drop (suc l) calls) file line)
    → walk_on n name here further r ≡ shown_over name (drop l calls) file line
level_shown n name file line here further r calls l None e s inner on =
    ap (walk_on n name here further) (none_said n r s)
    ∙ inner
    ∙ sym (ap (λ (xs : List Call). shown_over name xs file line)
    (drop_all l calls (past_calls calls l e)))
level_shown n name file line here further r calls l (Some d) e s inner on =
    let path : Path = record { outer = take l calls; call = d } in
    let said : Said n r path = some_said n r path s in
    let q = said.one in
    let rest = shown_over d.callee (drop (suc l) calls) file line in
    ap (walk_on n name here further) said.is
    ∙ ap (λ (x : List ℕ). further x ++ caller n name q ∷ []) said.callee
    ∙ ap (λ (xs : List Shown). xs ++ caller n name q ∷ []) (on d e)
    ∙ ap (λ (x : List ℕ). rest ++ frame_made name x q.line ∷ []) said.file
    ∙ ap (λ (x : ℕ). rest ++ frame_made name d.file x ∷ []) said.line
    ∙ sym (ap (λ (xs : List Call). shown_over name xs file line) (taken calls l d e))

walked : (n : Numbers) (f : FunctionRecord) (a : ℕ) (file : List ℕ) (line : ℕ) (calls : List Call)
    → AllSay n f a calls
    → ((name : List ℕ) → innermost n name (line_at f.lines a) ≡ frame_made name file line ∷ [])
    → (left l : ℕ) (name : List ℕ) → length calls ≤ l + left
    → walk n f a left l name ≡ shown_over name (drop l calls) file line
walked n f a file line calls says inner zero l name le =
    inner name
    ∙ sym (ap (λ (xs : List Call). shown_over name xs file line) (drop_all l calls (omega arith)))
walked n f a file line calls says inner (suc left) l name le =
    level_shown n name file line (innermost n name (line_at f.lines a))
    (λ (callee : List ℕ). walk n f a left (suc l) callee) (inline_at f.inlines l a) calls l
    (slice_get calls l) refl (says l) (inner name)
    (λ (d : Call) (e : slice_get calls l ≡ Some d).
    walked n f a file line calls says inner left (suc l) d.callee (omega arith))

-- there are as many levels as calls
enough_at : (n : Numbers) (f : FunctionRecord) (a : ℕ) (calls : List Call) → AllSay n f a calls
    → (k : ℕ) → length calls ≡ k → length calls ≤ levels_of f.inlines
enough_at n f a calls says zero e = omega arith
enough_at n f a calls says (suc l) e =
    let there = call_there calls l (omega arith) in
    let path : Path = record { outer = take l calls; call = there.0 } in
    let P : Option Call → Type 0
    = λ (c : Option Call). Says n (inline_at f.inlines l a) (path_to (take l calls) c) in
    let said : Said n (inline_at f.inlines l a) path
    = some_said n (inline_at f.inlines l a) path (subst P there.1 (says l)) in
    let got = held_some a (nearest l a f.inlines) said.one said.is in
    let lt : l < levels_of f.inlines = nearest_level l a f.inlines got.0 got.1 in
    omega arith

enough : (n : Numbers) (f : FunctionRecord) (a : ℕ) (calls : List Call) → AllSay n f a calls
    → length calls ≤ levels_of f.inlines
enough n f a calls says = enough_at n f a calls says (length calls) refl

le_on : (x y z : ℕ) → x ≤ y → y ≤ z → x ≤ z
le_on x y z p q = omega arith

from_zero : (x y : ℕ) → x ≤ y → x ≤ 0 + y
from_zero x y p = omega arith

wide : (x d : ℕ) → x ≤ max x d
wide x d = omega arith

-- ---- pieces of one function

-- pieces in ascending order, none before an address; each has an address
abbrev pub IsFrom : ℕ → List Piece → Type 0
IsFrom start [] = Unit {0}
IsFrom start (p ∷ pieces) = (start ≤ p.address) × (0 < p.size) × IsFrom (end_of p) pieces

-- what is told of an address by pieces; nothing where none has it
abbrev pub told_by : List Piece → ℕ → List Shown
told_by [] a = []
told_by (p ∷ pieces) a = cond (holds p.address p.size a) (shown p.told) (told_by pieces a)

abbrev pub Named : List ℕ → List Piece → Type 0
Named name [] = Unit {0}
Named name (p ∷ pieces) = ((p.told).function ≡ name) × Named name pieces

deeper : (x d n : ℕ) → n ≤ d → n ≤ max x d
deeper x d n le = omega arith

-- the piece that has an address
record Has (name : List ℕ) (rest pieces : List Piece) (a : ℕ) : Type 0 where
  piece : Piece
  tells : told_by (pieces ++ rest) a ≡ shown piece.told
  place : known_at place_in pieces a ≡ place_in piece
  path : (l : ℕ) → known_at (path_in l) pieces a ≡ path_in l piece
  depth : length (piece.told).calls ≤ depth_of pieces
  named : (piece.told).function ≡ name

has_here : (name : List ℕ) (rest : List Piece) (a : ℕ) (q : Piece) (pieces : List Piece)
    → Named name (q ∷ pieces) → q.address ≤ a → a < end_of q → Has name rest (q ∷ pieces) a
has_here name rest a q pieces m low high =
    let inside : holds q.address q.size a ≡ true = in_range q.address (end_of q) a low high in
    record {
      piece = q;
      tells = ap (λ (b : Bool). cond b (shown q.told) (told_by (pieces ++ rest) a)) inside;
      place = ap (λ (b : Bool). cond b (place_in q) (known_at place_in pieces a)) inside;
      path = λ (l : ℕ).
          ap (λ (b : Bool). cond b (path_in l q) (known_at (path_in l) pieces a)) inside;
      depth = wide (length (q.told).calls) (depth_of pieces);
      named = m.0;
    }

has : (name : List ℕ) (rest : List Piece) (e a : ℕ) (q : Piece) (pieces : List Piece)
    → IsChain e (q ∷ pieces) → Named name (q ∷ pieces) → e ≤ a → a < end_of (last_of q pieces)
    → Has name rest (q ∷ pieces) a
has name rest e a q [] c m low high =
    let start : q.address ≡ e = c.0 in
    has_here name rest a q [] m (omega arith) high
has name rest e a q (x ∷ pieces) c m low high =
    let start : q.address ≡ e = c.0 in
    elim (cases_lt a (end_of q)) [
      | inl here ↦ has_here name rest a q (x ∷ pieces) m (omega arith) here
      | inr past ↦
          let r = has name rest (end_of q) a x pieces c.2 m.1 past high in
          let outside : holds q.address q.size a ≡ false
          = after_range q.address (end_of q) a past in
          let deep : length ((r.piece).told).calls ≤ depth_of (x ∷ pieces) = r.depth in
          record {
            piece = r.piece;
            tells = ap (λ (b : Bool). cond b (shown q.told) (told_by ((x ∷ pieces) ++ rest) a)) outside
                ∙ r.tells;
            place = ap (λ (b : Bool). cond b (place_in q) (known_at place_in (x ∷ pieces) a)) outside
                ∙ r.place;
            path = λ (l : ℕ). ap (λ (b : Bool). cond b (path_in l q) (known_at (path_in l) (x ∷ pieces) a)) outside
                ∙ r.path l;
            depth = deeper (length (q.told).calls) (depth_of (x ∷ pieces)) (length ((r.piece).told).calls) deep;
            named = r.named;
          }
    ]

chain_end : (e : ℕ) (q : Piece) (pieces : List Piece) → IsChain e (q ∷ pieces)
    → end_of q ≤ end_of (last_of q pieces)
chain_end e q [] c = omega arith
chain_end e q (x ∷ pieces) c =
    let more : end_of x ≤ end_of (last_of x pieces) = chain_end (end_of q) x pieces c.2 in
    let start : x.address ≡ end_of q = (c.2).0 in
    omega arith

-- no piece of a function has an address before or after them
has_none : (rest : List Piece) (e a : ℕ) (q : Piece) (pieces : List Piece)
    → IsChain e (q ∷ pieces) → (a < e) ⊎ (end_of (last_of q pieces) ≤ a)
    → told_by ((q ∷ pieces) ++ rest) a ≡ told_by rest a
has_none rest e a q [] c out =
    let start : q.address ≡ e = c.0 in
    let outside : holds q.address q.size a ≡ false = elim out [
      | inl low ↦ below_range q.address (end_of q) a (omega arith)
      | inr high ↦ after_range q.address (end_of q) a high
    ] in
    ap (λ (b : Bool). cond b (shown q.told) (told_by rest a)) outside
has_none rest e a q (x ∷ pieces) c out =
    let start : q.address ≡ e = c.0 in
    let some : 0 < q.size = c.1 in
    let last : end_of x ≤ end_of (last_of x pieces) = chain_end (end_of q) x pieces c.2 in
    let next : x.address ≡ end_of q = (c.2).0 in
    let outside : holds q.address q.size a ≡ false = elim out [
      | inl low ↦ below_range q.address (end_of q) a (omega arith)
      | inr high ↦ after_range q.address (end_of q) a (omega arith)
    ] in
    let on : (a < end_of q) ⊎ (end_of (last_of x pieces) ≤ a) = elim out [
      | inl low ↦ inl (omega arith)
      | inr high ↦ inr high
    ] in
    ap (λ (b : Bool). cond b (shown q.told) (told_by ((x ∷ pieces) ++ rest) a)) outside
    ∙ has_none rest (end_of q) a x pieces c.2 on

-- ---- the frames in a function

place_shown : (name : List ℕ) (t : Told) (b c : Bool) → eqb t.line 0 ≡ b
    → bytes_eq t.file (codes "??") ≡ c
    → placed name (cond (b && c) None (Some (record { file = t.file; line = t.line })))
    ≡ frame_made name t.file t.line ∷ []
place_shown name t true true e f =
    ap (λ (x : List ℕ). frame_made name x 0 ∷ []) (sym (text_equal t.file (codes "??") f))
    ∙ ap (λ (x : ℕ). frame_made name t.file x ∷ []) (sym (eqb-true t.line 0 e))
place_shown name t true false e f = refl
place_shown name t false true e f = refl
place_shown name t false false e f = refl

rising : (q : Piece) (pieces : List Piece) → IsChain q.address (q ∷ pieces) → (k : ℕ)
    → IsRising 0 (level_spans k (q ∷ pieces))
rising q pieces c k =
    rises same_calls (path_in k) (q ∷ pieces) 0 q.address None (omega arith) tt c

in_function : (all n : Numbers) (name : List ℕ) (rest : List Piece) (a : ℕ) (q : Piece)
    (pieces : List Piece) → IsChain q.address (q ∷ pieces) → (q.told).function ≡ name
    → Has name rest (q ∷ pieces) a
    → Extends all (numbers_after_function n (q ∷ pieces))
    → frames_in all a (Some (group_record n q pieces)) ≡ told_by ((q ∷ pieces) ++ rest) a
in_function all n name rest a q pieces c own h x =
    let group = q ∷ pieces in
    let f = group_record n q pieces in
    let t = (h.piece).told in
    let deep = depth_of group in
    let after = numbers_after_inlines n group in
    let before : Extends all after = record {
      files = begins_on all.files (files_after after.files (line_spans group)) after.files
          x.files (begins_files after.files (line_spans group));
      origins = x.origins;
    } in
    let found : (l : ℕ) → span_at (level_spans l group) a ≡ path_of l t.calls
    = λ (l : ℕ). finds same_calls calls_equal (path_in l) a group q.address None tt c ∙ h.path l in
    let says : AllSay all f a t.calls
    = λ (l : ℕ). elim (cases_lt l deep) [
      | inl low ↦
          let P : Option Path → Type 0 = λ (p : Option Path). Says all (inline_at f.inlines l a) p in
          subst P (found l)
          (levels_found all n l 0 deep a group (rising q pieces c) (omega arith) (omega arith) before)
      | inr high ↦
          let none : nearest l a f.inlines ≡ None
          = others_none n l 0 deep a group (inr (omega arith)) in
          let past : slice_get t.calls l ≡ None
          = slice_get_past t.calls l (le_on (length t.calls) deep l h.depth high) in
          let P : Option InlineRecord → Type 0
          = λ (m : Option InlineRecord). Says all (held a m) (path_of l t.calls) in
          let Q : Option Call → Type 0
          = λ (d : Option Call). Says all None (path_to (take l t.calls) d) in
          subst P (sym none) (subst Q (sym past) tt)
    ] in
    let inner : (who : List ℕ)
    → innermost all who (line_at f.lines a) ≡ frame_made who t.file t.line ∷ []
    = λ (who : List ℕ).
    line_found all who a after.files (line_spans group) x.files
    ∙ ap (placed who) (finds same_place place_equal place_in a group q.address None tt c ∙ h.place)
    ∙ place_shown who t (eqb t.line 0) (bytes_eq t.file (codes "??")) refl refl in
    let first : walk all f a (levels_of f.inlines) 0 f.name ≡ shown_over f.name t.calls t.file t.line
    = walked all f a t.file t.line t.calls says inner (levels_of f.inlines) 0 f.name
    (from_zero (length t.calls) (levels_of f.inlines) (enough all f a t.calls says)) in
    first
    ∙ ap (λ (who : List ℕ). shown_over who t.calls t.file t.line) (own ∙ sym h.named)
    ∙ sym h.tells

-- the function of pieces, before others
one_function : (all n : Numbers) (name : List ℕ) (rest : List Piece) (a : ℕ) (q : Piece)
    (pieces : List Piece) (others : List FunctionRecord) → IsChain q.address (q ∷ pieces)
    → Named name (q ∷ pieces) → Extends all (numbers_after_function n (q ∷ pieces))
    → frames_in all a (function_at others a) ≡ told_by rest a
    → frames_in all a (function_at (group_record n q pieces ∷ others) a)
    ≡ told_by ((q ∷ pieces) ++ rest) a
one_function all n name rest a q pieces others c m x on =
    let f = group_record n q pieces in
    let end = end_of (last_of q pieces) in
    let range : holds f.address f.size a ≡ (leb q.address a && ltb a end)
    = range_same q.address end a in
    let at : (b : Bool) → (leb q.address a && ltb a end) ≡ b
    → frames_in all a (cond b (Some f) (function_at others a))
    ≡ told_by ((q ∷ pieces) ++ rest) a
    → frames_in all a (function_at (f ∷ others) a) ≡ told_by ((q ∷ pieces) ++ rest) a
    = λ (b : Bool) (e : (leb q.address a && ltb a end) ≡ b)
    (h : frames_in all a (cond b (Some f) (function_at others a))
    ≡ told_by ((q ∷ pieces) ++ rest) a).
    ap (λ (y : Bool). frames_in all a (cond y (Some f) (function_at others a))) (range ∙ e) ∙ h in
    elim (cases_lt a q.address) [
      | inl low ↦ at false (below_range q.address end a low)
          (on ∙ sym (has_none rest q.address a q pieces c (inl low)))
      | inr low ↦ elim (cases_lt a end) [
        | inl high ↦ at true (in_range q.address end a low high)
            (in_function all n name rest a q pieces c m.0
            (has name rest q.address a q pieces c m low high) x)
        | inr high ↦ at false (after_range q.address end a high)
            (on ∙ sym (has_none rest q.address a q pieces c (inr high)))
      ]
    ]

-- ---- all functions

pub extends_function : (n : Numbers) (group : List Piece) → Extends (numbers_after_function n group) n
extends_function n group =
    let after = numbers_after_inlines n group in
    let before = extends_levels n 0 (depth_of group) group in
    record {
      files = begins_on (files_after after.files (line_spans group)) after.files n.files
          (begins_files after.files (line_spans group)) before.files;
      origins = before.origins;
    }

pub extends_all : (n : Numbers) (rest : List (List Piece)) → Extends (all_numbers n rest) n
extends_all n [] = extends_itself n
extends_all n (g ∷ rest) =
    let next = numbers_after_function n g in
    extends_on (all_numbers next rest) next n (extends_all next rest) (extends_function n g)

pub last_more : (q p : Piece) (pieces : List Piece) → last_of q (pieces ++ p ∷ []) ≡ p
last_more q p [] = refl
last_more q p (x ∷ pieces) = last_more x p pieces

pub chain_more : (e : ℕ) (q p : Piece) (pieces : List Piece) → IsChain e (q ∷ pieces)
    → p.address ≡ end_of (last_of q pieces) → 0 < p.size → IsChain e (q ∷ (pieces ++ p ∷ []))
chain_more e q p [] c at some = (c.0, c.1, (at, some, tt))
chain_more e q p (x ∷ pieces) c at some =
    (c.0, c.1, chain_more (end_of q) x p pieces c.2 at some)

named_more : (name : List ℕ) (p : Piece) (pieces : List Piece) → Named name pieces
    → (p.told).function ≡ name → Named name (pieces ++ p ∷ [])
named_more name p [] m own = (own, tt)
named_more name p (x ∷ pieces) m own = (m.0, named_more name p pieces m.1 own)

last_named : (name : List ℕ) (q : Piece) (pieces : List Piece) → Named name (q ∷ pieces)
    → ((last_of q pieces).told).function ≡ name
last_named name q [] m = m.0
last_named name q (x ∷ pieces) m = last_named name x pieces m.1

pub goes_on : (p q : Piece) → continues p q ≡ true
    → (end_of p ≡ q.address) × ((p.told).function ≡ (q.told).function)
goes_on p q e =
    let both = and_parts (eqb (end_of p) q.address) (same_function p.told q.told) e in
    let names = and_parts (option_eq nat_eq (p.told).start (q.told).start)
    (bytes_eq (p.told).function (q.told).function) both.1 in (
      eqb-true (end_of p) q.address both.0,
      text_equal (p.told).function (q.told).function names.1,
    )

told_on : (all n : Numbers) (a : ℕ) (rest : List Piece) (name : List ℕ) (q : Piece)
    (pieces : List Piece) → IsChain q.address (q ∷ pieces) → Named name (q ∷ pieces)
    → IsFrom (end_of (last_of q pieces)) rest
    → Extends all (all_numbers n (groups (q ∷ pieces) rest))
    → frames_in all a (function_at (function_records n (groups (q ∷ pieces) rest)) a)
    ≡ told_by ((q ∷ pieces) ++ rest) a
told_on all n a [] name q pieces c m from x =
    one_function all n name [] a q pieces [] c m x refl
told_on all n a (p ∷ rest) name q pieces c m from x =
    let some : 0 < p.size = from.1 in
    let next = numbers_after_function n (q ∷ pieces) in
    let by : (b : Bool) → continues (last_of q pieces) p ≡ b
    → Extends all (all_numbers n (cond b (groups (q ∷ (pieces ++ p ∷ [])) rest)
    ((q ∷ pieces) ∷ groups (p ∷ []) rest)))
    → frames_in all a (function_at (function_records n
    (cond b (groups (q ∷ (pieces ++ p ∷ [])) rest) ((q ∷ pieces) ∷ groups (p ∷ []) rest))) a)
    ≡ told_by ((q ∷ pieces) ++ p ∷ rest) a
    = λ (b : Bool). elim b as (λ (y : Bool). continues (last_of q pieces) p ≡ y
    → Extends all (all_numbers n (cond y (groups (q ∷ (pieces ++ p ∷ [])) rest)
    ((q ∷ pieces) ∷ groups (p ∷ []) rest)))
    → frames_in all a (function_at (function_records n
    (cond y (groups (q ∷ (pieces ++ p ∷ [])) rest) ((q ∷ pieces) ∷ groups (p ∷ []) rest))) a)
    ≡ told_by ((q ∷ pieces) ++ p ∷ rest) a) [
      | true ↦ λ (e : continues (last_of q pieces) p ≡ true)
          (y : Extends all (all_numbers n (groups (q ∷ (pieces ++ p ∷ [])) rest))).
          let on = goes_on (last_of q pieces) p e in
          let own : (p.told).function ≡ name
          = sym on.1 ∙ last_named name q pieces m in
          let P : Piece → Type 0 = λ (z : Piece). IsFrom (end_of z) rest in
          told_on all n a rest name q (pieces ++ p ∷ [])
          (chain_more q.address q p pieces c (sym on.0) some)
          (m.0, named_more name p pieces m.1 own)
          (subst P (sym (last_more q p pieces)) from.2) y
          ∙ ap (λ (xs : List Piece). told_by (q ∷ xs) a) (append_assoc pieces (p ∷ []) rest)
      | false ↦ λ (e : continues (last_of q pieces) p ≡ false)
          (y : Extends all (all_numbers next (groups (p ∷ []) rest))).
          one_function all n name (p ∷ rest) a q pieces
          (function_records next (groups (p ∷ []) rest)) c m
          (extends_on all (all_numbers next (groups (p ∷ []) rest)) next y
          (extends_all next (groups (p ∷ []) rest)))
          (told_on all next a rest (p.told).function p [] (refl, some, tt) (refl, tt) from.2 y)
    ] in
    by (continues (last_of q pieces) p) refl x

pub piece_roads : (pieces : List Piece) → IsFrom 0 pieces → (a : ℕ)
    → lookup (piece_records pieces) a ≡ told_by pieces a
unfolding lookup piece_records
piece_roads [] from a = refl
piece_roads (p ∷ pieces) from a =
    told_on (all_numbers no_numbers (groups (p ∷ []) pieces)) no_numbers a pieces
    (p.told).function p [] (refl, from.1, tt) (refl, tt) from.2
    (extends_itself (all_numbers no_numbers (groups (p ∷ []) pieces)))
