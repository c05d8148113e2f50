-- Numbers of texts lead back to the texts, and line records to places.
use Rattle.std.proofs.Common.{◌≡◌, ℕ, ◌+◌, ◌-◌, List, [], ◌∷◌, ◌++◌, Bool, true, false, cond}
use Rattle.std.proofs.Common.{leb, ltb, refl, sym, ◌∙◌, ap, arith, inl, inr, not, suc}
use Rattle.std.specs.Prelude.{Option, None, Some, ◌&&◌, ◌||◌, codes, slice_get, unwrap_or}
use Rattle.std.specs.List.{list_any}
use Rattle.std.specs.Str.{bytes_eq}
use Rattle.std.proofs.lemmas.Bool.{cases_lt}
use Rattle.std.proofs.lemmas.List.{append_assoc, append-nil}
use Rattle.pdb_symbol_files.specs.Lookup.{holds, innermost, line_at, Shown, text_at}
use Rattle.pdb_symbol_files.specs.PieceRecords.{files_after, line_records}
use Rattle.pdb_symbol_files.specs.Records.{line_record, LineRecord, number_of, Numbers, used}
use Rattle.pdb_symbol_files.specs.Spans.{SourcePlace, Span}
use Rattle.pdb_symbol_files.proofs.Finding.{in_range, below_range, after_range, text_equal, span_at}

-- ---- texts

one_more : (n : ℕ) → 1 + n ≡ suc n
one_more n = omega arith

-- a text that is there
there : (texts more : List (List ℕ)) (t : List ℕ) → list_any (bytes_eq t) texts ≡ true
    → slice_get (texts ++ more) (number_of texts t) ≡ Some t
there [] more t e = cc
there (u ∷ texts) more t e =
    let by : (b : Bool) → bytes_eq t u ≡ b → (b || list_any (bytes_eq t) texts) ≡ true
    → slice_get (u ∷ (texts ++ more)) (cond (not b) (1 + number_of texts t) 0) ≡ Some t
    = λ (b : Bool). elim b as (λ (x : Bool). bytes_eq t u ≡ x
    → (x || list_any (bytes_eq t) texts) ≡ true
    → slice_get (u ∷ (texts ++ more)) (cond (not x) (1 + number_of texts t) 0) ≡ Some t) [
      | true ↦ λ (h : bytes_eq t u ≡ true) (g : true ≡ true). ap Some (sym (text_equal t u h))
      | false ↦ λ (h : bytes_eq t u ≡ false) (g : list_any (bytes_eq t) texts ≡ true).
          ap (slice_get (u ∷ (texts ++ more))) (one_more (number_of texts t)) ∙ there texts more t g
    ] in
    by (bytes_eq t u) refl e

-- a text that isn't, once it comes last
put : (texts more : List (List ℕ)) (t : List ℕ) → list_any (bytes_eq t) texts ≡ false
    → slice_get ((texts ++ t ∷ []) ++ more) (number_of texts t) ≡ Some t
put [] more t e = refl
put (u ∷ texts) more t e =
    let by : (b : Bool) → (b || list_any (bytes_eq t) texts) ≡ false
    → slice_get (u ∷ ((texts ++ t ∷ []) ++ more)) (cond (not b) (1 + number_of texts t) 0)
    ≡ Some t
    = λ (b : Bool). elim b as (λ (x : Bool). (x || list_any (bytes_eq t) texts) ≡ false
    → slice_get (u ∷ ((texts ++ t ∷ []) ++ more)) (cond (not x) (1 + number_of texts t) 0)
    ≡ Some t) [
      | true ↦ λ (g : true ≡ false). cc
      | false ↦ λ (g : list_any (bytes_eq t) texts ≡ false).
          ap (slice_get (u ∷ ((texts ++ t ∷ []) ++ more))) (one_more (number_of texts t))
          ∙ put texts more t g
    ] in
    by (bytes_eq t u) e

used_at : (texts more : List (List ℕ)) (t : List ℕ)
    → slice_get (used texts t ++ more) (number_of texts t) ≡ Some t
used_at texts more t =
    let by : (b : Bool) → list_any (bytes_eq t) texts ≡ b
    → slice_get (cond b texts (texts ++ t ∷ []) ++ more) (number_of texts t) ≡ Some t
    = λ (b : Bool). elim b as (λ (x : Bool). list_any (bytes_eq t) texts ≡ x
    → slice_get (cond x texts (texts ++ t ∷ []) ++ more) (number_of texts t) ≡ Some t) [
      | true ↦ λ (h : list_any (bytes_eq t) texts ≡ true). there texts more t h
      | false ↦ λ (h : list_any (bytes_eq t) texts ≡ false). put texts more t h
    ] in
    by (list_any (bytes_eq t) texts) refl

-- the text with the number that it was given
pub text_back : (all texts more : List (List ℕ)) (t : List ℕ) → all ≡ used texts t ++ more
    → text_at all (number_of texts t) ≡ t
text_back all texts more t e =
    ap (λ (xs : List (List ℕ)). text_at xs (number_of texts t)) e
    ∙ ap (λ (x : Option (List ℕ)). unwrap_or x (codes "??")) (used_at texts more t)

-- ---- texts stay where they are

-- texts begin with others
pub record Begins (all front : List (List ℕ)) : Type 0 where
  pub more : List (List ℕ)
  pub is : all ≡ front ++ more

pub begins_itself : (texts : List (List ℕ)) → Begins texts texts
begins_itself texts = record { more = []; is = sym (append-nil texts) }

pub begins_on : (a b c : List (List ℕ)) → Begins a b → Begins b c → Begins a c
begins_on a b c f g = record {
  more = g.more ++ f.more;
  is = f.is ∙ ap (λ (xs : List (List ℕ)). xs ++ f.more) g.is ∙ append_assoc c g.more f.more;
}

pub begins_used : (texts : List (List ℕ)) (t : List ℕ) → Begins (used texts t) texts
begins_used texts t =
    elim (list_any (bytes_eq t) texts)
    as (λ (b : Bool). Begins (cond b texts (texts ++ t ∷ [])) texts) [
      | true ↦ begins_itself texts
      | false ↦ record { more = t ∷ []; is = refl }
    ]

pub begins_files : (files : List (List ℕ)) (rest : List (Span SourcePlace))
    → Begins (files_after files rest) files
begins_files files [] = begins_itself files
begins_files files (s ∷ rest) =
    let next = used files (s.key).file in
    begins_on (files_after next rest) next files (begins_files next rest)
    (begins_used files (s.key).file)

-- ---- ranges of records

pub range_same : (s e a : ℕ) → holds s (e - s) a ≡ (leb s a && ltb a e)
range_same s e a = elim (cases_lt a s) [
  | inl low ↦ below_range s (s + (e - s)) a low ∙ sym (below_range s e a low)
  | inr low ↦ elim (cases_lt a e) [
    | inl high ↦ in_range s (s + (e - s)) a low (omega arith) ∙ sym (in_range s e a low high)
    | inr high ↦ after_range s (s + (e - s)) a (omega arith) ∙ sym (after_range s e a high)
  ]
]

-- ---- line records

abbrev pub placed : List ℕ → Option SourcePlace → List Shown
placed name None = record { name = name; file = codes "??"; line = 0 } ∷ []
placed name (Some k) = record { name = name; file = k.file; line = k.line } ∷ []

abbrev one_shown : List ℕ → List ℕ → ℕ → List Shown
one_shown name file line = record { name = name; file = file; line = line } ∷ []

line_by : (n : Numbers) (name : List ℕ) (r : LineRecord) (k : SourcePlace)
    (rest : Option LineRecord) (other : Option SourcePlace) → text_at n.files r.file ≡ k.file
    → r.line ≡ k.line → innermost n name rest ≡ placed name other → (b : Bool)
    → innermost n name (cond b (Some r) rest) ≡ placed name (cond b (Some k) other)
line_by n name r k rest other f l h true =
    ap (λ (x : List ℕ). one_shown name x r.line) f ∙ ap (one_shown name k.file) l
line_by n name r k rest other f l h false = h

pub line_found : (n : Numbers) (name : List ℕ) (a : ℕ) (files : List (List ℕ))
    (rest : List (Span SourcePlace)) → Begins n.files (files_after files rest)
    → innermost n name (line_at (line_records files rest) a) ≡ placed name (span_at rest a)
line_found n name a files [] f = refl
line_found n name a files (s ∷ rest) f =
    let next = used files (s.key).file in
    let front = begins_on n.files (files_after next rest) next f (begins_files next rest) in
    let back : text_at n.files (number_of files (s.key).file) ≡ (s.key).file
    = text_back n.files files front.more (s.key).file front.is in
    let range = range_same s.start s.end a in
    ap (λ (b : Bool). innermost n name (cond b (Some (line_record files s)) (line_at (line_records next rest) a))) range
    ∙ line_by n name (line_record files s) s.key (line_at (line_records next rest) a)
    (span_at rest a) back refl (line_found n name a next rest f)
    (leb s.start a && ltb a s.end)
