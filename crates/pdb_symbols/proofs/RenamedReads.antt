-- What a consumer says by a text whose lines have other names.
use Rattle.std.proofs.Common.{◌≡◌, ◌∙◌, ℕ, zero, suc, ◌+◌, ◌-◌, ◌<◌, ◌≤◌, List, [], ◌∷◌, ◌++◌, Bool}
use Rattle.std.proofs.Common.{true, false, refl, sym, ap, subst, arith, append_assoc, append-nil}
use Rattle.std.proofs.Common.{length, length-append, cond, eqb, inl, inr, map}
use Rattle.std.specs.Prelude.{◌⊎◌, ◌||◌, if◌then◌else◌, not, codes, Option, None, Some}
use Rattle.std.specs.List.{All}
use Rattle.std.specs.Str.{bytes_eq}
use Rattle.std.specs.Str.Lossy.{utf8_lossy}
use Rattle.std.specs.Str.Parse.{digits_value}
use Rattle.std.proofs.lemmas.Bool.{and_parts, leb-true, ne_eqb, not-true}
use Rattle.std.proofs.lemmas.List.Elements.{All-head, All-tail}
use Rattle.std.proofs.lemmas.Slice.Eq.{bytes_eq-Decides}
use Rattle.pdb_symbol_files.specs.Lookup.{Shown, caller, frames_in, function_at, holds, inline_at}
use Rattle.pdb_symbol_files.specs.Lookup.{innermost, levels_of, line_at, lookup, text_at, walk}
use Rattle.pdb_symbol_files.specs.Lookup.{walk_on}
use Rattle.pdb_symbol_files.specs.PlainAnswers.{records_read}
use Rattle.pdb_symbol_files.specs.Reading.{FileLine, FunctionLine, InlineLine, Line, Numbered}
use Rattle.pdb_symbol_files.specs.Reading.{OriginLine, OtherLine, PlaceLine, ReadRecords}
use Rattle.pdb_symbol_files.specs.Reading.{after_blank, after_fields, before_blank, decimal_in, field}
use Rattle.pdb_symbol_files.specs.Reading.{IsPlain, hexadecimal_in, inline_in, is_word, line_of, lines_after}
use Rattle.pdb_symbol_files.specs.Reading.{lines_of, place_in, read_lines, read_text, with_line}
use Rattle.pdb_symbol_files.specs.Records.{FunctionRecord, InlineRecord, LineRecord, Numbers}
use Rattle.pdb_symbol_files.specs.Records.{SymbolRecords}
use Rattle.pdb_symbol_files.specs.Texts.{told_text}
use Rattle.pdb_symbols.specs.NamedLines.{IsLineOf, IsNamed, IsNameText, IsRenamed, IsUnbroken}
use Rattle.pdb_symbols.specs.NamedLines.{Line as NamedLine, is_decorated, name_of_line}
use Rattle.pdb_symbols.specs.NamedLines.{named_lines, stored_lines}
use Rattle.pdb_symbols.specs.Roads.{ArePairs, IsFrameNamed, KeepsFrames}
use Rattle.pdb_symbol_files.proofs.PlainTexts.{plain_told}

-- ---- pairs

both_pairs : {A : Type 0} (P : A → A → Type 0) (xs ys zs ws : List A) → ArePairs P xs ys
    → ArePairs P zs ws → ArePairs P (xs ++ zs) (ys ++ ws)
both_pairs P [] [] zs ws p q = q
both_pairs P [] (y ∷ ys) zs ws p q = absurd p
both_pairs P (x ∷ xs) [] zs ws p q = absurd p
both_pairs P (x ∷ xs) (y ∷ ys) zs ws p q = (p.0, both_pairs P xs ys zs ws p.1 q)

same_name : (name : List ℕ) → IsNameText name name
same_name name = inl refl

-- ---- a lookup

-- a function with another text for its name
abbrev named_as : FunctionRecord → List ℕ → FunctionRecord
named_as f name = record {
  address = f.address;
  size = f.size;
  name = name;
  inlines = f.inlines;
  lines = f.lines;
}

record IsFunctionNamed (f g : FunctionRecord) : Type 0 where
  name : List ℕ
  is : g ≡ named_as f name
  text : IsNameText f.name name

record AreNamed (r s : SymbolRecords) : Type 0 where
  files : (s.numbers).files ≡ (r.numbers).files
  origins : ArePairs IsNameText (r.numbers).origins (s.numbers).origins
  functions : ArePairs IsFunctionNamed r.functions s.functions

text_named : (xs ys : List (List ℕ)) (n : ℕ) → ArePairs IsNameText xs ys
    → IsNameText (text_at xs n) (text_at ys n)
text_named [] [] n p = inl refl
text_named [] (y ∷ ys) n p = absurd p
text_named (x ∷ xs) [] n p = absurd p
text_named (x ∷ xs) (y ∷ ys) zero p = p.0
text_named (x ∷ xs) (y ∷ ys) (suc n) p = text_named xs ys n p.1

same_file : (n m : Numbers) (k : ℕ) → m.files ≡ n.files → text_at m.files k ≡ text_at n.files k
same_file n m k e = ap (λ (xs : List (List ℕ)). text_at xs k) e

innermost_named : (n m : Numbers) (a b : List ℕ) (r : Option LineRecord) → m.files ≡ n.files
    → IsNameText a b → ArePairs IsFrameNamed (innermost n a r) (innermost m b r)
innermost_named n m a b None e t = ((t, refl, refl), tt)
innermost_named n m a b (Some r) e t = ((t, same_file n m r.file e, refl), tt)

walk_on_named : (n m : Numbers) (a b : List ℕ) (here there : List Shown)
    (further beyond : List ℕ → List Shown) (o : Option InlineRecord) → m.files ≡ n.files
    → ArePairs IsNameText n.origins m.origins → IsNameText a b
    → ArePairs IsFrameNamed here there
    → ((x y : List ℕ) → IsNameText x y → ArePairs IsFrameNamed (further x) (beyond y))
    → ArePairs IsFrameNamed (walk_on n a here further o) (walk_on m b there beyond o)
walk_on_named n m a b here there further beyond None e os t h f = h
walk_on_named n m a b here there further beyond (Some r) e os t h f =
    both_pairs IsFrameNamed (further (text_at n.origins r.origin))
    (beyond (text_at m.origins r.origin)) (caller n a r ∷ []) (caller m b r ∷ [])
    (f (text_at n.origins r.origin) (text_at m.origins r.origin)
    (text_named n.origins m.origins r.origin os))
    ((t, same_file n m r.file e, refl), tt)

walk_named : (n m : Numbers) (f : FunctionRecord) (other : List ℕ) (x left level : ℕ)
    (a b : List ℕ) → m.files ≡ n.files → ArePairs IsNameText n.origins m.origins → IsNameText a b
    → ArePairs IsFrameNamed (walk n f x left level a) (walk m (named_as f other) x left level b)
walk_named n m f other x zero level a b e os t = innermost_named n m a b (line_at f.lines x) e t
walk_named n m f other x (suc left) level a b e os t =
    walk_on_named n m a b (innermost n a (line_at f.lines x)) (innermost m b (line_at f.lines x))
    (λ (callee : List ℕ). walk n f x left (suc level) callee)
    (λ (callee : List ℕ). walk m (named_as f other) x left (suc level) callee)
    (inline_at f.inlines level x) e os t (innermost_named n m a b (line_at f.lines x) e t)
    (λ (c d : List ℕ) (u : IsNameText c d). walk_named n m f other x left (suc level) c d e os u)

-- the function that has an address
IsFound : Option FunctionRecord → Option FunctionRecord → Type 0
IsFound None None = Unit {0}
IsFound None (Some g) = ⊥
IsFound (Some f) None = ⊥
IsFound (Some f) (Some g) = IsFunctionNamed f g

found_if : (b : Bool) (f g : FunctionRecord) (o p : Option FunctionRecord)
    → IsFunctionNamed f g → IsFound o p → IsFound (cond b (Some f) o) (cond b (Some g) p)
unfolding IsFound
found_if true f g o p h q = h
found_if false f g o p h q = q

found : (x : ℕ) (fs gs : List FunctionRecord) → ArePairs IsFunctionNamed fs gs
    → IsFound (function_at fs x) (function_at gs x)
unfolding IsFound
found x [] [] p = tt
found x [] (g ∷ gs) p = absurd p
found x (f ∷ fs) [] p = absurd p
found x (f ∷ fs) (g ∷ gs) p =
    let here = p.0 in
    let Goal : FunctionRecord → Type 0 = λ (h : FunctionRecord).
    IsFound (function_at (f ∷ fs) x) (function_at (h ∷ gs) x) in
    subst Goal (sym here.is)
    (found_if (holds f.address f.size x) f (named_as f here.name) (function_at fs x)
    (function_at gs x) (record { name = here.name; is = refl; text = here.text }) (found x fs gs p.1))

frames_named : (n m : Numbers) (x : ℕ) (o p : Option FunctionRecord) → m.files ≡ n.files
    → ArePairs IsNameText n.origins m.origins → IsFound o p
    → ArePairs IsFrameNamed (frames_in n x o) (frames_in m x p)
unfolding IsFound
frames_named n m x None None e os q = tt
frames_named n m x None (Some g) e os q = absurd q
frames_named n m x (Some f) None e os q = absurd q
frames_named n m x (Some f) (Some g) e os q =
    let Goal : FunctionRecord → Type 0 = λ (h : FunctionRecord).
    ArePairs IsFrameNamed (frames_in n x (Some f)) (frames_in m x (Some h)) in
    subst Goal (sym q.is)
    (walk_named n m f q.name x (levels_of f.inlines) 0 f.name q.name e os q.text)

lookup_named : (r s : SymbolRecords) (x : ℕ) → AreNamed r s
    → ArePairs IsFrameNamed (lookup r x) (lookup s x)
unfolding lookup
lookup_named r s x p =
    frames_named r.numbers s.numbers x (function_at r.functions x) (function_at s.functions x)
    p.files p.origins (found x r.functions s.functions p.functions)

-- ---- a line

-- a line says the same, but for a name
data IsLineNamed (a b : Line) : Type 0 where
  Stays : b ≡ a → IsLineNamed a b
  Origin : (n : ℕ) (t u : List ℕ) → a ≡ OriginLine n t → b ≡ OriginLine n u → IsNameText t u
      → IsLineNamed a b
  Function : (address size : ℕ) (t u : List ℕ) → a ≡ FunctionLine address size t
      → b ≡ FunctionLine address size u → IsNameText t u → IsLineNamed a b

record IsNumberedAs (a b : Numbered) : Type 0 where
  number : b.number ≡ a.number
  text : IsNameText a.text b.text

record AreReadAs (a b : ReadRecords) : Type 0 where
  files : b.files ≡ a.files
  origins : ArePairs IsNumberedAs a.origins b.origins
  functions : ArePairs IsFunctionNamed a.functions b.functions
  inlines : b.inlines ≡ a.inlines
  lines : b.lines ≡ a.lines

function_made : ℕ → ℕ → List ℕ → List InlineRecord → List LineRecord → FunctionRecord
function_made address size name inlines lines = record {
  address = address;
  size = size;
  name = name;
  inlines = inlines;
  lines = lines;
}

function_same : (address size : ℕ) (name : List ℕ) (a b : ReadRecords) → b.inlines ≡ a.inlines
    → b.lines ≡ a.lines
    → function_made address size name b.inlines b.lines
    ≡ function_made address size name a.inlines a.lines
function_same address size name a b e f =
    ap (λ (xs : List InlineRecord). function_made address size name xs b.lines) e
    ∙ ap (λ (xs : List LineRecord). function_made address size name a.inlines xs) f

with_same : (l : Line) (a b : ReadRecords) → AreReadAs a b
    → AreReadAs (with_line l a) (with_line l b)
unfolding function_made
with_same (FileLine n t) a b p = record {
  files = ap (λ (xs : List Numbered). record { number = n; text = t } ∷ xs) p.files;
  origins = p.origins;
  functions = p.functions;
  inlines = p.inlines;
  lines = p.lines;
}
with_same (OriginLine n t) a b p = record {
  files = p.files;
  origins = (record { number = refl; text = inl refl }, p.origins);
  functions = p.functions;
  inlines = p.inlines;
  lines = p.lines;
}
with_same (FunctionLine address size t) a b p = record {
  files = p.files;
  origins = p.origins;
  functions = (
    record { name = t; is = function_same address size t a b p.inlines p.lines; text = inl refl },
    p.functions,
  );
  inlines = refl;
  lines = refl;
}
with_same (InlineLine i) a b p = record {
  files = p.files;
  origins = p.origins;
  functions = p.functions;
  inlines = ap (λ (xs : List InlineRecord). i ∷ xs) p.inlines;
  lines = p.lines;
}
with_same (PlaceLine q) a b p = record {
  files = p.files;
  origins = p.origins;
  functions = p.functions;
  inlines = p.inlines;
  lines = ap (λ (xs : List LineRecord). q ∷ xs) p.lines;
}
with_same OtherLine a b p = p

with_origin : (n : ℕ) (t u : List ℕ) (a b : ReadRecords) → IsNameText t u → AreReadAs a b
    → AreReadAs (with_line (OriginLine n t) a) (with_line (OriginLine n u) b)
with_origin n t u a b text p = record {
  files = p.files;
  origins = (record { number = refl; text = text }, p.origins);
  functions = p.functions;
  inlines = p.inlines;
  lines = p.lines;
}

with_function : (address size : ℕ) (t u : List ℕ) (a b : ReadRecords) → IsNameText t u
    → AreReadAs a b
    → AreReadAs (with_line (FunctionLine address size t) a)
    (with_line (FunctionLine address size u) b)
unfolding function_made
with_function address size t u a b text p = record {
  files = p.files;
  origins = p.origins;
  functions = (
    record { name = u; is = function_same address size u a b p.inlines p.lines; text = text },
    p.functions,
  );
  inlines = refl;
  lines = refl;
}

with_named : (l k : Line) (a b : ReadRecords) → IsLineNamed l k → AreReadAs a b
    → AreReadAs (with_line l a) (with_line k b)
with_named l k a b (Stays e) p =
    subst (λ (j : Line). AreReadAs (with_line l a) (with_line j b)) (sym e) (with_same l a b p)
with_named l k a b (Origin n t u e f text) p =
    subst (λ (j : Line). AreReadAs (with_line j a) (with_line k b)) (sym e)
    (subst (λ (j : Line). AreReadAs (with_line (OriginLine n t) a) (with_line j b)) (sym f)
    (with_origin n t u a b text p))
with_named l k a b (Function address size t u e f text) p =
    subst (λ (j : Line). AreReadAs (with_line j a) (with_line k b)) (sym e)
    (subst (λ (j : Line). AreReadAs (with_line (FunctionLine address size t) a) (with_line j b))
    (sym f) (with_function address size t u a b text p))

origins_named : (xs ys : List Numbered) → ArePairs IsNumberedAs xs ys
    → ArePairs IsNameText (map (λ (n : Numbered). n.text) xs) (map (λ (n : Numbered). n.text) ys)
origins_named [] [] p = tt
origins_named [] (y ∷ ys) p = absurd p
origins_named (x ∷ xs) [] p = absurd p
origins_named (x ∷ xs) (y ∷ ys) p = ((p.0).text, origins_named xs ys p.1)

records_named : (a b : ReadRecords) → AreReadAs a b → AreNamed (records_read a) (records_read b)
records_named a b p = record {
  files = ap (λ (xs : List Numbered). map (λ (n : Numbered). n.text) xs) p.files;
  origins = origins_named a.origins b.origins p.origins;
  functions = p.functions;
}

-- ---- fields

short_by : (t : Bool) (xs : List ℕ) → length (after_blank xs) ≤ length xs
    → length (cond t xs (after_blank xs)) ≤ length xs
short_by true xs le = omega arith
short_by false xs le = le

after_short : (xs : List ℕ) → length (after_blank xs) ≤ length xs
after_short [] = omega arith
after_short (b ∷ xs) =
    let le : length (after_blank (b ∷ xs)) ≤ length xs = short_by (eqb b 32) xs (after_short xs) in
    omega arith

fields_short : (n : ℕ) (xs : List ℕ) → length (after_fields n xs) ≤ length xs
fields_short zero xs = omega arith
fields_short (suc n) xs = omega (arith, fields_short n (after_blank xs), after_short xs)

-- no field stands before all of a text
no_field : (n : ℕ) (name : List ℕ) → 0 < length name → after_fields (suc n) name ≡ name → ⊥
no_field n [] some e = omega arith
no_field n (b ∷ xs) some e =
    let rest = after_blank (b ∷ xs) in
    let le : length rest ≤ length xs = short_by (eqb b 32) xs (after_short xs) in
    let more : length (after_fields n rest) ≤ length rest = fields_short n rest in
    let all : length (after_fields n rest) ≡ suc (length xs) = ap length e in
    omega arith

-- what stands after fields goes on standing there, whatever it is
fields_after : (before name t : List ℕ) (n : ℕ) → 0 < length name
    → after_fields n (before ++ name) ≡ name → after_fields n (before ++ t) ≡ t
fields_after [] name t zero some e = refl
fields_after [] name t (suc n) some e = absurd (no_field n name some e)
fields_after (b ∷ before) name t zero some e =
    absurd (omega (arith, ap length e, length-append before name))
fields_after (b ∷ before) name t (suc n) some e =
    let by : (x : Bool)
    → after_fields n (cond x (before ++ name) (after_blank (before ++ name))) ≡ name
    → after_fields n (cond x (before ++ t) (after_blank (before ++ t))) ≡ t
    = λ (x : Bool). elim x as (λ (y : Bool).
    after_fields n (cond y (before ++ name) (after_blank (before ++ name))) ≡ name
    → after_fields n (cond y (before ++ t) (after_blank (before ++ t))) ≡ t) [
      | true ↦ λ (h : after_fields n (before ++ name) ≡ name). fields_after before name t n some h
      | false ↦ λ (h : after_fields (suc n) (before ++ name) ≡ name).
          fields_after before name t (suc n) some h
    ] in
    by (eqb b 32) e

-- and the fields before it stay
field_same : (before name t : List ℕ) (n k : ℕ) → k < n → 0 < length name
    → after_fields n (before ++ name) ≡ name → field k (before ++ t) ≡ field k (before ++ name)
field_same [] name t zero k lt some e = absurd (omega arith)
field_same [] name t (suc n) k lt some e = absurd (no_field n name some e)
field_same (b ∷ before) name t zero k lt some e = absurd (omega arith)
field_same (b ∷ before) name t (suc n) zero lt some e =
    let by : (x : Bool)
    → after_fields n (cond x (before ++ name) (after_blank (before ++ name))) ≡ name
    → cond x [] (b ∷ before_blank (before ++ t)) ≡ cond x [] (b ∷ before_blank (before ++ name))
    = λ (x : Bool). elim x as (λ (y : Bool).
    after_fields n (cond y (before ++ name) (after_blank (before ++ name))) ≡ name
    → cond y [] (b ∷ before_blank (before ++ t)) ≡ cond y [] (b ∷ before_blank (before ++ name))) [
      | true ↦ λ (h : after_fields n (before ++ name) ≡ name). refl
      | false ↦ λ (h : after_fields (suc n) (before ++ name) ≡ name).
          ap (λ (xs : List ℕ). b ∷ xs) (field_same before name t (suc n) zero lt some h)
    ] in
    by (eqb b 32) e
field_same (b ∷ before) name t (suc n) (suc k) lt some e =
    let by : (x : Bool)
    → after_fields n (cond x (before ++ name) (after_blank (before ++ name))) ≡ name
    → before_blank (after_fields k (cond x (before ++ t) (after_blank (before ++ t))))
    ≡ before_blank (after_fields k (cond x (before ++ name) (after_blank (before ++ name))))
    = λ (x : Bool). elim x as (λ (y : Bool).
    after_fields n (cond y (before ++ name) (after_blank (before ++ name))) ≡ name
    → before_blank (after_fields k (cond y (before ++ t) (after_blank (before ++ t))))
    ≡ before_blank (after_fields k (cond y (before ++ name) (after_blank (before ++ name))))) [
      | true ↦ λ (h : after_fields n (before ++ name) ≡ name).
          field_same before name t n k (omega arith) some h
      | false ↦ λ (h : after_fields (suc n) (before ++ name) ≡ name).
          field_same before name t (suc n) (suc k) lt some h
    ] in
    by (eqb b 32) e

-- ---- a line with another name

-- a line, by its first field
abbrev line_by : List ℕ → List ℕ → Line
line_by word line =
    if bytes_eq word (codes "FILE") then FileLine (decimal_in 1 line) (after_fields 2 line)
    else if bytes_eq word (codes "INLINE_ORIGIN")
    then OriginLine (decimal_in 1 line) (after_fields 2 line)
    else if bytes_eq word (codes "FUNC")
    then FunctionLine (hexadecimal_in 1 line) (hexadecimal_in 2 line) (after_fields 4 line)
    else if bytes_eq word (codes "INLINE") then InlineLine (inline_in line)
    else if bytes_eq word (codes "MODULE") || bytes_eq word (codes "INFO")
    || bytes_eq word (codes "STACK") then OtherLine else PlaceLine (place_in line)

function_line : (line : List ℕ) → field 0 line ≡ codes "FUNC"
    → line_of line ≡ FunctionLine (hexadecimal_in 1 line) (hexadecimal_in 2 line)
    (after_fields 4 line)
function_line line e = ap (λ (word : List ℕ). line_by word line) e

origin_line : (line : List ℕ) → field 0 line ≡ codes "INLINE_ORIGIN"
    → line_of line ≡ OriginLine (decimal_in 1 line) (after_fields 2 line)
origin_line line e = ap (λ (word : List ℕ). line_by word line) e

function_named : (line named before text : List ℕ) → field 0 line ≡ codes "FUNC"
    → line ≡ before ++ after_fields 4 line → named ≡ before ++ text
    → 0 < length (after_fields 4 line) → IsNameText (after_fields 4 line) text
    → IsLineNamed (line_of line) (line_of named)
function_named line named before text word is becomes some t =
    let name = after_fields 4 line in
    let kept : after_fields 4 (before ++ name) ≡ name = ap (after_fields 4) (sym is) in
    let same : (k : ℕ) → k < 4 → field k named ≡ field k line = λ (k : ℕ) (lt : k < 4).
    ap (field k) becomes ∙ field_same before name text 4 k lt some kept ∙ ap (field k) (sym is) in
    let rest : after_fields 4 named ≡ text
    = ap (after_fields 4) becomes ∙ fields_after before name text 4 some kept in
    Function (hexadecimal_in 1 line) (hexadecimal_in 2 line) name text (function_line line word)
    (function_line named (same 0 (omega arith) ∙ word)
    ∙ ap (λ (f : List ℕ). FunctionLine (digits_value 16 f) (hexadecimal_in 2 named)
    (after_fields 4 named)) (same 1 (omega arith))
    ∙ ap (λ (f : List ℕ). FunctionLine (hexadecimal_in 1 line) (digits_value 16 f)
    (after_fields 4 named)) (same 2 (omega arith))
    ∙ ap (FunctionLine (hexadecimal_in 1 line) (hexadecimal_in 2 line)) rest) t

origin_named : (line named before text : List ℕ) → field 0 line ≡ codes "INLINE_ORIGIN"
    → line ≡ before ++ after_fields 2 line → named ≡ before ++ text
    → 0 < length (after_fields 2 line) → IsNameText (after_fields 2 line) text
    → IsLineNamed (line_of line) (line_of named)
origin_named line named before text word is becomes some t =
    let name = after_fields 2 line in
    let kept : after_fields 2 (before ++ name) ≡ name = ap (after_fields 2) (sym is) in
    let same : (k : ℕ) → k < 2 → field k named ≡ field k line = λ (k : ℕ) (lt : k < 2).
    ap (field k) becomes ∙ field_same before name text 2 k lt some kept ∙ ap (field k) (sym is) in
    let rest : after_fields 2 named ≡ text
    = ap (after_fields 2) becomes ∙ fields_after before name text 2 some kept in
    Origin (decimal_in 1 line) name text (origin_line line word)
    (origin_line named (same 0 (omega arith) ∙ word)
    ∙ ap (λ (f : List ℕ). OriginLine (digits_value 10 f) (after_fields 2 named))
    (same 1 (omega arith))
    ∙ ap (OriginLine (decimal_in 1 line)) rest) t

by_words : (f o : Bool) (line named before text : List ℕ) → is_word line (codes "FUNC") ≡ f
    → is_word line (codes "INLINE_ORIGIN") ≡ o
    → line ≡ before ++ cond f (after_fields 4 line) (cond o (after_fields 2 line) [])
    → named ≡ before ++ text
    → 0 < length (cond f (after_fields 4 line) (cond o (after_fields 2 line) []))
    → IsNameText (cond f (after_fields 4 line) (cond o (after_fields 2 line) [])) text
    → IsLineNamed (line_of line) (line_of named)
by_words true o line named before text first second is becomes some t =
    function_named line named before text
    ((bytes_eq-Decides (field 0 line) (codes "FUNC")).0 first) is becomes some t
by_words false true line named before text first second is becomes some t =
    origin_named line named before text
    ((bytes_eq-Decides (field 0 line) (codes "INLINE_ORIGIN")).0 second) is becomes some t
by_words false false line named before text first second is becomes some t = absurd (omega arith)

words_named : (line named before text : List ℕ) → line ≡ before ++ name_of_line line
    → named ≡ before ++ text → 0 < length (name_of_line line)
    → IsNameText (name_of_line line) text → IsLineNamed (line_of line) (line_of named)
unfolding name_of_line
words_named line named before text is becomes some t =
    by_words (is_word line (codes "FUNC")) (is_word line (codes "INLINE_ORIGIN")) line named before
    text refl refl is becomes some t

some_decorated : (name : List ℕ) → is_decorated name ≡ true → 0 < length name
some_decorated name h =
    let long : 3 ≤ length name = leb-true 3 (length name) (and_parts _ _ h).0 in
    omega arith

text_line : (line named before text : List ℕ) → line ≡ before ++ name_of_line line
    → named ≡ before ++ text → IsNameText (name_of_line line) text
    → IsLineNamed (line_of line) (line_of named)
text_line line named before text is becomes (inl e) =
    Stays (ap line_of (becomes ∙ ap (λ (xs : List ℕ). before ++ xs) e ∙ sym is))
text_line line named before text is becomes (inr u) =
    words_named line named before text is becomes (some_decorated (name_of_line line) u.decorated)
    (inr u)

line_named : (line named : List ℕ) → IsNamed line named
    → IsLineNamed (line_of line) (line_of named)
line_named line named n = text_line line named n.before n.text n.line_is n.named_is n.name

-- ---- lines

abbrev pub Lacks : List ℕ → Type 0
Lacks [] = Unit {0}
Lacks (b ∷ bytes) = (eqb b 10 ≡ false) × Lacks bytes

unbroken_lacks : (text : List ℕ) → IsUnbroken text → Lacks text
unbroken_lacks [] u = tt
unbroken_lacks (b ∷ text) u = (
  not-true (eqb b 10) (u 0 0 (omega arith)),
  unbroken_lacks text (λ (k d : ℕ) (lt : k < length text). u (suc k) d (omega arith)),
)

control : (b : ℕ) → b ≡ 10 → 32 ≤ b → ⊥
control b e le = omega arith

pub plain_lacks : (text : List ℕ) → IsPlain text → Lacks text
plain_lacks [] p = tt
plain_lacks (b ∷ text) p = (
  ne_eqb b 10 (λ (e : b ≡ 10). absurd (control b e p.0)),
  plain_lacks text p.1,
)

lacks_both : (xs ys : List ℕ) → Lacks xs → Lacks ys → Lacks (xs ++ ys)
lacks_both [] ys l m = m
lacks_both (x ∷ xs) ys l m = (l.0, lacks_both xs ys l.1 m)

lacks_front : (xs ys : List ℕ) → Lacks (xs ++ ys) → Lacks xs
lacks_front [] ys l = tt
lacks_front (x ∷ xs) ys l = (l.0, lacks_front xs ys l.1)

lacks_back : (xs ys : List ℕ) → Lacks (xs ++ ys) → Lacks ys
lacks_back [] ys l = l
lacks_back (x ∷ xs) ys l = lacks_back xs ys l.1

text_lacks : (name text : List ℕ) → IsNameText name text → Lacks name → Lacks text
text_lacks name text (inl e) l = subst Lacks (sym e) l
text_lacks name text (inr u) l =
    subst Lacks (sym u.is) (plain_lacks _ (plain_told (Some (utf8_lossy u.printed))))

named_lacks : (line named : List ℕ) → IsNamed line named → Lacks line → Lacks named
named_lacks line named n l =
    let all : Lacks (n.before ++ name_of_line line) = subst Lacks n.line_is l in
    subst Lacks (sym n.named_is) (lacks_both n.before n.text
    (lacks_front n.before (name_of_line line) all)
    (text_lacks (name_of_line line) n.text n.name (lacks_back n.before (name_of_line line) all)))

pub line_end : (begun text rest : List ℕ) → Lacks text
    → lines_after begun (text ++ 10 ∷ rest) ≡ (begun ++ text) ∷ lines_after [] rest
line_end begun [] rest l =
    ap (λ (xs : List ℕ). xs ∷ lines_after [] rest) (sym (append-nil begun))
line_end begun (b ∷ text) rest l =
    ap (λ (x : Bool). cond x (begun ∷ lines_after [] (text ++ 10 ∷ rest))
    (lines_after (begun ++ b ∷ []) (text ++ 10 ∷ rest))) l.0
    ∙ line_end (begun ++ b ∷ []) text rest l.1
    ∙ ap (λ (xs : List ℕ). xs ∷ lines_after [] rest) (append_assoc begun (b ∷ []) text)

no_line : (begun text : List ℕ) → Lacks text → lines_after begun text ≡ []
no_line begun [] l = refl
no_line begun (b ∷ text) l =
    ap (λ (x : Bool). cond x (begun ∷ lines_after [] text) (lines_after (begun ++ b ∷ []) text)) l.0
    ∙ no_line (begun ++ b ∷ []) text l.1

read_one : (line more rest : List ℕ) → Lacks line
    → read_lines (lines_of (((line ++ 10 ∷ []) ++ more) ++ rest))
    ≡ with_line (line_of line) (read_lines (lines_of (more ++ rest)))
read_one line more rest l =
    ap (λ (xs : List ℕ). read_lines (lines_of xs))
    (append_assoc (line ++ 10 ∷ []) more rest ∙ append_assoc line (10 ∷ []) (more ++ rest))
    ∙ ap read_lines (line_end [] line (more ++ rest) l)

read_named : (lines : List NamedLine) (rest : List ℕ) → All IsLineOf lines → Lacks rest
    → AreReadAs (read_lines (lines_of (stored_lines lines ++ rest)))
    (read_lines (lines_of (named_lines lines ++ rest)))
read_named [] rest all l =
    subst (λ (xs : List (List ℕ)). AreReadAs (read_lines xs) (read_lines xs)) (sym (no_line [] rest l))
    (record { files = refl; origins = tt; functions = tt; inlines = refl; lines = refl })
read_named (x ∷ lines) rest all l =
    let here : IsLineOf x = All-head IsLineOf x lines all in
    let lacks : Lacks x.0 = unbroken_lacks x.0 here.0 in
    let stored = read_lines (lines_of (stored_lines lines ++ rest)) in
    let named = read_lines (lines_of (named_lines lines ++ rest)) in
    subst (λ (r : ReadRecords). AreReadAs r (read_lines (lines_of (named_lines (x ∷ lines) ++ rest))))
    (sym (read_one x.0 (stored_lines lines) rest lacks))
    (subst (λ (r : ReadRecords). AreReadAs (with_line (line_of x.0) stored) r)
    (sym (read_one x.1 (named_lines lines) rest (named_lacks x.0 x.1 here.1 lacks)))
    (with_named (line_of x.0) (line_of x.1) stored named (line_named x.0 x.1 here.1)
    (read_named lines rest (All-tail IsLineOf x lines all) l)))

pub renamed_reads : (text named : List ℕ) → IsRenamed text named → KeepsFrames text named
unfolding read_text
renamed_reads text named r address =
    let x = r.lines in
    let stored = stored_lines x.lines ++ r.rest in
    let p : AreReadAs (read_text text) (read_text named)
    = subst (λ (t : List ℕ). AreReadAs (read_lines (lines_of t)) (read_lines (lines_of named)))
    (sym x.stored)
    (subst (λ (t : List ℕ). AreReadAs (read_lines (lines_of stored)) (read_lines (lines_of t)))
    (sym (r.whole ∙ ap (λ (f : List ℕ). f ++ r.rest) x.written))
    (read_named x.lines r.rest x.each (unbroken_lacks r.rest r.unbroken))) in
    lookup_named (records_read (read_text text)) (records_read (read_text named)) address
    (records_named (read_text text) (read_text named) p)
