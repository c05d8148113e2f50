-- The text of records reads as these records.
use Rattle.std.proofs.Common.{◌≡◌, ℕ, ◌+◌, ◌^◌, ◌<◌, ◌≤◌, List, [], ◌∷◌, ◌++◌, Bool, true, false, cond}
use Rattle.std.proofs.Common.{eqb, length, refl, sym, ◌∙◌, ap, subst, arith}
use Rattle.std.specs.Prelude.{codes, ◌||◌}
use Rattle.std.specs.List.{AllByRecursion, flat_map}
use Rattle.std.specs.Fmt.{decimal}
use Rattle.std.specs.Char.{digit_value}
use Rattle.std.specs.Str.{bytes_eq}
use Rattle.std.specs.Str.Parse.{AllDigits, IsNumeral, digits_value}
use Rattle.std.proofs.lemmas.Bool.{ne_eqb}
use Rattle.std.proofs.lemmas.Fmt.{decimal_is_IsNumeral, digits_is_IsNumeral}
use Rattle.std.proofs.lemmas.List.{append_assoc, append-nil}
use Rattle.std.proofs.lemmas.Slice.Eq.{bytes_eq-Decides}
use Rattle.pdb_symbol_files.specs.Records.{FunctionRecord, InlineRecord, LineRecord}
use Rattle.pdb_symbol_files.specs.Records.{SymbolRecords}
use Rattle.pdb_symbol_files.specs.RecordTexts.{function_text, functions_text, head_text, hexadecimal}
use Rattle.pdb_symbol_files.specs.RecordTexts.{inline_text, line_text, numbered_text, numbered_texts}
use Rattle.pdb_symbol_files.specs.RecordTexts.{numbers_text}
use Rattle.pdb_symbol_files.specs.Reading.{after_blank, after_fields, ArePlain, before_blank}
use Rattle.pdb_symbol_files.specs.Reading.{decimal_in, field, hexadecimal_in, inline_in, is_word}
use Rattle.pdb_symbol_files.specs.Reading.{IsPlain, IsPlainFunction, IsPlainInline, IsPlainLine}
use Rattle.pdb_symbol_files.specs.Reading.{Line, FileLine, FunctionLine, InlineLine, OriginLine}
use Rattle.pdb_symbol_files.specs.Reading.{PlaceLine, OtherLine, line_of, lines_after, lines_of}
use Rattle.pdb_symbol_files.specs.Reading.{Numbered, numbered_from, place_in, ReadRecords, read_lines}
use Rattle.pdb_symbol_files.specs.Reading.{ReadsBack, read_text, with_line}

-- ---- bytes that a text has not

abbrev pub Lacks : ℕ → List ℕ → Type 0
Lacks n [] = Unit {0}
Lacks n (b ∷ bytes) = (eqb b n ≡ false) × Lacks n bytes

lacks_both : (n : ℕ) (xs ys : List ℕ) → Lacks n xs → Lacks n ys → Lacks n (xs ++ ys)
lacks_both n [] ys l m = m
lacks_both n (x ∷ xs) ys l m = (l.0, lacks_both n xs ys l.1 m)

-- two fields, with a blank between them
abbrev pub two : List ℕ → List ℕ → List ℕ
two a b = a ++ 32 ∷ b

lacks_two : (xs ys : List ℕ) → Lacks 10 xs → Lacks 10 ys → Lacks 10 (two xs ys)
lacks_two xs ys l m = lacks_both 10 xs (32 ∷ ys) l (refl, m)

control : (b : ℕ) → b ≡ 10 → 32 ≤ b → ⊥
control b e le = omega arith

plain_lacks : (text : List ℕ) → IsPlain text → Lacks 10 text
plain_lacks [] p = tt
plain_lacks (b ∷ text) p = (
  ne_eqb b 10 (λ (e : b ≡ 10). absurd (control b e p.0)),
  plain_lacks text p.1,
)

-- ---- lines and fields

line_end : (begun text rest : List ℕ) → Lacks 10 text
    → lines_after begun (text ++ 10 ∷ rest) ≡ (begun ++ text) ∷ lines_after [] rest
line_end begun [] rest l =
    ap (λ (xs : List ℕ). xs ∷ lines_after [] rest) (sym (append-nil begun))
line_end begun (b ∷ text) rest l =
    ap (λ (x : Bool). cond x (begun ∷ lines_after [] (text ++ 10 ∷ rest))
    (lines_after (begun ++ b ∷ []) (text ++ 10 ∷ rest))) l.0
    ∙ line_end (begun ++ b ∷ []) text rest l.1
    ∙ ap (λ (xs : List ℕ). xs ∷ lines_after [] rest) (append_assoc begun (b ∷ []) text)

first_field : (a b : List ℕ) → Lacks 32 a → before_blank (two a b) ≡ a
first_field [] b l = refl
first_field (x ∷ a) b l =
    ap (λ (y : Bool). cond y [] (x ∷ before_blank (two a b))) l.0
    ∙ ap (λ (xs : List ℕ). x ∷ xs) (first_field a b l.1)

last_field : (a : List ℕ) → Lacks 32 a → before_blank a ≡ a
last_field [] l = refl
last_field (x ∷ a) l =
    ap (λ (y : Bool). cond y [] (x ∷ before_blank a)) l.0
    ∙ ap (λ (xs : List ℕ). x ∷ xs) (last_field a l.1)

other_fields : (a b : List ℕ) → Lacks 32 a → after_blank (two a b) ≡ b
other_fields [] b l = refl
other_fields (x ∷ a) b l =
    ap (λ (y : Bool). cond y (a ++ 32 ∷ b) (after_blank (two a b))) l.0
    ∙ other_fields a b l.1

-- ---- numbers

-- digits have neither blanks nor line feeds
no_digit : (base n b : ℕ) → base ≤ 16 → digit_value n ≡ 36 → digit_value b < base
    → eqb b n ≡ false
no_digit base n b low none lt =
    ne_eqb b n (λ (e : b ≡ n). let same : digit_value b ≡ 36 = ap digit_value e ∙ none in
    absurd (omega arith))

digits_lack : (base n : ℕ) (ds : List ℕ) → base ≤ 16 → digit_value n ≡ 36 → AllDigits base ds
    → Lacks n ds
digits_lack base n [] low none all = tt
digits_lack base n (d ∷ ds) low none all =
    (no_digit base n d low none all.0, digits_lack base n ds low none all.1)

-- a number as it is written
pub record IsWritten (base n : ℕ) (text : List ℕ) : Type 0 where
  pub digits : AllDigits base text
  pub one_line : Lacks 10 text
  pub one_field : Lacks 32 text
  pub value : digits_value base text ≡ n

written : (base n : ℕ) (text : List ℕ) → base ≤ 16 → IsNumeral base text
    → digits_value base text ≡ n → IsWritten base n text
written base n text low is value = record {
  digits = is.1;
  one_line = digits_lack base 10 text low refl is.1;
  one_field = digits_lack base 32 text low refl is.1;
  value = value;
}

in_decimal : (n : ℕ) → n < 2 ^ 64 → IsWritten 10 n (decimal n)
in_decimal n lt =
    let is = decimal_is_IsNumeral n lt in
    written 10 n (decimal n) (omega arith) is.0 is.1

in_hexadecimal : (n : ℕ) → n < 2 ^ 64 → IsWritten 16 n (hexadecimal n)
in_hexadecimal n lt =
    let is = digits_is_IsNumeral 16 false (omega arith) (omega arith) n (omega arith) in
    written 16 n (hexadecimal n) (omega arith) is.0 is.1

number_first : (base n : ℕ) (text more : List ℕ) → IsWritten base n text
    → digits_value base (before_blank (two text more)) ≡ n
number_first base n text more w =
    ap (digits_value base) (first_field text more w.one_field) ∙ w.value

number_last : (base n : ℕ) (text : List ℕ) → IsWritten base n text
    → digits_value base (before_blank text) ≡ n
number_last base n text w = ap (digits_value base) (last_field text w.one_field) ∙ w.value

-- ---- words

-- what a first field says that isn't a word
not_word : (word field : List ℕ) → ¬ (AllDigits 16 word) → AllDigits 16 field
    → bytes_eq field word ≡ false
not_word word text apart all =
    let by : (b : Bool) → bytes_eq text word ≡ b → bytes_eq text word ≡ false
    = λ (b : Bool). elim b as (λ (x : Bool). bytes_eq text word ≡ x → bytes_eq text word ≡ false) [
      | true ↦ λ (e : bytes_eq text word ≡ true).
          let P : List ℕ → Type 0 = λ (xs : List ℕ). AllDigits 16 xs in
          absurd (apart (subst P ((bytes_eq-Decides text word).0 e) all))
      | false ↦ λ (e : bytes_eq text word ≡ false). e
    ] in
    by (bytes_eq text word) refl

-- ---- lines of records

abbrev pub line_fields : LineRecord → List ℕ
line_fields r =
    two (hexadecimal r.address) (two (hexadecimal r.size) (two (decimal r.line) (decimal r.file)))

abbrev pub inline_fields : InlineRecord → List ℕ
inline_fields r =
    two (codes "INLINE") (two (decimal r.level) (two (decimal r.line) (two (decimal r.file)
    (two (decimal r.origin) (two (hexadecimal r.address) (hexadecimal r.size))))))

abbrev pub head_fields : ℕ → ℕ → List ℕ → List ℕ
head_fields address size name =
    two (codes "FUNC") (two (hexadecimal address) (two (hexadecimal size) (two (codes "0") name)))

abbrev pub text_fields : List ℕ → ℕ → List ℕ → List ℕ
text_fields word n text = two word (two (decimal n) text)

line_joined : (r : LineRecord) (rest : List ℕ)
    → line_text r ++ rest ≡ line_fields r ++ 10 ∷ rest
line_joined r rest = simp append_assoc

six : (a b c d e f rest : List ℕ)
    → (a ++ 32 ∷ [] ++ b ++ 32 ∷ [] ++ c ++ 32 ∷ [] ++ d ++ 32 ∷ []
    ++ (e ++ 32 ∷ [] ++ f ++ 10 ∷ [])) ++ rest
    ≡ two a (two b (two c (two d (two e f)))) ++ 10 ∷ rest
six a b c d e f rest = simp append_assoc

inline_joined : (r : InlineRecord) (rest : List ℕ)
    → inline_text r ++ rest ≡ inline_fields r ++ 10 ∷ rest
inline_joined r rest =
    ap (λ (xs : List ℕ). codes "INLINE " ++ xs)
    (six (decimal r.level) (decimal r.line) (decimal r.file) (decimal r.origin)
    (hexadecimal r.address) (hexadecimal r.size) rest)

head_joined : (address size : ℕ) (name rest : List ℕ)
    → head_text address size name ++ rest ≡ head_fields address size name ++ 10 ∷ rest
head_joined address size name rest = simp append_assoc

text_joined : (word : List ℕ) (n : ℕ) (text rest : List ℕ)
    → numbered_text word n text ++ rest ≡ text_fields word n text ++ 10 ∷ rest
text_joined word n text rest = simp append_assoc

-- ---- a line is read

large : (n : ℕ) → n < 16 → 16 ≤ n → ⊥
large n lt le = omega arith

five : (b c d e g : Bool) (v w x y z other : Line) → b ≡ false → c ≡ false → d ≡ false
    → e ≡ false → g ≡ false
    → cond b v (cond c w (cond d x (cond e y (cond g z other)))) ≡ other
five b c d e g v w x y z other p q r s t =
    ap (λ (o : Bool). cond o v (cond c w (cond d x (cond e y (cond g z other))))) p
    ∙ ap (λ (o : Bool). cond o w (cond d x (cond e y (cond g z other)))) q
    ∙ ap (λ (o : Bool). cond o x (cond e y (cond g z other))) r
    ∙ ap (λ (o : Bool). cond o y (cond g z other)) s
    ∙ ap (λ (o : Bool). cond o z other) t

three : (b c d : Bool) → b ≡ false → c ≡ false → d ≡ false → (b || c || d) ≡ false
three b c d p q r =
    ap (λ (o : Bool). o || c || d) p ∙ ap (λ (o : Bool). false || o || d) q ∙ r

-- a line that begins with digits is a line record
reads_digits : (line a : List ℕ) → field 0 line ≡ a → AllDigits 16 a
    → line_of line ≡ PlaceLine (place_in line)
reads_digits line a e all =
    let none : (word : List ℕ) → ¬ (AllDigits 16 word) → is_word line word ≡ false
    = λ (word : List ℕ) (apart : ¬ (AllDigits 16 word)).
    ap (λ (xs : List ℕ). bytes_eq xs word) e ∙ not_word word a apart all in
    five (is_word line (codes "FILE")) (is_word line (codes "INLINE_ORIGIN"))
    (is_word line (codes "FUNC")) (is_word line (codes "INLINE"))
    (is_word line (codes "MODULE") || is_word line (codes "INFO") || is_word line (codes "STACK"))
    (FileLine (decimal_in 1 line) (after_fields 2 line))
    (OriginLine (decimal_in 1 line) (after_fields 2 line))
    (FunctionLine (hexadecimal_in 1 line) (hexadecimal_in 2 line) (after_fields 4 line))
    (InlineLine (inline_in line)) OtherLine (PlaceLine (place_in line))
    (none (codes "FILE") (λ (d : AllDigits 16 (codes "FILE")). absurd (large 18 (d.1).0 (omega arith))))
    (none (codes "INLINE_ORIGIN")
    (λ (d : AllDigits 16 (codes "INLINE_ORIGIN")). absurd (large 18 d.0 (omega arith))))
    (none (codes "FUNC") (λ (d : AllDigits 16 (codes "FUNC")). absurd (large 30 (d.1).0 (omega arith))))
    (none (codes "INLINE") (λ (d : AllDigits 16 (codes "INLINE")). absurd (large 18 d.0 (omega arith))))
    (three (is_word line (codes "MODULE")) (is_word line (codes "INFO"))
    (is_word line (codes "STACK"))
    (none (codes "MODULE") (λ (d : AllDigits 16 (codes "MODULE")). absurd (large 22 d.0 (omega arith))))
    (none (codes "INFO") (λ (d : AllDigits 16 (codes "INFO")). absurd (large 18 d.0 (omega arith))))
    (none (codes "STACK") (λ (d : AllDigits 16 (codes "STACK")). absurd (large 28 d.0 (omega arith)))))

place_made : ℕ → ℕ → ℕ → ℕ → LineRecord
place_made address size line file = record {
  address = address;
  size = size;
  line = line;
  file = file;
}

reads_place : (a s l f : List ℕ) (r : LineRecord) → IsWritten 16 r.address a
    → IsWritten 16 r.size s → IsWritten 10 r.line l → IsWritten 10 r.file f
    → line_of (two a (two s (two l f))) ≡ PlaceLine r
unfolding place_made
reads_place a s l f r wa ws wl wf =
    let line = two a (two s (two l f)) in
    let one : after_blank line ≡ two s (two l f) = other_fields a (two s (two l f)) wa.one_field in
    let both : after_blank (after_blank line) ≡ two l f
    = ap after_blank one ∙ other_fields s (two l f) ws.one_field in
    let all : after_blank (after_blank (after_blank line)) ≡ f
    = ap after_blank both ∙ other_fields l f wl.one_field in
    let value : (base : ℕ) → List ℕ → ℕ
    = λ (base : ℕ) (xs : List ℕ). digits_value base (before_blank xs) in
    reads_digits line a (first_field a (two s (two l f)) wa.one_field) wa.digits
    ∙ ap (λ (n : ℕ). PlaceLine (place_made n (value 16 (after_blank line))
    (value 10 (after_blank (after_blank line)))
    (value 10 (after_blank (after_blank (after_blank line))))))
    (number_first 16 r.address a (two s (two l f)) wa)
    ∙ ap (λ (n : ℕ). PlaceLine (place_made r.address n
    (value 10 (after_blank (after_blank line)))
    (value 10 (after_blank (after_blank (after_blank line))))))
    (ap (value 16) one ∙ number_first 16 r.size s (two l f) ws)
    ∙ ap (λ (n : ℕ). PlaceLine (place_made r.address r.size n
    (value 10 (after_blank (after_blank (after_blank line))))))
    (ap (value 10) both ∙ number_first 10 r.line l f wl)
    ∙ ap (λ (n : ℕ). PlaceLine (place_made r.address r.size r.line n))
    (ap (value 10) all ∙ number_last 10 r.file f wf)

reads_line : (r : LineRecord) → IsPlainLine r → line_of (line_fields r) ≡ PlaceLine r
reads_line r p =
    reads_place (hexadecimal r.address) (hexadecimal r.size) (decimal r.line) (decimal r.file) r
    (in_hexadecimal r.address p.0) (in_hexadecimal r.size p.1) (in_decimal r.line p.2)
    (in_decimal r.file p.3)

inline_made : ℕ → ℕ → ℕ → ℕ → ℕ → ℕ → InlineRecord
inline_made level line file origin address size = record {
  level = level;
  line = line;
  file = file;
  origin = origin;
  address = address;
  size = size;
}

reads_call : (v l f o a s : List ℕ) (r : InlineRecord) → IsWritten 10 r.level v
    → IsWritten 10 r.line l → IsWritten 10 r.file f → IsWritten 10 r.origin o
    → IsWritten 16 r.address a → IsWritten 16 r.size s
    → line_of (two (codes "INLINE") (two v (two l (two f (two o (two a s)))))) ≡ InlineLine r
unfolding inline_made
reads_call v l f o a s r wv wl wf wo wa ws =
    let one = two v (two l (two f (two o (two a s)))) in
    let b = two l (two f (two o (two a s))) in
    let second : after_blank one ≡ b = other_fields v b wv.one_field in
    let c = two f (two o (two a s)) in
    let third : after_blank (after_blank one) ≡ c
    = ap after_blank second ∙ other_fields l c wl.one_field in
    let d = two o (two a s) in
    let fourth : after_blank (after_blank (after_blank one)) ≡ d
    = ap after_blank third ∙ other_fields f d wf.one_field in
    let e = two a s in
    let fifth : after_blank (after_blank (after_blank (after_blank one))) ≡ e
    = ap after_blank fourth ∙ other_fields o e wo.one_field in
    let sixth : after_blank (after_blank (after_blank (after_blank (after_blank one)))) ≡ s
    = ap after_blank fifth ∙ other_fields a s wa.one_field in
    let value : (base : ℕ) → List ℕ → ℕ
    = λ (base : ℕ) (xs : List ℕ). digits_value base (before_blank xs) in
    let made : (x2 x3 x4 x5 x6 : List ℕ) → after_blank one ≡ x2
    → after_blank (after_blank one) ≡ x3 → after_blank (after_blank (after_blank one)) ≡ x4
    → after_blank (after_blank (after_blank (after_blank one))) ≡ x5
    → after_blank (after_blank (after_blank (after_blank (after_blank one)))) ≡ x6
    → inline_in (two (codes "INLINE") one)
    ≡ inline_made (value 10 one) (value 10 x2) (value 10 x3) (value 10 x4) (value 16 x5)
    (value 16 x6)
    = λ (x2 x3 x4 x5 x6 : List ℕ) (e2 : after_blank one ≡ x2)
    (e3 : after_blank (after_blank one) ≡ x3)
    (e4 : after_blank (after_blank (after_blank one)) ≡ x4)
    (e5 : after_blank (after_blank (after_blank (after_blank one))) ≡ x5)
    (e6 : after_blank (after_blank (after_blank (after_blank (after_blank one)))) ≡ x6).
    let y3 = after_blank (after_blank one) in
    let y4 = after_blank y3 in
    let y5 = after_blank y4 in
    let y6 = after_blank y5 in
    ap (λ (x : List ℕ). inline_made (value 10 one) (value 10 x) (value 10 y3) (value 10 y4)
    (value 16 y5) (value 16 y6)) e2
    ∙ ap (λ (x : List ℕ). inline_made (value 10 one) (value 10 x2) (value 10 x) (value 10 y4)
    (value 16 y5) (value 16 y6)) e3
    ∙ ap (λ (x : List ℕ). inline_made (value 10 one) (value 10 x2) (value 10 x3) (value 10 x)
    (value 16 y5) (value 16 y6)) e4
    ∙ ap (λ (x : List ℕ). inline_made (value 10 one) (value 10 x2) (value 10 x3) (value 10 x4)
    (value 16 x) (value 16 y6)) e5
    ∙ ap (λ (x : List ℕ). inline_made (value 10 one) (value 10 x2) (value 10 x3) (value 10 x4)
    (value 16 x5) (value 16 x)) e6 in
    ap InlineLine (made b c d e s second third fourth fifth sixth
    ∙ ap (λ (n : ℕ). inline_made n (value 10 b) (value 10 c) (value 10 d) (value 16 e) (value 16 s))
    (number_first 10 r.level v b wv)
    ∙ ap (λ (n : ℕ). inline_made r.level n (value 10 c) (value 10 d) (value 16 e) (value 16 s))
    (number_first 10 r.line l c wl)
    ∙ ap (λ (n : ℕ). inline_made r.level r.line n (value 10 d) (value 16 e) (value 16 s))
    (number_first 10 r.file f d wf)
    ∙ ap (λ (n : ℕ). inline_made r.level r.line r.file n (value 16 e) (value 16 s))
    (number_first 10 r.origin o e wo)
    ∙ ap (λ (n : ℕ). inline_made r.level r.line r.file r.origin n (value 16 s))
    (number_first 16 r.address a s wa)
    ∙ ap (λ (n : ℕ). inline_made r.level r.line r.file r.origin r.address n)
    (number_last 16 r.size s ws))

reads_inline : (r : InlineRecord) → IsPlainInline r → line_of (inline_fields r) ≡ InlineLine r
reads_inline r p =
    reads_call (decimal r.level) (decimal r.line) (decimal r.file) (decimal r.origin)
    (hexadecimal r.address) (hexadecimal r.size) r
    (in_decimal r.level p.0) (in_decimal r.line p.1) (in_decimal r.file p.2)
    (in_decimal r.origin p.3) (in_hexadecimal r.address p.4) (in_hexadecimal r.size p.5)

reads_numbered : (n : ℕ) (d text : List ℕ) (make : ℕ → List ℕ → Line) → IsWritten 10 n d
    → make (digits_value 10 (before_blank (two d text))) (after_blank (two d text)) ≡ make n text
reads_numbered n d text make w =
    ap (λ (x : ℕ). make x (after_blank (two d text))) (number_first 10 n d text w)
    ∙ ap (make n) (other_fields d text w.one_field)

reads_head : (address size : ℕ) (name : List ℕ) → address < 2 ^ 64 → size < 2 ^ 64
    → line_of (head_fields address size name) ≡ FunctionLine address size name
reads_head address size name la ls =
    let a = hexadecimal address in
    let s = hexadecimal size in
    let wa = in_hexadecimal address la in
    let ws = in_hexadecimal size ls in
    let rest = two s (two (codes "0") name) in
    let one : after_blank (two a rest) ≡ rest = other_fields a rest wa.one_field in
    ap (λ (n : ℕ). FunctionLine n (digits_value 16 (before_blank (after_blank (two a rest))))
    (after_blank (after_blank (after_blank (two a rest))))) (number_first 16 address a rest wa)
    ∙ ap (λ (xs : List ℕ). FunctionLine address (digits_value 16 (before_blank xs))
    (after_blank (after_blank xs))) one
    ∙ ap (λ (n : ℕ). FunctionLine address n (after_blank (after_blank rest)))
    (number_first 16 size s (two (codes "0") name) ws)
    ∙ ap (λ (xs : List ℕ). FunctionLine address size (after_blank xs))
    (other_fields s (two (codes "0") name) ws.one_field)

-- ---- many lines

read_first : (line rest : List ℕ) → Lacks 10 line
    → read_lines (lines_of (line ++ 10 ∷ rest)) ≡ with_line (line_of line) (read_lines (lines_of rest))
read_first line rest l = ap read_lines (line_end [] line rest l)

-- the fields of records are lines
line_lacks : (r : LineRecord) → IsPlainLine r → Lacks 10 (line_fields r)
line_lacks r p =
    lacks_two (hexadecimal r.address)
    (two (hexadecimal r.size) (two (decimal r.line) (decimal r.file)))
    (in_hexadecimal r.address p.0).one_line
    (lacks_two (hexadecimal r.size) (two (decimal r.line) (decimal r.file))
    (in_hexadecimal r.size p.1).one_line
    (lacks_two (decimal r.line) (decimal r.file) (in_decimal r.line p.2).one_line
    (in_decimal r.file p.3).one_line))

inline_lacks : (r : InlineRecord) → IsPlainInline r → Lacks 10 (inline_fields r)
inline_lacks r p =
    let place = two (hexadecimal r.address) (hexadecimal r.size) in
    let origin = two (decimal r.origin) place in
    let file = two (decimal r.file) origin in
    let line = two (decimal r.line) file in
    lacks_two (codes "INLINE") (two (decimal r.level) line)
    (refl, (refl, (refl, (refl, (refl, (refl, tt))))))
    (lacks_two (decimal r.level) line (in_decimal r.level p.0).one_line
    (lacks_two (decimal r.line) file (in_decimal r.line p.1).one_line
    (lacks_two (decimal r.file) origin (in_decimal r.file p.2).one_line
    (lacks_two (decimal r.origin) place (in_decimal r.origin p.3).one_line
    (lacks_two (hexadecimal r.address) (hexadecimal r.size)
    (in_hexadecimal r.address p.4).one_line (in_hexadecimal r.size p.5).one_line)))))

head_lacks : (address size : ℕ) (name : List ℕ) → address < 2 ^ 64 → size < 2 ^ 64
    → IsPlain name → Lacks 10 (head_fields address size name)
head_lacks address size name la ls p =
    let last = two (codes "0") name in
    let rest = two (hexadecimal size) last in
    lacks_two (codes "FUNC") (two (hexadecimal address) rest) (refl, (refl, (refl, (refl, tt))))
    (lacks_two (hexadecimal address) rest (in_hexadecimal address la).one_line
    (lacks_two (hexadecimal size) last (in_hexadecimal size ls).one_line
    (lacks_two (codes "0") name (refl, tt) (plain_lacks name p))))

read_made : List Numbered → List Numbered → List FunctionRecord → List InlineRecord
    → List LineRecord → ReadRecords
read_made files origins functions inlines lines = record {
  files = files;
  origins = origins;
  functions = functions;
  inlines = inlines;
  lines = lines;
}

-- what is read with more line records, INLINE records, functions or texts before it
abbrev with_lines : List LineRecord → ReadRecords → ReadRecords
with_lines ps r = record r { lines = ps ++ r.lines }

abbrev with_inlines : List InlineRecord → ReadRecords → ReadRecords
with_inlines is r = record r { inlines = is ++ r.inlines }

read_line_records : (ps : List LineRecord) (rest : List ℕ) → AllByRecursion IsPlainLine ps
    → read_lines (lines_of (flat_map line_text ps ++ rest))
    ≡ with_lines ps (read_lines (lines_of rest))
read_line_records [] rest all = refl
read_line_records (p ∷ ps) rest all =
    let more = flat_map line_text ps ++ rest in
    ap (λ (xs : List ℕ). read_lines (lines_of xs))
    (append_assoc (line_text p) (flat_map line_text ps) rest ∙ line_joined p more)
    ∙ read_first (line_fields p) more (line_lacks p all.0)
    ∙ ap (λ (l : Line). with_line l (read_lines (lines_of more))) (reads_line p all.0)
    ∙ ap (with_line (PlaceLine p)) (read_line_records ps rest all.1)

read_inline_records : (is : List InlineRecord) (rest : List ℕ) → AllByRecursion IsPlainInline is
    → read_lines (lines_of (flat_map inline_text is ++ rest))
    ≡ with_inlines is (read_lines (lines_of rest))
read_inline_records [] rest all = refl
read_inline_records (i ∷ is) rest all =
    let more = flat_map inline_text is ++ rest in
    ap (λ (xs : List ℕ). read_lines (lines_of xs))
    (append_assoc (inline_text i) (flat_map inline_text is) rest ∙ inline_joined i more)
    ∙ read_first (inline_fields i) more (inline_lacks i all.0)
    ∙ ap (λ (l : Line). with_line l (read_lines (lines_of more))) (reads_inline i all.0)
    ∙ ap (with_line (InlineLine i)) (read_inline_records is rest all.1)

-- nothing but functions was read
abbrev functions_read : List FunctionRecord → ReadRecords
functions_read functions = record {
  files = [];
  origins = [];
  functions = functions;
  inlines = [];
  lines = [];
}

function_made : ℕ → ℕ → List ℕ → List InlineRecord → List LineRecord → FunctionRecord
function_made address size name inlines lines = record {
  address = address;
  size = size;
  name = name;
  inlines = inlines;
  lines = lines;
}

joined_function : (f : FunctionRecord) (rest : List ℕ)
    → function_text f ++ rest
    ≡ head_fields f.address f.size f.name
    ++ 10 ∷ (flat_map inline_text f.inlines ++ (flat_map line_text f.lines ++ rest))
joined_function f rest =
    append_assoc (head_text f.address f.size f.name ++ flat_map inline_text f.inlines)
    (flat_map line_text f.lines) rest
    ∙ append_assoc (head_text f.address f.size f.name) (flat_map inline_text f.inlines)
    (flat_map line_text f.lines ++ rest)
    ∙ head_joined f.address f.size f.name
    (flat_map inline_text f.inlines ++ (flat_map line_text f.lines ++ rest))

read_functions : (fs : List FunctionRecord) → AllByRecursion IsPlainFunction fs
    → read_lines (lines_of (flat_map function_text fs)) ≡ functions_read fs
unfolding function_made
read_functions [] all = refl
read_functions (f ∷ fs) all =
    let rest = flat_map function_text fs in
    let p = all.0 in
    let below = flat_map inline_text f.inlines ++ (flat_map line_text f.lines ++ rest) in
    let inside : read_lines (lines_of below)
    ≡ with_inlines f.inlines (with_lines f.lines (functions_read fs))
    = read_inline_records f.inlines (flat_map line_text f.lines ++ rest) p.inlines
    ∙ ap (with_inlines f.inlines) (read_line_records f.lines rest p.lines
    ∙ ap (with_lines f.lines) (read_functions fs all.1)) in
    ap (λ (xs : List ℕ). read_lines (lines_of xs)) (joined_function f rest)
    ∙ read_first (head_fields f.address f.size f.name) below
    (head_lacks f.address f.size f.name p.address p.size p.name)
    ∙ ap (λ (l : Line). with_line l (read_lines (lines_of below)))
    (reads_head f.address f.size f.name p.address p.size)
    ∙ ap (with_line (FunctionLine f.address f.size f.name)) inside
    ∙ ap (λ (is : List InlineRecord). functions_read (function_made f.address f.size f.name is
    (f.lines ++ []) ∷ fs)) (append-nil f.inlines)
    ∙ ap (λ (ps : List LineRecord). functions_read (function_made f.address f.size f.name f.inlines
    ps ∷ fs)) (append-nil f.lines)

-- ---- files and inlined functions

text_lacks : (word text : List ℕ) (n : ℕ) → Lacks 10 word → n < 2 ^ 64 → IsPlain text
    → Lacks 10 (text_fields word n text)
text_lacks word text n w lt p =
    lacks_two word (two (decimal n) text) w
    (lacks_two (decimal n) text (in_decimal n lt).one_line (plain_lacks text p))

abbrev with_files : List Numbered → ReadRecords → ReadRecords
with_files ts r = record r { files = ts ++ r.files }

abbrev with_origins : List Numbered → ReadRecords → ReadRecords
with_origins ts r = record r { origins = ts ++ r.origins }

read_files : (ts : List (List ℕ)) (n : ℕ) (rest : List ℕ) → AllByRecursion IsPlain ts
    → n + length ts < 2 ^ 64
    → read_lines (lines_of (numbered_texts (codes "FILE") n ts ++ rest))
    ≡ with_files (numbered_from n ts) (read_lines (lines_of rest))
read_files [] n rest all few = refl
read_files (t ∷ ts) n rest all few =
    let more = numbered_texts (codes "FILE") (n + 1) ts ++ rest in
    let line = text_fields (codes "FILE") n t in
    ap (λ (xs : List ℕ). read_lines (lines_of xs))
    (append_assoc (numbered_text (codes "FILE") n t)
    (numbered_texts (codes "FILE") (n + 1) ts) rest ∙ text_joined (codes "FILE") n t more)
    ∙ read_first line more
    (text_lacks (codes "FILE") t n (refl, (refl, (refl, (refl, tt)))) (omega arith) all.0)
    ∙ ap (λ (l : Line). with_line l (read_lines (lines_of more)))
    (reads_numbered n (decimal n) t FileLine (in_decimal n (omega arith)))
    ∙ ap (with_line (FileLine n t)) (read_files ts (n + 1) rest all.1 (omega arith))

origin_lacks : Lacks 10 (codes "INLINE_ORIGIN")
origin_lacks =
    (refl, (refl, (refl, (refl, (refl, (refl, (refl, (refl, (refl, (refl, (refl, (refl, (refl, tt)))))))))))))

read_origins : (ts : List (List ℕ)) (n : ℕ) (rest : List ℕ) → AllByRecursion IsPlain ts
    → n + length ts < 2 ^ 64
    → read_lines (lines_of (numbered_texts (codes "INLINE_ORIGIN") n ts ++ rest))
    ≡ with_origins (numbered_from n ts) (read_lines (lines_of rest))
read_origins [] n rest all few = refl
read_origins (t ∷ ts) n rest all few =
    let more = numbered_texts (codes "INLINE_ORIGIN") (n + 1) ts ++ rest in
    let line = text_fields (codes "INLINE_ORIGIN") n t in
    ap (λ (xs : List ℕ). read_lines (lines_of xs))
    (append_assoc (numbered_text (codes "INLINE_ORIGIN") n t)
    (numbered_texts (codes "INLINE_ORIGIN") (n + 1) ts) rest
    ∙ text_joined (codes "INLINE_ORIGIN") n t more)
    ∙ read_first line more
    (text_lacks (codes "INLINE_ORIGIN") t n origin_lacks (omega arith) all.0)
    ∙ ap (λ (l : Line). with_line l (read_lines (lines_of more)))
    (reads_numbered n (decimal n) t OriginLine (in_decimal n (omega arith)))
    ∙ ap (with_line (OriginLine n t)) (read_origins ts (n + 1) rest all.1 (omega arith))

from_none : {n : ℕ} → n < 2 ^ 64 → 0 + n < 2 ^ 64
from_none lt = omega arith

pub reads_back : (r : SymbolRecords) → ArePlain r → ReadsBack r
unfolding read_text numbers_text functions_text read_made
reads_back r p =
    let files = numbered_texts (codes "FILE") 0 (r.numbers).files in
    let origins = numbered_texts (codes "INLINE_ORIGIN") 0 (r.numbers).origins in
    let functions = flat_map function_text r.functions in
    ap (λ (xs : List ℕ). read_lines (lines_of xs)) (append_assoc files origins functions)
    ∙ read_files (r.numbers).files 0 (origins ++ functions) p.files (from_none p.few_files)
    ∙ ap (with_files (numbered_from 0 (r.numbers).files))
    (read_origins (r.numbers).origins 0 functions p.origins (from_none p.few_origins)
    ∙ ap (with_origins (numbered_from 0 (r.numbers).origins)) (read_functions r.functions p.functions))
    ∙ ap (λ (xs : List Numbered). read_made xs (numbered_from 0 (r.numbers).origins ++ []) r.functions
    [] []) (append-nil (numbered_from 0 (r.numbers).files))
    ∙ ap (λ (xs : List Numbered). read_made (numbered_from 0 (r.numbers).files) xs r.functions [] [])
    (append-nil (numbered_from 0 (r.numbers).origins))
