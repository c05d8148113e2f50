-- What a consumer says by the whole text of a symbol file.
use Rattle.std.proofs.Common.{◌≡◌, ◌∙◌, ℕ, zero, suc, ◌+◌, ◌-◌, ◌/◌, ◌%◌, ◌≤◌, ◌^◌, List, [], ◌∷◌, ◌++◌}
use Rattle.std.proofs.Common.{Bool, true, false, refl, sym, ap, subst, arith, append_assoc, append-nil}
use Rattle.std.proofs.Common.{length, cond, eqb, leb, ltb, inl, inr, replicate}
use Rattle.std.specs.Prelude.{codes, Option, None, Some, Result, Ok, Err, OnOk, ◌&&◌, ℤ, pos, negsuc}
use Rattle.std.specs.Prelude.{drop, ◌==◌, ◌||◌}
use Rattle.std.specs.Char.{encode_utf8}
use Rattle.std.specs.Fmt.{decimal, digit_glyph, digits, digits_onto}
use Rattle.std.specs.Fmt.{fill_after_digits, format_spec, number_padding, padded_integral}
use Rattle.std.specs.Fmt.{padding_before}
use Rattle.std.specs.List.{AllByRecursion, flat_map, repeat}
use Rattle.std.proofs.lemmas.Bool.{and_parts, leb-true}
use Rattle.std.proofs.lemmas.Grind.{flat_map-append}
use Rattle.pdb_container.specs.Container.{half_at, word_at}
use Rattle.pdb_container.specs.Fault.{◌>>=◌}
use Rattle.pdb_addr2line.specs.Identity.{identity_in}
use Rattle.pdb_image.specs.Image.{Image}
use Rattle.pdb_image.specs.declared.error.ImageError.{ImageError}
use Rattle.pdb_image.specs.declared.identity.PdbIdentity.{PdbIdentity}
use Rattle.pdb_loading.specs.Loading.{Loaded, LoadingFault, loaded_with}
use Rattle.pdb_loading.specs.declared.order.ContributionOrder.TheVariants.{Any}
use Rattle.pdb_symbol_files.specs.CodeRoads.{records_of_code, shown_at, shown_by}
use Rattle.pdb_symbol_files.specs.Heads.{code_id_text, eight_digits, file_name, machine_name}
use Rattle.pdb_symbol_files.specs.Heads.{machine_text, module_text}
use Rattle.pdb_symbol_files.specs.Lookup.{Shown, lookup}
use Rattle.pdb_symbol_files.specs.PlainAnswers.{records_read}
use Rattle.pdb_symbol_files.specs.Reading.{IsPlain, Line, OtherLine, ReadRecords, ReadsBack}
use Rattle.pdb_symbol_files.specs.Reading.{line_of, lines_after, lines_of, read_lines, read_text}
use Rattle.pdb_symbol_files.specs.Reading.{with_line}
use Rattle.pdb_symbol_files.specs.RecordTexts.{call_text, function_text, functions_text, head_text}
use Rattle.pdb_symbol_files.specs.RecordTexts.{hexadecimal, inline_text, line_text, numbers_text}
use Rattle.pdb_symbol_files.specs.RecordTexts.{range_text}
use Rattle.pdb_symbol_files.specs.Records.{FunctionRecord, InlineRecord, LineRecord, SymbolRecords}
use Rattle.pdb_symbol_files.specs.Texts.{told_text}
use Rattle.pdb_symbol_files.specs.Told.{Told}
use Rattle.pdb_addresses.specs.declared.sections.ImageSectionHeader.{ImageSectionHeader}
use Rattle.pdb_symbol_files.proofs.PlainAlong.{code_roads}
use Rattle.pdb_symbol_files.proofs.PlainTexts.{plain_told}
use Rattle.pdb_symbols.specs.NamedLines.{IsRenamed, Line as NamedLine, named_lines, stored_lines}
use Rattle.pdb_symbols.specs.Roads.{ArePairs, HasFileRoads, IsFrameNamed, WritesTold, frames_by}
use Rattle.pdb_symbols.specs.Roads.{frames_told}
use Rattle.pdb_symbols.specs.SymbolFile.{Asked, Refusal, SymbolFile, WritesSymbols, file_of}
use Rattle.pdb_symbols.specs.SymbolFile.{first_records, guid_name, identity_name, image_if}
use Rattle.pdb_symbols.specs.SymbolFile.{image_record, in_loading, padded, symbol_file, text_of}
use Rattle.pdb_symbols.specs.SymbolsText.{records_text}
use Rattle.pdb_symbols.specs.Told.{told_named}
use Rattle.pdb_symbols.specs.UnwindingText.{text_if_read, text_of_image, unwinding_text, unwound_text}
use Rattle.pdb_symbols.specs.declared.fault.SymbolsFault.{SymbolsFault}
use Rattle.pdb_symbols.proofs.MakingSteps.{IsEnded, ended_both, ends_after, ends_line, first_ended}
use Rattle.pdb_symbols.proofs.MakingSteps.{numbers_ended}
use Rattle.pdb_symbols.proofs.MakingSteps.{rest_none, same_file, step}
use Rattle.pdb_symbols.proofs.RenamedReads.{line_end, plain_lacks, renamed_reads}
use Rattle.pdb_symbols_modules.specs.Shared.{shared}
use Rattle.pdb_symbols_modules.specs.Streams.{Streams}
use Rattle.pdb_image.specs.Entries.{UnwoundFunction, functions_in}
use Rattle.pdb_image.specs.Records.{Change, Records, Rule, records_of}
use Rattle.pdb_image.specs.Texts as unwinding
use Rattle.pdb_image.specs.declared.rules.Expression.{Expression}
use Rattle.pdb_image.specs.declared.rules.Register.{Register}
use Rattle.pdb_image.specs.declared.rules.Register.TheVariants.{Cfa, General, ReturnAddress}

-- ---- plain texts

plain_both : (xs ys : List ℕ) → IsPlain xs → IsPlain ys → IsPlain (xs ++ ys)
plain_both [] ys p q = q
plain_both (x ∷ xs) ys p q = (p.0, plain_both xs ys p.1 q)

plain_if : (b : Bool) (xs ys : List ℕ) → IsPlain xs → IsPlain ys → IsPlain (cond b xs ys)
plain_if true xs ys p q = p
plain_if false xs ys p q = q

plain_flat : {A : Type 0} (f : A → List ℕ) (xs : List A) → ((x : A) → IsPlain (f x))
    → IsPlain (flat_map f xs)
plain_flat f [] p = tt
plain_flat f (x ∷ xs) p = plain_both (f x) (flat_map f xs) (p x) (plain_flat f xs p)

are_plain : List ℕ → Bool
are_plain [] = true
are_plain (b ∷ bytes) = leb 32 b && are_plain bytes

plain_by : (text : List ℕ) → are_plain text ≡ true → IsPlain text
unfolding are_plain
plain_by [] e = tt
plain_by (b ∷ bytes) e =
    let both = and_parts (leb 32 b) (are_plain bytes) e in
    (leb-true 32 b both.0, plain_by bytes both.1)

-- a text without control characters
record PlainText : Type 0 where
  text : List ℕ
  plain : IsPlain text

abbrev nothing : PlainText
nothing = record { text = []; plain = tt }

abbrev literal : (text : List ℕ) → are_plain text ≡ true → PlainText
literal text e = record { text = text; plain = plain_by text e }

abbrev joined : PlainText → PlainText → PlainText
joined a b = record { text = a.text ++ b.text; plain = plain_both a.text b.text a.plain b.plain }

abbrev chosen : Bool → PlainText → PlainText → PlainText
chosen b x y = record { text = cond b x.text y.text; plain = plain_if b x.text y.text x.plain y.plain }

abbrev one_by_one : {A : Type 0} → (A → PlainText) → List A → PlainText
one_by_one f xs = record {
  text = flat_map (λ x. (f x).text) xs;
  plain = plain_flat (λ x. (f x).text) xs (λ x. (f x).plain);
}

abbrev told : Option (List ℕ) → PlainText
told text = record { text = told_text text; plain = plain_told text }

-- ---- numbers

glyph_by : (b u : Bool) (d : ℕ) → 32 ≤ cond b (48 + d) (cond u (55 + d) (87 + d))
glyph_by true u d = omega arith
glyph_by false true d = omega arith
glyph_by false false d = omega arith

plain_onto : (k base : ℕ) (upper : Bool) (n : ℕ) (text : List ℕ) → IsPlain text
    → IsPlain (digits_onto k base upper n text)
plain_onto zero base upper n text p = p
plain_onto (suc k) base upper n text p =
    let here : IsPlain (digit_glyph upper (n % base) ∷ text)
    = (glyph_by (ltb (n % base) 10) upper (n % base), p) in
    plain_if (eqb (n / base) 0) (digit_glyph upper (n % base) ∷ text)
    (digits_onto k base upper (n / base) (digit_glyph upper (n % base) ∷ text)) here
    (plain_onto k base upper (n / base) (digit_glyph upper (n % base) ∷ text) here)

plain_digits : (base : ℕ) (upper : Bool) (n : ℕ) → IsPlain (digits base upper n)
unfolding digits
plain_digits base upper n = plain_onto 64 base upper n [] tt

plain_repeat : (n : ℕ) (text : List ℕ) → IsPlain text → IsPlain (repeat n text)
plain_repeat zero text p = tt
plain_repeat (suc n) text p = plain_both text (repeat n text) p (plain_repeat n text p)

plain_zeros : (n : ℕ) → IsPlain (replicate n 48)
plain_zeros zero = tt
plain_zeros (suc n) = (omega arith, plain_zeros n)

abbrev number : ℕ → Bool → ℕ → PlainText
number base upper n = record { text = digits base upper n; plain = plain_digits base upper n }

plain_blank : IsPlain (encode_utf8 32)
unfolding encode_utf8
plain_blank = (omega arith, tt)

abbrev filled : ℕ → PlainText
filled n = record {
  text = repeat n (encode_utf8 32);
  plain = plain_repeat n (encode_utf8 32) plain_blank;
}

abbrev zeros : ℕ → PlainText
zeros n = record { text = replicate n 48; plain = plain_zeros n }

plain_padded : (width n : ℕ) → IsPlain (padded width n)
unfolding padded_integral are_plain
plain_padded width n =
    let s = format_spec 32 0 4 width (2 ^ 64 - 1) in
    let digits_of = number 16 true n in
    let size = length digits_of.text in
    let padding = number_padding s false [] size in
    (joined
    (joined (joined (joined (filled (cond s.zero 0 (padding_before s padding 3)))
    (chosen s.plus (literal (43 ∷ []) refl) nothing)) (chosen s.alternate nothing nothing))
    (zeros (cond s.zero padding 0)))
    (joined digits_of (filled (fill_after_digits s false [] size)))).plain

abbrev in_width : ℕ → ℕ → PlainText
in_width width n = record { text = padded width n; plain = plain_padded width n }

-- ---- lines that say nothing of functions

abbrev IsOtherLine : List ℕ → Type 0
IsOtherLine line = IsPlain line × (line_of line ≡ OtherLine)

with_end : List ℕ → List ℕ
with_end line = line ++ 10 ∷ []

-- a text of such lines
record IsOther (text : List ℕ) : Type 0 where
  lines : List (List ℕ)
  each : AllByRecursion IsOtherLine lines
  is : text ≡ flat_map with_end lines

other_none : IsOther []
other_none = record { lines = []; each = tt; is = refl }

all_both : (xs ys : List (List ℕ)) → AllByRecursion IsOtherLine xs
    → AllByRecursion IsOtherLine ys → AllByRecursion IsOtherLine (xs ++ ys)
all_both [] ys p q = q
all_both (x ∷ xs) ys p q = (p.0, all_both xs ys p.1 q)

other_both : (a b : List ℕ) → IsOther a → IsOther b → IsOther (a ++ b)
other_both a b p q = record {
  lines = p.lines ++ q.lines;
  each = all_both p.lines q.lines p.each q.each;
  is = ap (λ (xs : List ℕ). xs ++ b) p.is
      ∙ ap (λ (xs : List ℕ). flat_map with_end p.lines ++ xs) q.is
      ∙ sym (flat_map-append with_end p.lines q.lines);
}

other_flat : {A : Type 0} (f : A → List ℕ) (xs : List A) → ((x : A) → IsOther (f x))
    → IsOther (flat_map f xs)
other_flat f [] p = other_none
other_flat f (x ∷ xs) p = other_both (f x) (flat_map f xs) (p x) (other_flat f xs p)

other_line : (line : PlainText) → line_of line.text ≡ OtherLine → IsOther (line.text ++ 10 ∷ [])
unfolding with_end
other_line line e = record {
  lines = line.text ∷ [];
  each = ((line.plain, e), tt);
  is = sym (append-nil (line.text ++ 10 ∷ []));
}

-- two parts of such a line
other_parts : (a b : PlainText) → line_of (a.text ++ b.text) ≡ OtherLine
    → IsOther (a.text ++ (b.text ++ 10 ∷ []))
other_parts a b e =
    subst IsOther (append_assoc a.text b.text (10 ∷ [])) (other_line (joined a b) e)

read_other : (lines : List (List ℕ)) (more : List ℕ) → AllByRecursion IsOtherLine lines
    → read_lines (lines_of (flat_map with_end lines ++ more)) ≡ read_lines (lines_of more)
unfolding with_end
read_other [] more all = refl
read_other (x ∷ lines) more all =
    let rest = flat_map with_end lines in
    ap (λ (xs : List ℕ). read_lines (lines_of xs))
    (append_assoc (x ++ 10 ∷ []) rest more ∙ append_assoc x (10 ∷ []) (rest ++ more))
    ∙ ap read_lines (line_end [] x (rest ++ more) (plain_lacks x (all.0).0))
    ∙ ap (λ (l : Line). with_line l (read_lines (lines_of (rest ++ more)))) (all.0).1
    ∙ read_other lines more all.1

-- such lines before a text
drop_before : (other text : List ℕ) → IsOther other → read_text (other ++ text) ≡ read_text text
unfolding read_text
drop_before other text o =
    ap (λ (xs : List ℕ). read_lines (lines_of (xs ++ text))) o.is ∙ read_other o.lines text o.each

lines_split : (begun front more : List ℕ)
    → lines_after begun ((front ++ 10 ∷ []) ++ more)
    ≡ lines_after begun (front ++ 10 ∷ []) ++ lines_of more
lines_split begun [] more = refl
lines_split begun (b ∷ front) more =
    let all = (front ++ 10 ∷ []) ++ more in
    let line = front ++ 10 ∷ [] in
    let by : (x : Bool)
    → cond x (begun ∷ lines_after [] all) (lines_after (begun ++ b ∷ []) all)
    ≡ cond x (begun ∷ lines_after [] line) (lines_after (begun ++ b ∷ []) line) ++ lines_of more
    = λ (x : Bool). elim x as (λ (y : Bool).
    cond y (begun ∷ lines_after [] all) (lines_after (begun ++ b ∷ []) all)
    ≡ cond y (begun ∷ lines_after [] line) (lines_after (begun ++ b ∷ []) line)
    ++ lines_of more) [
      | true ↦ ap (λ (xs : List (List ℕ)). begun ∷ xs) (lines_split [] front more)
      | false ↦ lines_split (begun ++ b ∷ []) front more
    ] in
    by (eqb b 10)

ended_lines : (text more : List ℕ) → IsEnded text
    → lines_of (text ++ more) ≡ lines_of text ++ lines_of more
ended_lines text more (inl none) =
    subst (λ (t : List ℕ). lines_of (t ++ more) ≡ lines_of t ++ lines_of more) (sym none) refl
ended_lines text more (inr (front, e)) =
    subst (λ (t : List ℕ). lines_of (t ++ more) ≡ lines_of t ++ lines_of more) (sym e)
    (lines_split [] front more)

read_before : (xs ys : List (List ℕ)) → read_lines ys ≡ read_lines []
    → read_lines (xs ++ ys) ≡ read_lines xs
read_before [] ys e = e
read_before (x ∷ xs) ys e = ap (with_line (line_of x)) (read_before xs ys e)

-- such lines after a text that a newline ends
drop_after : (text other : List ℕ) → IsEnded text → IsOther other
    → read_text (text ++ other) ≡ read_text text
unfolding read_text
drop_after text other ended o =
    let none : read_lines (lines_of other) ≡ read_lines []
    = ap (λ (xs : List ℕ). read_lines (lines_of xs))
    (o.is ∙ sym (append-nil (flat_map with_end o.lines)))
    ∙ read_other o.lines [] o.each in
    ap read_lines (ended_lines text other ended)
    ∙ read_before (lines_of text) (lines_of other) none

-- ---- the first records

plain_machine : (machine : ℕ) → IsPlain (machine_name machine)
unfolding machine_name are_plain
plain_machine machine =
    (chosen (machine == 0x8664) (literal (codes "x86_64") refl)
    (chosen (machine == 0x14c) (literal (codes "x86") refl)
    (chosen ((machine == 0xaa64) || (machine == 0xa641)) (literal (codes "arm64") refl)
    (chosen (machine == 0x1c4) (literal (codes "arm") refl)
    (literal (codes "unknown") refl))))).plain

abbrev machine_part : ℕ → PlainText
machine_part machine = record { text = machine_name machine; plain = plain_machine machine }

plain_guid : (guid : List ℕ) → IsPlain (guid_name guid)
unfolding guid_name
plain_guid guid =
    (joined (joined (joined (in_width 8 (word_at guid 0)) (in_width 4 (half_at guid 4)))
    (in_width 4 (half_at guid 6))) (one_by_one (in_width 2) (drop 8 guid))).plain

abbrev identity_part : PdbIdentity → PlainText
identity_part i =
    joined (record { text = guid_name i.guid; plain = plain_guid i.guid }) (number 16 false i.age)

module_other : (machine : ℕ) (i : PdbIdentity) (path : List ℕ)
    → IsOther (module_text machine (identity_name i) path)
unfolding are_plain
module_other machine i path =
    other_parts
    (joined (joined (literal (codes "MODULE windows ") refl) (machine_part machine))
    (literal (codes " ") refl))
    (joined (joined (identity_part i) (literal (codes " ") refl)) (told (Some (file_name path)))) refl

image_other : (image : Option Image) (path : Option (List ℕ)) → IsOther (image_record image path)
unfolding are_plain
image_other None path = other_none
image_other (Some image) None = other_none
image_other (Some image) (Some path) =
    other_line
    (joined (joined (joined (joined (literal (codes "INFO CODE_ID ") refl)
    (in_width 8 image.time_stamp)) (number 16 false image.size_of_image))
    (literal (codes " ") refl)) (told (Some (file_name path)))) refl

first_other : (asked : Asked) (machine : ℕ) (i : PdbIdentity) (image : Option Image)
    → IsOther (first_records asked machine i image)
first_other asked machine i image =
    other_both (module_text machine (identity_name i) asked.path)
    (image_record image asked.image_path) (module_other machine i asked.path)
    (image_other image asked.image_path)

-- ---- how functions are unwound

abbrev word : (text : List ℕ) → are_plain text ≡ true → PlainText
word text e = literal text e

register_text : (r : Register) → IsPlain (unwinding.register_name r)
unfolding are_plain
register_text Cfa = plain_by (codes ".cfa") refl
register_text ReturnAddress = plain_by (codes ".ra") refl
register_text (General n) =
    (joined
    (chosen (n == 0) (word (codes "$rax") refl) (chosen (n == 1) (word (codes "$rcx") refl)
    (chosen (n == 2) (word (codes "$rdx") refl) (chosen (n == 3) (word (codes "$rbx") refl)
    (chosen (n == 4) (word (codes "$rsp") refl) (chosen (n == 5) (word (codes "$rbp") refl)
    (chosen (n == 6) (word (codes "$rsi") refl) (chosen (n == 7) (word (codes "$rdi") refl)
    (word (codes "$r") refl)))))))))
    (chosen (ltb n 8) nothing (number 10 false n))).plain

abbrev register_part : Register → PlainText
register_part r = record { text = unwinding.register_name r; plain = register_text r }

added_plain : (n : ℤ) → IsPlain (unwinding.added_text n)
unfolding are_plain
added_plain (pos n) =
    (chosen (n == 0) nothing (joined (joined (literal (codes " ") refl) (number 10 false n))
    (literal (codes " +") refl))).plain
added_plain (negsuc n) =
    (joined (joined (literal (codes " ") refl) (number 10 false (suc n)))
    (literal (codes " -") refl)).plain

abbrev added_part : ℤ → PlainText
added_part n = record { text = unwinding.added_text n; plain = added_plain n }

plain_rule : (r : Rule) → IsPlain (unwinding.rule_text r)
unfolding are_plain
plain_rule r =
    (joined (joined (joined (literal (codes " ") refl) (register_part r.register))
    (literal (codes ": ") refl))
    (joined (joined (register_part r.expression.base) (added_part r.expression.offset))
    (chosen r.expression.is_read (literal (codes " ^") refl) nothing))).plain

abbrev rule_part : Rule → PlainText
rule_part r = record { text = unwinding.rule_text r; plain = plain_rule r }

change_other : (c : Change) → IsOther (unwinding.change_text c)
unfolding are_plain
change_other c =
    other_parts (joined (literal (codes "STACK CFI ") refl) (number 16 false c.address))
    (one_by_one rule_part c.rules) refl

function_other : (r : Records) → IsOther (unwinding.records_text r)
unfolding unwinding.records_text are_plain
function_other r =
    let first = joined (joined (joined (literal (codes "STACK CFI INIT ") refl)
    (number 16 false r.begin)) (literal (codes " ") refl)) (number 16 false r.size) in
    let rules = one_by_one rule_part r.initial in
    other_both (first.text ++ (rules.text ++ 10 ∷ [])) (flat_map unwinding.change_text r.changes)
    (other_parts first rules refl) (other_flat unwinding.change_text r.changes change_other)

read_if : (r : Result (List UnwoundFunction) ImageError) → IsOther (text_if_read r)
read_if (Ok functions) =
    other_flat (λ (f : UnwoundFunction). unwinding.records_text (records_of f)) functions
    (λ (f : UnwoundFunction). function_other (records_of f))
read_if (Err e) = other_none

unwinding_other : (image : Option Image) → IsOther (text_of_image image)
unfolding unwinding_text
unwinding_other None = other_none
unwinding_other (Some image) = read_if (functions_in image)

-- ---- a symbol file

lowered : (r : Result Loaded LoadingFault) (l : Loaded) → in_loading r ≡ Ok l → r ≡ Ok l
lowered (Ok k) l h = cc
lowered (Err e) l h = let bad : ⊥ = cc in absurd bad

record IsWhole (asked : Asked) (s : Streams) (f : SymbolFile) : Type 0 where
  loaded : Loaded
  is : loaded_with Any (shared s) ≡ Ok loaded
  first : IsOther f.first
  ended : IsEnded f.first
  records : f.records
      ≡ records_of_code loaded.tables.map.image (told_named asked.inlines 23 Any s)
  unwinding_is : IsOther f.unwinding

whole_file : (asked : Asked) (bytes : Option (List ℕ)) (s : Streams) (f : SymbolFile)
    → symbol_file asked bytes s ≡ Ok f → IsWhole asked s f
unfolding symbol_file
whole_file asked bytes s f h =
    let l = step (in_loading (loaded_with Any (shared s))) _ f h in
    let i = step (in_loading (identity_in s)) _ f l.2 in
    let image = step (image_if i.0 bytes) _ f i.2 in
    subst (IsWhole asked s) (same_file _ f image.2) (record {
      loaded = l.0;
      is = lowered (loaded_with Any (shared s)) l.0 l.1;
      first = first_other asked ((l.0).debug_information).machine i.0 image.0;
      ended = first_ended asked ((l.0).debug_information).machine i.0 image.0;
      records = refl;
      unwinding_is = unwinding_other image.0;
    })

ended_flat : {A : Type 0} (f : A → List ℕ) (xs : List A) → ((x : A) → IsEnded (f x))
    → IsEnded (flat_map f xs)
ended_flat f [] p = inl refl
ended_flat f (x ∷ xs) p = ended_both (f x) (flat_map f xs) (p x) (ended_flat f xs p)

inline_ended : (i : InlineRecord) → IsEnded (inline_text i)
inline_ended i =
    inr (ends_after (call_text i.level i.line i.file i.origin) (range_text i.address i.size)
    (ends_line (hexadecimal i.address ++ codes " " ++ hexadecimal i.size)))

line_ended : (p : LineRecord) → IsEnded (line_text p)
line_ended p =
    inr (ends_line (hexadecimal p.address ++ codes " " ++ hexadecimal p.size ++ codes " "
    ++ decimal p.line ++ codes " " ++ decimal p.file))

function_ended : (r : FunctionRecord) → IsEnded (function_text r)
function_ended r =
    ended_both (head_text r.address r.size r.name ++ flat_map inline_text r.inlines)
    (flat_map line_text r.lines)
    (ended_both (head_text r.address r.size r.name) (flat_map inline_text r.inlines)
    (inr (ends_line (codes "FUNC " ++ hexadecimal r.address ++ codes " " ++ hexadecimal r.size
    ++ codes " 0 " ++ r.name)))
    (ended_flat inline_text r.inlines inline_ended))
    (ended_flat line_text r.lines line_ended)

records_ended : (r : SymbolRecords) → IsEnded (records_text r)
unfolding functions_text
records_ended r =
    ended_both (numbers_text r) (functions_text r) (numbers_ended r)
    (ended_flat function_text r.functions function_ended)

text_ended : (f : SymbolFile) → IsEnded f.first → IsEnded (text_of f)
text_ended f e = ended_both f.first (records_text f.records) e (records_ended f.records)

named_ended : (text named : List ℕ) → IsEnded text → IsRenamed text named → IsEnded named
named_ended text named ended r =
    let x = r.lines in
    let none : r.rest ≡ [] = rest_none text (stored_lines x.lines) r.rest x.stored ended r.unbroken in
    let is : named ≡ named_lines x.lines
    = r.whole ∙ ap (λ (xs : List ℕ). r.front ++ xs) none ∙ append-nil r.front ∙ x.written in
    subst IsEnded (sym is)
    (ended_flat (λ (line : NamedLine). line.1 ++ 10 ∷ []) x.lines
    (λ (line : NamedLine). inr (ends_line line.1)))

-- ---- the laws

code_said : (sections : List ImageSectionHeader) (told : ℕ → Option Told) (r : SymbolRecords)
    (address : ℕ) → r ≡ records_of_code sections told → ReadsBack r
    → shown_by (numbers_text r ++ functions_text r) address ≡ shown_at sections told address
code_said sections told r address is back =
    ap (λ (x : SymbolRecords). shown_by (numbers_text x ++ functions_text x) address) is
    ∙ code_roads sections told (subst ReadsBack is back) address

-- the text without how functions are unwound
text_said : (asked : Asked) (s : Streams) (f : SymbolFile) (address : ℕ) → IsWhole asked s f
    → ReadsBack f.records
    → shown_by (text_of f) address ≡ frames_told asked.inlines s address
unfolding frames_told
text_said asked s f address w back =
    ap (λ (r : ReadRecords). lookup (records_read r) address)
    (drop_before f.first (records_text f.records) w.first)
    ∙ code_said w.loaded.tables.map.image (told_named asked.inlines 23 Any s) f.records address
    w.records back
    ∙ sym (ap (λ (r : Result Loaded LoadingFault). frames_by asked.inlines s r address) w.is)

without_unwinding : (text other : List ℕ) (address : ℕ) → IsEnded text → IsOther other
    → shown_by (text ++ other) address ≡ shown_by text address
without_unwinding text other address ended o =
    ap (λ (r : ReadRecords). lookup (records_read r) address) (drop_after text other ended o)

pub file_roads : (demangle : Bool) (asked : Asked) (bytes : Option (List ℕ)) (s : Streams)
    (f : SymbolFile) → HasFileRoads demangle asked bytes s f
file_roads false asked bytes s f is back named e address =
    let w = whole_file asked bytes s f is in
    ap (λ (t : List ℕ). shown_by (t ++ f.unwinding) address) e
    ∙ without_unwinding (text_of f) f.unwinding address (text_ended f w.ended) w.unwinding_is
    ∙ text_said asked s f address w back
file_roads true asked bytes s f is back named r address =
    let w = whole_file asked bytes s f is in
    let ended = named_ended (text_of f) named (text_ended f w.ended) r in
    subst (λ (xs : List Shown). ArePairs IsFrameNamed xs (shown_by (named ++ f.unwinding) address))
    (text_said asked s f address w back)
    (subst (λ (xs : List Shown). ArePairs IsFrameNamed (shown_by (text_of f) address) xs)
    (sym (without_unwinding named f.unwinding address ended w.unwinding_is))
    (renamed_reads (text_of f) named r address))

pub says : (reads demangle : Bool) (asked : Asked) (bytes : Option (List ℕ)) (s : Streams)
    (old new : Option (List ℕ)) (r : Result (Unit {0}) SymbolsFault)
    → WritesSymbols reads demangle (symbol_file asked bytes s) s old new r
    → OnOk r (WritesTold demangle asked.inlines s old new)
says reads demangle asked bytes s old new (Ok done) (f, is, w) = record {
  text = w.named ++ f.unwinding;
  appends = w.appends;
  says = file_roads demangle asked bytes s f is w.back w.named w.is;
}
says reads demangle asked bytes s old new (Err e) w = tt
