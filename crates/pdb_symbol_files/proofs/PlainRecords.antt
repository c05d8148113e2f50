-- Records of what is plain are plain.
use Rattle.pdb_symbol_files.specs.Records.{SymbolRecords}
use Rattle.std.proofs.Common.{◌≡◌, ◌∙◌, ap, refl}
use Rattle.std.proofs.Common.{ℕ, ◌+◌, ◌-◌, ◌<◌, ◌≤◌, ◌^◌, List, [], ◌∷◌, ◌++◌, Bool, true, false}
use Rattle.std.proofs.Common.{cond, arith, zero, suc, map, length, max}
use Rattle.std.specs.Prelude.{Option, None, Some, IfSome, slice_get, take, codes, ◌&&◌, ◌==◌, not}
use Rattle.std.specs.List.{AllByRecursion, flat_map, fold, list_any, prefix_len}
use Rattle.std.specs.Str.{bytes_eq}
use Rattle.pdb_symbol_files.specs.Lookup.{HasTwoRoads, lookup}
use Rattle.pdb_symbol_files.specs.PlainAnswers.{HasTextRoads, records_read}
use Rattle.pdb_symbol_files.specs.Reading.{Numbered, ReadRecords, ReadsBack, numbered_from}
use Rattle.pdb_symbol_files.specs.Reading.{read_text}
use Rattle.pdb_symbol_files.specs.RecordTexts.{functions_text, numbers_text}
use Rattle.pdb_symbol_files.specs.PlainAnswers.{ArePlainAnswers, IsPlainAnswer}
use Rattle.pdb_symbol_files.specs.PlainAnswers.{IsPlainCall, IsPlainTold, MakesPlain}
use Rattle.pdb_symbol_files.specs.Reading.{IsPlain, IsPlainFunction, IsPlainInline}
use Rattle.pdb_symbol_files.specs.Reading.{IsPlainLine}
use Rattle.pdb_symbol_files.specs.Records.{Numbers, call_levels, calls}
use Rattle.pdb_symbol_files.specs.Records.{files_in, function_record, inline_record, levels_from}
use Rattle.pdb_symbol_files.specs.Records.{levels_in, line_record, number_of, numbers_of}
use Rattle.pdb_symbol_files.specs.Records.{one_function, origins_in, places}
use Rattle.pdb_symbol_files.specs.Records.{symbol_records, used}
use Rattle.pdb_symbol_files.specs.Spans.{Path, SourcePlace, Span, path_at, path_to, place_of}
use Rattle.pdb_symbol_files.specs.Spans.{same_calls, same_known, same_place, span_if, spans_of}
use Rattle.pdb_symbol_files.specs.Stretches.{Stretch, members, size_of, stretches, with_first}
use Rattle.pdb_symbol_files.specs.Told.{Answer, Call, Told}

-- ---- lists

pub all_both : {A : Type 0} (P : A → Type 0) (xs ys : List A) → AllByRecursion P xs
    → AllByRecursion P ys → AllByRecursion P (xs ++ ys)
all_both P [] ys p q = q
all_both P (x ∷ xs) ys p q = (p.0, all_both P xs ys p.1 q)

all_map : {A B : Type 0} (P : A → Type 0) (Q : B → Type 0) (f : A → B) (xs : List A)
    → ((x : A) → P x → Q (f x)) → AllByRecursion P xs → AllByRecursion Q (map f xs)
all_map P Q f [] h p = tt
all_map P Q f (x ∷ xs) h p = (h x p.0, all_map P Q f xs h p.1)

all_flat : {A B : Type 0} (P : A → Type 0) (Q : B → Type 0) (f : A → List B) (xs : List A)
    → ((x : A) → P x → AllByRecursion Q (f x)) → AllByRecursion P xs
    → AllByRecursion Q (flat_map f xs)
all_flat P Q f [] h p = tt
all_flat P Q f (x ∷ xs) h p =
    all_both Q (f x) (flat_map f xs) (h x p.0) (all_flat P Q f xs h p.1)

all_weaken : {A : Type 0} (P Q : A → Type 0) (xs : List A) → ((x : A) → P x → Q x)
    → AllByRecursion P xs → AllByRecursion Q xs
all_weaken P Q [] h p = tt
all_weaken P Q (x ∷ xs) h p = (h x p.0, all_weaken P Q xs h p.1)

-- ---- stretches

-- a stretch of plain answers, not more than so many
abbrev IsPart : ℕ → Stretch Answer → Type 0
IsPart n s = AllByRecursion IsPlainAnswer (members s) × (size_of s ≤ n)

part_grows : (n : ℕ) (s : Stretch Answer) → IsPart n s → IsPart (suc n) s
part_grows n s p = let few : size_of s ≤ n = p.1 in (p.0, omega arith)

part_by : (a : Answer) (n : ℕ) (s : Stretch Answer) (rest : List (Stretch Answer)) (b : Bool)
    → IsPart (suc n) (record { first = a; more = members s })
    → IsPart (suc n) (record { first = a; more = [] }) → IsPart (suc n) s
    → AllByRecursion (IsPart (suc n)) rest
    → AllByRecursion (IsPart (suc n)) (cond b (record { first = a; more = members s } ∷ rest)
    (record { first = a; more = [] } ∷ s ∷ rest))
part_by a n s rest true joined alone same more = (joined, more)
part_by a n s rest false joined alone same more = (alone, (same, more))

first_part : (linked : Answer → Answer → Bool) (a : Answer) (n : ℕ) (rest : List (Stretch Answer))
    → IsPlainAnswer a → AllByRecursion (IsPart n) rest
    → AllByRecursion (IsPart (suc n)) (with_first linked a rest)
first_part linked a n [] p q = (((p, tt), omega arith), tt)
first_part linked a n (s ∷ rest) p q =
    let few : size_of s ≤ n = (q.0).1 in
    part_by a n s rest (linked a s.first) ((p, (q.0).0), omega arith) ((p, tt), omega arith)
    (part_grows n s q.0) (all_weaken (IsPart n) (IsPart (suc n)) rest (part_grows n) q.1)

parts : (linked : Answer → Answer → Bool) (answers : List Answer) → ArePlainAnswers answers
    → AllByRecursion (IsPart (length answers)) (stretches linked answers)
parts linked [] p = tt
parts linked (a ∷ answers) p =
    first_part linked a (length answers) (stretches linked answers) p.0 (parts linked answers p.1)

-- ---- spans

-- a span of plain answers, with a key that is plain
record IsPlainSpan (K : Type 0) (P : K → Type 0) (s : Span K) : Type 0 where
  start : s.start < 2 ^ 64
  size : s.end - s.start < 2 ^ 64
  key : P s.key

if_known : {K : Type 0} (P : K → Type 0) (start size : ℕ) (o : Option K) → start < 2 ^ 32
    → size < 2 ^ 64 → IfSome o P → AllByRecursion (IsPlainSpan K P) (span_if start size o)
if_known {K = K} P start size None a b p = tt
if_known {K = K} P start size (Some key) a b p =
    (record { start = omega arith; size = omega arith; key = p }, tt)

plain_spans : {K : Type 0} (P : K → Type 0) (same : K → K → Bool) (known : Told → Option K)
    (answers : List Answer) → ((t : Told) → IsPlainTold t → IfSome (known t) P)
    → ArePlainAnswers answers → length answers < 2 ^ 64
    → AllByRecursion (IsPlainSpan K P) (spans_of same known answers)
plain_spans {K = K} P same known answers h p few =
    all_flat (IsPart (length answers)) (IsPlainSpan K P)
    (λ (s : Stretch Answer). span_if (s.first).address (size_of s) (known (s.first).told))
    (stretches (same_known same known) answers)
    (λ (s : Stretch Answer) (q : IsPart (length answers) s).
    let size : size_of s ≤ length answers = q.1 in
    if_known P (s.first).address (size_of s) (known (s.first).told) ((q.0).0).0 (omega arith)
    (h (s.first).told ((q.0).0).1))
    (parts (same_known same known) answers p)

-- ---- places

abbrev IsPlainPlace : SourcePlace → Type 0
IsPlainPlace k = IsPlain k.file × (k.line < 2 ^ 64)

place_if : (b : Bool) (k : SourcePlace) → IsPlainPlace k
    → IfSome (cond b None (Some k)) IsPlainPlace
place_if true k p = tt
place_if false k p = p

plain_place : (t : Told) → IsPlainTold t → IfSome (place_of t) IsPlainPlace
plain_place t p =
    place_if (t.line == 0 && bytes_eq t.file (codes "??"))
    (record { file = t.file; line = t.line }) (p.file, p.line)

-- ---- paths

abbrev IsPlainPath : Path → Type 0
IsPlainPath k = IsPlainCall k.call

plain_at : (level : ℕ) (cs : List Call) → AllByRecursion IsPlainCall cs
    → IfSome (slice_get cs level) IsPlainCall
plain_at level [] p = tt
plain_at zero (c ∷ cs) p = p.0
plain_at (suc level) (c ∷ cs) p = plain_at level cs p.1

path_if : (outer : List Call) (o : Option Call) → IfSome o IsPlainCall
    → IfSome (path_to outer o) IsPlainPath
path_if outer None p = tt
path_if outer (Some c) p = p

plain_path : (level : ℕ) (t : Told) → IsPlainTold t → IfSome (path_at level t) IsPlainPath
plain_path level t p =
    path_if (take level t.calls) (slice_get t.calls level) (plain_at level t.calls p.calls)

-- ---- levels

most : (a b m : ℕ) → a < m → b < m → max a b < m
most a b m p q = omega arith

few_levels : (m : ℕ) (answers : List Answer) → 0 < m → ((t : Told) → IsPlainTold t → length t.calls < m)
    → ArePlainAnswers answers → levels_in answers < m
few_levels m [] some h p = some
few_levels m (a ∷ answers) some h p =
    most (length (a.told).calls) (levels_in answers) m (h a.told (p.0).1)
    (few_levels m answers some h p.1)

zero_plus : (n m : ℕ) → n < m → 0 + n < m
zero_plus n m lt = omega arith

below : (m level count : ℕ) → level + count < m
    → AllByRecursion (λ (l : ℕ). l < m) (levels_from level count)
below m level zero lt = tt
below m level (suc count) lt = (omega arith, below m (suc level) count (omega arith))

-- ---- numbers

kept_by : (b : Bool) (texts : List (List ℕ)) (t : List ℕ) → AllByRecursion IsPlain texts
    → IsPlain t → AllByRecursion IsPlain (cond b texts (texts ++ t ∷ []))
kept_by true texts t p q = p
kept_by false texts t p q = all_both IsPlain texts (t ∷ []) p (q, tt)

kept : (texts : List (List ℕ)) (t : List ℕ) → AllByRecursion IsPlain texts → IsPlain t
    → AllByRecursion IsPlain (used texts t)
kept texts t p q = kept_by (list_any (bytes_eq t) texts) texts t p q

all_kept : (texts before : List (List ℕ)) → AllByRecursion IsPlain before
    → AllByRecursion IsPlain texts → AllByRecursion IsPlain (fold used before texts)
all_kept [] before p q = p
all_kept (t ∷ texts) before p q = all_kept texts (used before t) (kept before t p q.0) q.1

place_by : (b : Bool) (n m : ℕ) → n ≤ m → cond b (1 + n) 0 ≤ suc m
place_by true n m le = omega arith
place_by false n m le = omega arith

within : (p : List ℕ → Bool) (texts : List (List ℕ)) → prefix_len p texts ≤ length texts
within p [] = omega arith
within p (t ∷ texts) = place_by (p t) (prefix_len p texts) (length texts) (within p texts)

numbered : (texts : List (List ℕ)) (t : List ℕ) → length texts < 2 ^ 64
    → number_of texts t < 2 ^ 64
numbered texts t few =
    let le : number_of texts t ≤ length texts = within (λ (x : List ℕ). not (bytes_eq t x)) texts in
    omega arith

-- ---- functions

plain_members : (n : ℕ) (f : Stretch Answer) → IsPart n f → n < 2 ^ 64
    → length (members f) < 2 ^ 64
plain_members n f p few = let size : size_of f ≤ n = p.1 in omega arith

plain_calls : (n : ℕ) (f : Stretch Answer) (level : ℕ) → IsPart n f → n < 2 ^ 64
    → AllByRecursion (IsPlainSpan Path IsPlainPath) (calls f level)
plain_calls n f level p few =
    plain_spans IsPlainPath same_calls (path_at level) (members f) (plain_path level) p.0
    (plain_members n f p few)

plain_places : (n : ℕ) (f : Stretch Answer) → IsPart n f → n < 2 ^ 64
    → AllByRecursion (IsPlainSpan SourcePlace IsPlainPlace) (places f)
plain_places n f p few =
    plain_spans IsPlainPlace same_place place_of (members f) plain_place p.0
    (plain_members n f p few)

plain_levels : (n : ℕ) (f : Stretch Answer) → IsPart n f
    → AllByRecursion (λ (l : ℕ). l < 2 ^ 64) (call_levels f)
plain_levels n f p =
    below (2 ^ 64) 0 (levels_in (members f)) (zero_plus (levels_in (members f)) (2 ^ 64)
    (few_levels (2 ^ 64) (members f) (omega arith) (λ (t : Told) (q : IsPlainTold t). q.few) p.0))

plain_files : (n : ℕ) (f : Stretch Answer) → IsPart n f → n < 2 ^ 64
    → AllByRecursion IsPlain (files_in f)
plain_files n f p few =
    all_both IsPlain _ _
    (all_flat (λ (l : ℕ). l < 2 ^ 64) IsPlain
    (λ (level : ℕ). map (λ (s : Span Path). ((s.key).call).file) (calls f level)) (call_levels f)
    (λ (level : ℕ) (lt : level < 2 ^ 64).
    all_map (IsPlainSpan Path IsPlainPath) IsPlain (λ (s : Span Path). ((s.key).call).file) (calls f level)
    (λ (s : Span Path) (q : IsPlainSpan Path IsPlainPath s). q.key.0) (plain_calls n f level p few))
    (plain_levels n f p))
    (all_map (IsPlainSpan SourcePlace IsPlainPlace) IsPlain (λ (s : Span SourcePlace). (s.key).file) (places f)
    (λ (s : Span SourcePlace) (q : IsPlainSpan SourcePlace IsPlainPlace s). q.key.0) (plain_places n f p few))

plain_origins : (n : ℕ) (f : Stretch Answer) → IsPart n f → n < 2 ^ 64
    → AllByRecursion IsPlain (origins_in f)
plain_origins n f p few =
    all_flat (λ (l : ℕ). l < 2 ^ 64) IsPlain
    (λ (level : ℕ). map (λ (s : Span Path). ((s.key).call).callee) (calls f level)) (call_levels f)
    (λ (level : ℕ) (lt : level < 2 ^ 64).
    all_map (IsPlainSpan Path IsPlainPath) IsPlain (λ (s : Span Path). ((s.key).call).callee)
    (calls f level)
    (λ (s : Span Path) (q : IsPlainSpan Path IsPlainPath s). q.key.2) (plain_calls n f level p few))
    (plain_levels n f p)

plain_inline : (ns : Numbers) (level : ℕ) (s : Span Path) → length ns.files < 2 ^ 64
    → length ns.origins < 2 ^ 64 → level < 2 ^ 64 → IsPlainSpan Path IsPlainPath s
    → IsPlainInline (inline_record ns level s)
plain_inline ns level s files origins lt p = (
  lt,
  p.key.1,
  numbered ns.files ((s.key).call).file files,
  numbered ns.origins ((s.key).call).callee origins,
  p.start,
  p.size,
)

plain_line : (files : List (List ℕ)) (s : Span SourcePlace) → length files < 2 ^ 64
    → IsPlainSpan SourcePlace IsPlainPlace s → IsPlainLine (line_record files s)
plain_line files s few p = (p.start, p.size, p.key.1, numbered files (s.key).file few)

plain_function : (ns : Numbers) (n : ℕ) (f : Stretch Answer) → length ns.files < 2 ^ 64
    → length ns.origins < 2 ^ 64 → IsPart n f → n < 2 ^ 64
    → IsPlainFunction (function_record ns f)
plain_function ns n f files origins p few =
    let address : (f.first).address < 2 ^ 32 = ((p.0).0).0 in
    let told : IsPlainTold (f.first).told = ((p.0).0).1 in
    let size : size_of f ≤ n = p.1 in record {
      address = omega arith;
      size = omega arith;
      name = told.function;
      inlines = all_flat (λ (l : ℕ). l < 2 ^ 64) IsPlainInline
          (λ (level : ℕ). map (inline_record ns level) (calls f level)) (call_levels f)
          (λ (level : ℕ) (lt : level < 2 ^ 64).
          all_map (IsPlainSpan Path IsPlainPath) IsPlainInline (inline_record ns level) (calls f level)
          (λ (s : Span Path) (q : IsPlainSpan Path IsPlainPath s).
          plain_inline ns level s files origins lt q)
          (plain_calls n f level p few))
          (plain_levels n f p);
      lines = all_map (IsPlainSpan SourcePlace IsPlainPlace) IsPlainLine (line_record ns.files) (places f)
          (λ (s : Span SourcePlace) (q : IsPlainSpan SourcePlace IsPlainPlace s).
          plain_line ns.files s files q)
          (plain_places n f p few);
    }

-- ---- a module

pub plain_records : (answers : List Answer) → MakesPlain answers
unfolding symbol_records
plain_records answers readable =
    let p = readable.plain in
    let few = readable.few in
    let countable = readable.countable in
    let n = length answers in
    let functions = stretches one_function answers in
    let ns = numbers_of functions in
    let each = parts one_function answers p in record {
      files = all_kept (flat_map files_in functions) [] tt
          (all_flat (IsPart n) IsPlain files_in functions
          (λ (f : Stretch Answer) (q : IsPart n f). plain_files n f q few) each);
      origins = all_kept (flat_map origins_in functions) [] tt
          (all_flat (IsPart n) IsPlain origins_in functions
          (λ (f : Stretch Answer) (q : IsPart n f). plain_origins n f q few) each);
      few_files = countable.0;
      few_origins = countable.1;
      functions = all_map (IsPart n) IsPlainFunction (function_record ns) functions
          (λ (f : Stretch Answer) (q : IsPart n f).
          plain_function ns n f countable.0 countable.1 q few) each;
    }

-- ---- by the text

texts_of : (n : ℕ) (texts : List (List ℕ))
    → map (λ (f : Numbered). f.text) (numbered_from n texts) ≡ texts
texts_of n [] = refl
texts_of n (t ∷ texts) = ap (λ (xs : List (List ℕ)). t ∷ xs) (texts_of (n + 1) texts)

same_read : (r : SymbolRecords) → ReadsBack r
    → records_read (read_text (numbers_text r ++ functions_text r)) ≡ r
same_read r e =
    let made : List (List ℕ) → List (List ℕ) → SymbolRecords
    = λ (files origins : List (List ℕ)).
    record { numbers = record { files = files; origins = origins }; functions = r.functions } in
    ap (λ (x : ReadRecords). records_read x) e
    ∙ ap (λ (files : List (List ℕ)). made files
    (map (λ (f : Numbered). f.text) (numbered_from 0 (r.numbers).origins)))
    (texts_of 0 (r.numbers).files)
    ∙ ap (λ (origins : List (List ℕ)). made (r.numbers).files origins)
    (texts_of 0 (r.numbers).origins)

pub text_roads : (answers : List Answer) → HasTwoRoads answers → ReadsBack (symbol_records answers)
    → HasTextRoads answers
text_roads answers roads back address =
    ap (λ (r : SymbolRecords). lookup r address) (same_read (symbol_records answers) back)
    ∙ roads address
