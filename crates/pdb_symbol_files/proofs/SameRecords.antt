-- The records of pieces are those of their addresses.
use Rattle.std.proofs.Common.{◌≡◌, ℕ, ◌+◌, ◌-◌, ◌<◌, List, [], ◌∷◌, ◌++◌, Bool, true, false, cond}
use Rattle.std.proofs.Common.{eqb, length, refl, sym, ◌∙◌, ap, arith, zero, suc, map, not, max}
use Rattle.std.specs.Prelude.{Option, None, Some, ◌&&◌, ◌||◌, nat_eq}
use Rattle.std.specs.List.{flat_map, list_any}
use Rattle.std.specs.Option.{option_eq}
use Rattle.std.specs.Str.{bytes_eq}
use Rattle.std.proofs.lemmas.Bool.{and_from, eq-eqb}
use Rattle.std.proofs.lemmas.List.{append-nil}
use Rattle.std.proofs.lemmas.Slice.Eq.{bytes_eq-Decides}
use Rattle.pdb_symbol_files.specs.Told.{Answer, Call, Told, Piece, end_of, answers_from}
use Rattle.pdb_symbol_files.specs.Told.{answers_in, same_call, same_path, same_function}
use Rattle.pdb_symbol_files.specs.Stretches.{Stretch, size_of, members}
use Rattle.pdb_symbol_files.specs.Spans.{Span, SourcePlace, Path, same_place, same_calls, place_of}
use Rattle.pdb_symbol_files.specs.Spans.{path_at, spans_of}
use Rattle.pdb_symbol_files.specs.Records.{used, distinct_after, number_of, Numbers, LineRecord}
use Rattle.pdb_symbol_files.specs.Records.{line_record, InlineRecord, inline_record, FunctionRecord}
use Rattle.pdb_symbol_files.specs.Records.{levels_in, levels_from}
use Rattle.pdb_symbol_files.specs.Records.{function_record, files_in, origins_in}
use Rattle.pdb_symbol_files.specs.PieceRecords.{level_spans, line_spans}
use Rattle.pdb_symbol_files.specs.PieceRecords.{line_records, files_after, with_call}
use Rattle.pdb_symbol_files.specs.PieceRecords.{inline_records, numbers_after, level_records}
use Rattle.pdb_symbol_files.specs.PieceRecords.{numbers_after_levels, depth_of, last_of, end_after}
use Rattle.pdb_symbol_files.specs.PieceRecords.{numbers_after_inlines, group_record}
use Rattle.pdb_symbol_files.specs.PieceRecords.{numbers_after_function}
use Rattle.pdb_symbol_files.proofs.Finding.{IsChain, place_equal, calls_equal}
use Rattle.pdb_symbol_files.proofs.Numbered.{Begins, begins_on, begins_files}
use Rattle.pdb_symbol_files.proofs.Levels.{Extends, extends_on, extends_after}
use Rattle.pdb_symbol_files.proofs.Levels.{extends_levels}
use Rattle.pdb_symbol_files.proofs.SameSpans.{same_spans}

-- ---- what is equal is the same

pub text_same : (t : List ℕ) → bytes_eq t t ≡ true
text_same t = (bytes_eq-Decides t t).1 refl

place_same : (k : SourcePlace) → same_place k k ≡ true
place_same k =
    and_from (eqb k.line k.line) (bytes_eq k.file k.file) (eq-eqb k.line k.line refl) (text_same k.file)

call_same : (c : Call) → same_call c c ≡ true
call_same c =
    and_from (eqb c.line c.line && bytes_eq c.file c.file) (bytes_eq c.callee c.callee)
    (and_from (eqb c.line c.line) (bytes_eq c.file c.file) (eq-eqb c.line c.line refl)
    (text_same c.file))
    (text_same c.callee)

path_same : (a : List Call) → same_path a a ≡ true
path_same [] = refl
path_same (c ∷ a) = and_from (same_call c c) (same_path a a) (call_same c) (path_same a)

calls_same : (p : Path) → same_calls p p ≡ true
calls_same p =
    and_from (same_call p.call p.call) (same_path p.outer p.outer) (call_same p.call)
    (path_same p.outer)

start_same : (s : Option ℕ) → option_eq nat_eq s s ≡ true
start_same None = refl
start_same (Some n) = eq-eqb n n refl

pub function_same : (t : Told) → same_function t t ≡ true
function_same t =
    and_from (option_eq nat_eq t.start t.start) (bytes_eq t.function t.function)
    (start_same t.start) (text_same t.function)

-- ---- the spans of a function's pieces

lines_same : (e : ℕ) (pieces : List Piece) → IsChain e pieces
    → line_spans pieces ≡ spans_of same_place place_of (answers_in pieces)
lines_same e pieces c = same_spans same_place place_equal place_same place_of e pieces c

levels_same : (level e : ℕ) (pieces : List Piece) → IsChain e pieces
    → level_spans level pieces ≡ spans_of same_calls (path_at level) (answers_in pieces)
levels_same level e pieces c =
    same_spans same_calls calls_equal calls_same (path_at level) e pieces c

-- ---- numbers that are given as they are used

one_more : (n : ℕ) → 1 + n ≡ suc n
one_more n = omega arith

-- a text's number stays
number_there : (texts more : List (List ℕ)) (t : List ℕ) → list_any (bytes_eq t) texts ≡ true
    → number_of (texts ++ more) t ≡ number_of texts t
number_there [] more t e = cc
number_there (u ∷ texts) more t e =
    let by : (b : Bool) → (b || list_any (bytes_eq t) texts) ≡ true
    → cond (not b) (1 + number_of (texts ++ more) t) 0 ≡ cond (not b) (1 + number_of texts t) 0
    = λ (b : Bool). elim b as (λ (x : Bool). (x || list_any (bytes_eq t) texts) ≡ true
    → cond (not x) (1 + number_of (texts ++ more) t) 0 ≡ cond (not x) (1 + number_of texts t) 0) [
      | true ↦ λ (g : true ≡ true). refl
      | false ↦ λ (g : list_any (bytes_eq t) texts ≡ true).
          ap (λ (n : ℕ). 1 + n) (number_there texts more t g)
    ] in
    by (bytes_eq t u) e

number_put : (texts more : List (List ℕ)) (t : List ℕ) → list_any (bytes_eq t) texts ≡ false
    → number_of ((texts ++ t ∷ []) ++ more) t ≡ number_of texts t
number_put [] more t e =
    ap (λ (b : Bool). cond (not b) (1 + number_of more t) 0) (text_same t)
number_put (u ∷ texts) more t e =
    let by : (b : Bool) → (b || list_any (bytes_eq t) texts) ≡ false
    → cond (not b) (1 + number_of ((texts ++ t ∷ []) ++ more) t) 0
    ≡ cond (not b) (1 + number_of texts t) 0
    = λ (b : Bool). elim b as (λ (x : Bool). (x || list_any (bytes_eq t) texts) ≡ false
    → cond (not x) (1 + number_of ((texts ++ t ∷ []) ++ more) t) 0
    ≡ cond (not x) (1 + number_of texts t) 0) [
      | true ↦ λ (g : true ≡ false). cc
      | false ↦ λ (g : list_any (bytes_eq t) texts ≡ false).
          ap (λ (n : ℕ). 1 + n) (number_put texts more t g)
    ] in
    by (bytes_eq t u) e

number_used : (texts more : List (List ℕ)) (t : List ℕ)
    → number_of (used texts t ++ more) t ≡ number_of texts t
number_used texts more t =
    let by : (b : Bool) → list_any (bytes_eq t) texts ≡ b
    → number_of (cond b texts (texts ++ t ∷ []) ++ more) t ≡ number_of texts t
    = λ (b : Bool). elim b as (λ (x : Bool). list_any (bytes_eq t) texts ≡ x
    → number_of (cond x texts (texts ++ t ∷ []) ++ more) t ≡ number_of texts t) [
      | true ↦ λ (h : list_any (bytes_eq t) texts ≡ true). number_there texts more t h
      | false ↦ λ (h : list_any (bytes_eq t) texts ≡ false). number_put texts more t h
    ] in
    by (list_any (bytes_eq t) texts) refl

pub number_stays : (all texts : List (List ℕ)) (t : List ℕ) → Begins all (used texts t)
    → number_of texts t ≡ number_of all t
number_stays all texts t b =
    sym (number_used texts b.more t)
    ∙ sym (ap (λ (xs : List (List ℕ)). number_of xs t) b.is)

line_made : ℕ → ℕ → ℕ → ℕ → LineRecord
line_made address size line file = record {
  address = address;
  size = size;
  line = line;
  file = file;
}

lines_numbered : (all files : List (List ℕ)) (rest : List (Span SourcePlace))
    → Begins all (files_after files rest) → line_records files rest ≡ map (line_record all) rest
unfolding line_made
lines_numbered all files [] b = refl
lines_numbered all files (s ∷ rest) b =
    let next = used files (s.key).file in
    let front = begins_on all (files_after next rest) next b (begins_files next rest) in
    ap (λ (n : ℕ). line_made s.start (s.end - s.start) (s.key).line n ∷ line_records next rest)
    (number_stays all files (s.key).file front)
    ∙ ap (λ (xs : List LineRecord). line_record all s ∷ xs) (lines_numbered all next rest b)

inline_made : ℕ → ℕ → ℕ → ℕ → ℕ → ℕ → InlineRecord
inline_made level line address size file origin = record {
  level = level;
  line = line;
  file = file;
  origin = origin;
  address = address;
  size = size;
}

level_numbered : (all n : Numbers) (level : ℕ) (rest : List (Span Path))
    → Extends all (numbers_after n rest)
    → inline_records n level rest ≡ map (inline_record all level) rest
unfolding inline_made
level_numbered all n level [] x = refl
level_numbered all n level (s ∷ rest) x =
    let call = (s.key).call in
    let next = with_call n call in
    let front = extends_on all (numbers_after next rest) next x (extends_after next rest) in
    ap (λ (i : ℕ). inline_made level call.line s.start (s.end - s.start) i
    (number_of n.origins call.callee) ∷ inline_records next level rest)
    (number_stays all.files n.files call.file front.files)
    ∙ ap (λ (i : ℕ). inline_made level call.line s.start (s.end - s.start)
    (number_of all.files call.file) i ∷ inline_records next level rest)
    (number_stays all.origins n.origins call.callee front.origins)
    ∙ ap (λ (xs : List InlineRecord). inline_record all level s ∷ xs)
    (level_numbered all next level rest x)

levels_numbered : (all n : Numbers) (e level count : ℕ) (pieces : List Piece) → IsChain e pieces
    → Extends all (numbers_after_levels n level count pieces)
    → level_records n level count pieces
    ≡ flat_map (λ l. map (inline_record all l) (spans_of same_calls (path_at l) (answers_in pieces)))
    (levels_from level count)
levels_numbered all n e level zero pieces c x = refl
levels_numbered all n e level (suc count) pieces c x =
    let here = level_spans level pieces in
    let next = numbers_after n here in
    let rest = level_records next (suc level) count pieces in
    ap (λ (xs : List InlineRecord). xs ++ rest)
    (level_numbered all n level here
    (extends_on all (numbers_after_levels next (suc level) count pieces) next x
    (extends_levels next (suc level) count pieces)))
    ∙ ap (λ (xs : List (Span Path)). map (inline_record all level) xs ++ rest)
    (levels_same level e pieces c)
    ∙ ap (λ (xs : List InlineRecord). map (inline_record all level)
    (spans_of same_calls (path_at level) (answers_in pieces)) ++ xs)
    (levels_numbered all next e (suc level) count pieces c x)

-- ---- how many levels there are

levels_block : (t : Told) (answers : List Answer) (a n : ℕ) → 0 < n
    → levels_in (answers_from a n t ++ answers) ≡ max (length t.calls) (levels_in answers)
levels_block t answers a zero some = absurd (omega arith)
levels_block t answers a (suc zero) some = refl
levels_block t answers a (suc (suc n)) some =
    let more : levels_in (answers_from (suc a) (suc n) t ++ answers)
    ≡ max (length t.calls) (levels_in answers)
    = levels_block t answers (suc a) (suc n) (omega arith) in
    omega arith

pub levels_same_depth : (e : ℕ) (pieces : List Piece) → IsChain e pieces
    → levels_in (answers_in pieces) ≡ depth_of pieces
levels_same_depth e [] c = refl
levels_same_depth e (p ∷ pieces) c =
    levels_block p.told (answers_in pieces) p.address p.size c.1
    ∙ ap (λ (n : ℕ). max (length (p.told).calls) n) (levels_same_depth (end_of p) pieces c.2)

-- ---- a function's pieces

-- all but the first
abbrev pub others : List Answer → List Answer
others [] = []
others (a ∷ answers) = answers

abbrev pub first_of : Piece → Answer
first_of p = record { address = p.address; told = p.told }

-- the addresses of a piece and those after it, as a stretch
abbrev pub group_stretch : Piece → List Piece → Stretch Answer
group_stretch p pieces = record { first = first_of p; more = others (answers_in (p ∷ pieces)) }

block_first : (t : Told) (answers : List Answer) (a n : ℕ) → 0 < n
    → record { address = a; told = t } ∷ others (answers_from a n t ++ answers)
    ≡ answers_from a n t ++ answers
block_first t answers a zero some = absurd (omega arith)
block_first t answers a (suc n) some = refl

pub group_members : (p : Piece) (pieces : List Piece) → 0 < p.size
    → members (group_stretch p pieces) ≡ answers_in (p ∷ pieces)
group_members p pieces some = block_first p.told (answers_in pieces) p.address p.size some

block_length : (t : Told) (a n : ℕ) (answers : List Answer)
    → length (answers_from a n t ++ answers) ≡ n + length answers
block_length t a zero answers = omega arith
block_length t a (suc n) answers =
    let more : length (answers_from (suc a) n t ++ answers) ≡ n + length answers
    = block_length t (suc a) n answers in
    omega arith

-- pieces side by side have as many addresses as lie between their ends
pub chain_length : (e : ℕ) (p : Piece) (pieces : List Piece) → IsChain e (p ∷ pieces)
    → p.address + length (answers_in (p ∷ pieces)) ≡ end_of (last_of p pieces)
chain_length e p [] c =
    let n : length (answers_in (p ∷ [])) ≡ p.size + 0
    = block_length p.told p.address p.size [] in
    omega arith
chain_length e p (q ∷ pieces) c =
    let next : q.address ≡ end_of p = (c.2).0 in
    let more : q.address + length (answers_in (q ∷ pieces)) ≡ end_of (last_of q pieces)
    = chain_length (end_of p) q pieces c.2 in
    let n : length (answers_in (p ∷ q ∷ pieces)) ≡ p.size + length (answers_in (q ∷ pieces))
    = block_length p.told p.address p.size (answers_in (q ∷ pieces)) in
    omega arith

size_by : (a n e : ℕ) → a + n ≡ e → e - a ≡ n
size_by a n e h = omega arith

function_made : ℕ → ℕ → List ℕ → List InlineRecord → List LineRecord → FunctionRecord
function_made address size name inlines lines = record {
  address = address;
  size = size;
  name = name;
  inlines = inlines;
  lines = lines;
}

abbrev pub inlines_by : Numbers → List Answer → ℕ → List InlineRecord
inlines_by all answers count =
    flat_map (λ l. map (inline_record all l) (spans_of same_calls (path_at l) answers))
    (levels_from 0 count)

abbrev pub lines_by : Numbers → List Answer → List LineRecord
lines_by all answers = map (line_record all.files) (spans_of same_place place_of answers)

pub group_same : (all n : Numbers) (p : Piece) (pieces : List Piece)
    → IsChain p.address (p ∷ pieces)
    → Extends all (numbers_after_function n (p ∷ pieces))
    → group_record n p pieces ≡ function_record all (group_stretch p pieces)
unfolding function_made
group_same all n p pieces c x =
    let group = p ∷ pieces in
    let answers = answers_in group in
    let stretch = group_stretch p pieces in
    let name = (p.told).function in
    let after = numbers_after_inlines n group in
    let before : Extends all after = record {
      files = begins_on all.files (files_after after.files (line_spans group)) after.files
          x.files (begins_files after.files (line_spans group));
      origins = x.origins;
    } in
    let same : members stretch ≡ answers = group_members p pieces c.1 in
    let size : end_after p pieces - p.address ≡ size_of stretch
    = size_by p.address (length answers) (end_after p pieces) (chain_length p.address p pieces c)
    ∙ sym (ap (λ (xs : List Answer). length xs) same) in
    let inlines : level_records n 0 (depth_of group) group
    ≡ inlines_by all (members stretch) (levels_in (members stretch))
    = levels_numbered all n p.address 0 (depth_of group) group c before
    ∙ sym (ap (λ (k : ℕ). inlines_by all answers k) (levels_same_depth p.address group c))
    ∙ sym (ap (λ (xs : List Answer). inlines_by all xs (levels_in xs)) same) in
    let lines : line_records after.files (line_spans group) ≡ lines_by all (members stretch)
    = lines_numbered all.files after.files (line_spans group) x.files
    ∙ ap (λ (xs : List (Span SourcePlace)). map (line_record all.files) xs)
    (lines_same p.address group c)
    ∙ sym (ap (λ (xs : List Answer). lines_by all xs) same) in
    ap (λ (k : ℕ). function_made p.address k name (level_records n 0 (depth_of group) group)
    (line_records after.files (line_spans group))) size
    ∙ ap (λ (xs : List InlineRecord). function_made p.address (size_of stretch) name xs
    (line_records after.files (line_spans group))) inlines
    ∙ ap (λ (xs : List LineRecord). function_made p.address (size_of stretch) name
    (inlines_by all (members stretch) (levels_in (members stretch))) xs) lines

-- ---- the texts that are used

-- texts one after the other
pub distinct_append : (before xs ys : List (List ℕ))
    → distinct_after before (xs ++ ys) ≡ distinct_after (distinct_after before xs) ys
distinct_append before [] ys = refl
distinct_append before (t ∷ xs) ys = distinct_append (used before t) xs ys

line_files : (files : List (List ℕ)) (rest : List (Span SourcePlace))
    → files_after files rest ≡ distinct_after files (map (λ s. (s.key).file) rest)
line_files files [] = refl
line_files files (s ∷ rest) = line_files (used files (s.key).file) rest

abbrev pub after_uses : Numbers → List (List ℕ) → List (List ℕ) → Numbers
after_uses n files origins = record {
  files = distinct_after n.files files;
  origins = distinct_after n.origins origins;
}

abbrev pub call_file : Span Path → List ℕ
call_file s = ((s.key).call).file

abbrev pub call_origin : Span Path → List ℕ
call_origin s = ((s.key).call).callee

call_numbers : (n : Numbers) (rest : List (Span Path))
    → numbers_after n rest ≡ after_uses n (map call_file rest) (map call_origin rest)
call_numbers n [] = refl
call_numbers n (s ∷ rest) = call_numbers (with_call n (s.key).call) rest

abbrev pub numbers_made : List (List ℕ) → List (List ℕ) → Numbers
numbers_made files origins = record { files = files; origins = origins }

pub after_append : (n : Numbers) (xs ys us vs : List (List ℕ))
    → after_uses (after_uses n xs us) ys vs ≡ after_uses n (xs ++ ys) (us ++ vs)
after_append n xs ys us vs =
    ap (λ (zs : List (List ℕ)). numbers_made zs
    (distinct_after (distinct_after n.origins us) vs)) (sym (distinct_append n.files xs ys))
    ∙ ap (λ (zs : List (List ℕ)). numbers_made (distinct_after n.files (xs ++ ys)) zs)
    (sym (distinct_append n.origins us vs))

abbrev pub level_uses : (Span Path → List ℕ) → List Answer → ℕ → List (List ℕ)
level_uses text answers level = map text (spans_of same_calls (path_at level) answers)

levels_uses : (n : Numbers) (e level count : ℕ) (pieces : List Piece) → IsChain e pieces
    → numbers_after_levels n level count pieces
    ≡ after_uses n (flat_map (level_uses call_file (answers_in pieces)) (levels_from level count))
    (flat_map (level_uses call_origin (answers_in pieces)) (levels_from level count))
levels_uses n e level zero pieces c = refl
levels_uses n e level (suc count) pieces c =
    let answers = answers_in pieces in
    let rest = levels_from (suc level) count in
    let next = numbers_after n (level_spans level pieces) in
    let here : next ≡ after_uses n (level_uses call_file answers level)
    (level_uses call_origin answers level)
    = call_numbers n (level_spans level pieces)
    ∙ ap (λ (xs : List (Span Path)). after_uses n (map call_file xs) (map call_origin xs))
    (levels_same level e pieces c) in
    levels_uses next e (suc level) count pieces c
    ∙ ap (λ (m : Numbers). after_uses m (flat_map (level_uses call_file answers) rest)
    (flat_map (level_uses call_origin answers) rest)) here
    ∙ after_append n (level_uses call_file answers level)
    (flat_map (level_uses call_file answers) rest) (level_uses call_origin answers level)
    (flat_map (level_uses call_origin answers) rest)

abbrev pub files_by : List Answer → ℕ → List (List ℕ)
files_by answers count = flat_map (level_uses call_file answers) (levels_from 0 count)
    ++ map (λ s. (s.key).file) (spans_of same_place place_of answers)

abbrev pub origins_by : List Answer → ℕ → List (List ℕ)
origins_by answers count = flat_map (level_uses call_origin answers) (levels_from 0 count)

pub function_uses : (n : Numbers) (p : Piece) (pieces : List Piece) → IsChain p.address (p ∷ pieces)
    → numbers_after_function n (p ∷ pieces)
    ≡ after_uses n (files_in (group_stretch p pieces)) (origins_in (group_stretch p pieces))
function_uses n p pieces c =
    let group = p ∷ pieces in
    let answers = answers_in group in
    let after = numbers_after_inlines n group in
    let deep = depth_of group in
    let calls : after ≡ after_uses n (flat_map (level_uses call_file answers) (levels_from 0 deep))
    (flat_map (level_uses call_origin answers) (levels_from 0 deep))
    = levels_uses n p.address 0 deep group c in
    let same : members (group_stretch p pieces) ≡ answers = group_members p pieces c.1 in
    let placed = map (λ (s : Span SourcePlace). (s.key).file)
    (spans_of same_place place_of answers) in
    ap (λ (xs : List (List ℕ)). numbers_made xs after.origins)
    (line_files after.files (line_spans group))
    ∙ ap (λ (xs : List (Span SourcePlace)). numbers_made (distinct_after after.files
    (map (λ (s : Span SourcePlace). (s.key).file) xs)) after.origins)
    (lines_same p.address group c)
    ∙ ap (λ (m : Numbers). after_uses m placed []) calls
    ∙ after_append n (flat_map (level_uses call_file answers) (levels_from 0 deep)) placed
    (flat_map (level_uses call_origin answers) (levels_from 0 deep)) []
    ∙ ap (λ (xs : List (List ℕ)). after_uses n (files_by answers deep) xs)
    (append-nil (origins_by answers deep))
    ∙ sym (ap (λ (k : ℕ). after_uses n (files_by answers k) (origins_by answers k))
    (levels_same_depth p.address group c))
    ∙ sym (ap (λ (xs : List Answer). after_uses n (files_by xs (levels_in xs))
    (origins_by xs (levels_in xs))) same)
