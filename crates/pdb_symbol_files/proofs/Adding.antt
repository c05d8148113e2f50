-- Records, one piece after another.
use Rattle.std.proofs.Common.{◌≡◌, ℕ, ◌-◌, ◌<◌, ◌^◌, List, [], ◌∷◌, ◌++◌, Bool, true, false, cond}
use Rattle.std.proofs.Common.{subst}
use Rattle.std.proofs.lemmas.Bool.{eqb-true}
use Rattle.std.proofs.Common.{eqb, length, refl, sym, ◌∙◌, ap, arith, zero, suc}
use Rattle.std.specs.Prelude.{Some, codes, slice_get}
use Rattle.std.specs.List.{flat_map, fold}
use Rattle.std.proofs.lemmas.Grind.{flat_map-append}
use Rattle.std.proofs.lemmas.List.{append_assoc, append-nil}
use Rattle.pdb_symbol_files.specs.Told.{Answer, Told, Piece, end_of, answers_from, answers_of}
use Rattle.pdb_symbol_files.specs.Told.{answers_in}
use Rattle.pdb_symbol_files.specs.Records.{Numbers, FunctionRecord, SymbolRecords, symbol_records}
use Rattle.pdb_symbol_files.specs.RecordTexts.{function_text, functions_text, head_text}
use Rattle.pdb_symbol_files.specs.RecordTexts.{inline_text, line_text, numbered_texts, numbers_text}
use Rattle.pdb_symbol_files.specs.PieceRecords.{added, all_numbers, AllSome, AreOf, depth_of}
use Rattle.pdb_symbol_files.specs.PieceRecords.{function_if, function_records, group_record, groups}
use Rattle.pdb_symbol_files.specs.PieceRecords.{is_more}
use Rattle.pdb_symbol_files.specs.PieceRecords.{last_of, level_records, line_records, line_spans}
use Rattle.pdb_symbol_files.specs.PieceRecords.{nothing_yet, numbers_after_function}
use Rattle.pdb_symbol_files.specs.PieceRecords.{numbers_after_inlines, piece_records, SoFar}
use Rattle.pdb_symbol_files.specs.PieceRecords.{with_piece, without_last}
use Rattle.pdb_symbol_files.specs.PlainAnswers.{AreCountable}
use Rattle.pdb_symbol_files.proofs.LastPieces.{last_got}
use Rattle.pdb_symbol_files.proofs.SameGroups.{same_records}

-- ---- a function's text

some_same : (x y : Piece) → Some x ≡ Some y → x ≡ y
some_same x y e = cc

last_place : (p : Piece) (pieces : List Piece) → length (p ∷ pieces) - 1 ≡ length pieces
last_place p pieces = omega arith

abbrev text_by : Numbers → Piece → List Piece → Piece → ℕ → List ℕ
text_by n p pieces f e =
    head_text f.address (e - f.address) (f.told).function
    ++ flat_map inline_text (level_records n 0 (depth_of (p ∷ pieces)) (p ∷ pieces))
    ++ flat_map line_text
    (line_records (numbers_after_inlines n (p ∷ pieces)).files (line_spans (p ∷ pieces)))

-- the text of a function's pieces, by the first one and the last one
pub group_text : (pieces : List Piece) (f l : Piece) (n : Numbers)
    → Some f ≡ slice_get pieces 0 → Some l ≡ slice_get pieces (length pieces - 1)
    → flat_map function_text (function_if n pieces)
    ≡ head_text f.address (end_of l - f.address) (f.told).function
    ++ flat_map inline_text (level_records n 0 (depth_of pieces) pieces)
    ++ flat_map line_text
    (line_records (numbers_after_inlines n pieces).files (line_spans pieces))
group_text [] f l n first last = cc
group_text (p ∷ pieces) f l n first last =
    let same : p ≡ f = cc in
    let end : l ≡ last_of p pieces = some_same l (last_of p pieces)
    (last ∙ ap (slice_get (p ∷ pieces)) (last_place p pieces) ∙ last_got p pieces) in
    append-nil (function_text (group_record n p pieces))
    ∙ ap (λ (e : ℕ). text_by n p pieces p e) (sym (ap end_of end))
    ∙ ap (λ (x : Piece). text_by n p pieces x (end_of l)) same

-- ---- pieces one after the other

so_far_made : Numbers → List Piece → List ℕ → SoFar
so_far_made numbers last text = record { numbers = numbers; last = last; text = text }

-- all that pieces make, once the last function ends
ended_after : (pieces : List Piece) (s : SoFar)
    → without_last (fold with_piece s pieces)
    ≡ record {
      numbers = all_numbers s.numbers (groups s.last pieces);
      last = [];
      text = s.text ++ flat_map function_text (function_records s.numbers (groups s.last pieces));
    }
unfolding so_far_made
ended_after [] s =
    ap (λ (xs : List FunctionRecord). so_far_made (numbers_after_function s.numbers s.last) []
    (s.text ++ flat_map function_text xs)) (sym (append-nil (function_if s.numbers s.last)))
ended_after (p ∷ pieces) s =
    let more = s.last ++ p ∷ [] in
    let here = function_if s.numbers s.last in
    let next = numbers_after_function s.numbers s.last in
    let rest = function_records next (groups (p ∷ []) pieces) in
    let by : (b : Bool) → without_last (fold with_piece
    (cond b (so_far_made s.numbers more s.text) (so_far_made next (p ∷ []) (without_last s).text))
    pieces)
    ≡ so_far_made (all_numbers s.numbers (cond b (groups more pieces)
    (s.last ∷ groups (p ∷ []) pieces))) []
    (s.text ++ flat_map function_text (function_records s.numbers (cond b (groups more pieces)
    (s.last ∷ groups (p ∷ []) pieces))))
    = λ (b : Bool). elim b as (λ (x : Bool). without_last (fold with_piece
    (cond x (so_far_made s.numbers more s.text) (so_far_made next (p ∷ []) (without_last s).text))
    pieces)
    ≡ so_far_made (all_numbers s.numbers (cond x (groups more pieces)
    (s.last ∷ groups (p ∷ []) pieces))) []
    (s.text ++ flat_map function_text (function_records s.numbers (cond x (groups more pieces)
    (s.last ∷ groups (p ∷ []) pieces))))) [
      | true ↦ ended_after pieces (so_far_made s.numbers more s.text)
      | false ↦ ended_after pieces (so_far_made next (p ∷ []) (without_last s).text)
          ∙ ap (λ (t : List ℕ). so_far_made (all_numbers next (groups (p ∷ []) pieces)) [] t)
          (append_assoc s.text (flat_map function_text here) (flat_map function_text rest)
          ∙ sym (ap (λ (xs : List ℕ). s.text ++ xs) (flat_map-append function_text here rest)))
    ] in
    by (is_more s.last p)

-- the records so far have the text of all functions, once the last one ends
pub functions_end : (s : SoFar) (answers : List Answer) → AreOf s answers
    → (without_last s).text ≡ functions_text (symbol_records answers)
unfolding functions_text piece_records
functions_end s answers are =
    ap (λ (x : SoFar). (without_last x).text) are.so_far
    ∙ ap (λ (x : SoFar). x.text) (ended_after are.pieces nothing_yet)
    ∙ ap (λ (r : SymbolRecords). flat_map function_text r.functions)
    (same_records are.pieces are.some)
    ∙ sym (ap (λ (xs : List Answer). functions_text (symbol_records xs)) are.of)

-- and the numbers
pub numbers_end : (s : SoFar) (answers : List Answer) → AreOf s answers
    → numbered_texts (codes "FILE") 0 ((without_last s).numbers).files
    ++ numbered_texts (codes "INLINE_ORIGIN") 0 ((without_last s).numbers).origins
    ≡ numbers_text (symbol_records answers)
unfolding numbers_text piece_records
numbers_end s answers are =
    ap (λ (x : SoFar). numbered_texts (codes "FILE") 0 ((without_last x).numbers).files
    ++ numbered_texts (codes "INLINE_ORIGIN") 0 ((without_last x).numbers).origins) are.so_far
    ∙ ap (λ (x : SoFar). numbered_texts (codes "FILE") 0 (x.numbers).files
    ++ numbered_texts (codes "INLINE_ORIGIN") 0 (x.numbers).origins)
    (ended_after are.pieces nothing_yet)
    ∙ ap (λ (r : SymbolRecords). numbered_texts (codes "FILE") 0 (r.numbers).files
    ++ numbered_texts (codes "INLINE_ORIGIN") 0 (r.numbers).origins)
    (same_records are.pieces are.some)
    ∙ sym (ap (λ (xs : List Answer). numbers_text (symbol_records xs)) are.of)

-- so are the numbers the same
numbers_same : (s : SoFar) (answers : List Answer) → AreOf s answers
    → (without_last s).numbers ≡ (symbol_records answers).numbers
unfolding piece_records
numbers_same s answers are =
    ap (λ (x : SoFar). (without_last x).numbers) are.so_far
    ∙ ap (λ (x : SoFar). x.numbers) (ended_after are.pieces nothing_yet)
    ∙ ap (λ (r : SymbolRecords). r.numbers) (same_records are.pieces are.some)
    ∙ sym (ap (λ (xs : List Answer). (symbol_records xs).numbers) are.of)

-- texts that were numbered are few
pub few_numbers : (s : SoFar) (answers : List Answer) → AreOf s answers
    → (files origins : List (List ℕ))
    → record { files = files; origins = origins } ≡ (without_last s).numbers
    → length files < 2 ^ 64 → length origins < 2 ^ 64 → AreCountable (symbol_records answers)
few_numbers s answers are files origins e f o =
    subst (λ (n : Numbers). (length n.files < 2 ^ 64) × (length n.origins < 2 ^ 64))
    (e ∙ numbers_same s answers are) (f, o)

-- the texts of the last function's records, one after the other
pub numbers_written : (s : SoFar) (answers : List Answer) → AreOf s answers
    → (files origins : List (List ℕ)) (before between after : List ℕ)
    → record { files = files; origins = origins } ≡ (without_last s).numbers
    → between ≡ before ++ numbered_texts (codes "FILE") 0 files
    → after ≡ between ++ numbered_texts (codes "INLINE_ORIGIN") 0 origins
    → after ≡ before ++ numbers_text (symbol_records answers)
numbers_written s answers are files origins before between after e f o =
    let both : Numbers → List ℕ
    = λ (n : Numbers). numbered_texts (codes "FILE") 0 n.files
    ++ numbered_texts (codes "INLINE_ORIGIN") 0 n.origins in
    o
    ∙ ap (λ (xs : List ℕ). xs ++ numbered_texts (codes "INLINE_ORIGIN") 0 origins) f
    ∙ append_assoc before (numbered_texts (codes "FILE") 0 files)
    (numbered_texts (codes "INLINE_ORIGIN") 0 origins)
    ∙ ap (λ (xs : List ℕ). before ++ xs) (ap both e ∙ numbers_end s answers are)

pub function_written : (before head inlines lines whole a b c : List ℕ)
    → a ≡ before ++ head → b ≡ a ++ inlines → c ≡ b ++ lines → whole ≡ head ++ inlines ++ lines
    → c ≡ before ++ whole
function_written before head inlines lines whole a b c p q r w =
    r
    ∙ ap (λ (xs : List ℕ). xs ++ lines) (q ∙ ap (λ (xs : List ℕ). xs ++ inlines) p
    ∙ append_assoc before head inlines)
    ∙ append_assoc before (head ++ inlines) lines
    ∙ sym (ap (λ (xs : List ℕ). before ++ xs) w)

-- ---- one piece more

pub are_none : AreOf nothing_yet []
are_none = record { pieces = []; some = tt; of = refl; so_far = refl }

some_more : (pieces : List Piece) (p : Piece) → AllSome pieces → 0 < p.size
    → AllSome (pieces ++ p ∷ [])
some_more [] p some one = (one, tt)
some_more (q ∷ pieces) p some one = (some.0, some_more pieces p some.1 one)

fold_more : (pieces : List Piece) (p : Piece) (s : SoFar)
    → fold with_piece s (pieces ++ p ∷ []) ≡ with_piece (fold with_piece s pieces) p
fold_more [] p s = refl
fold_more (q ∷ pieces) p s = fold_more pieces p (with_piece s q)

are_with : (s : SoFar) (p : Piece) (answers : List Answer) → AreOf s answers → 0 < p.size
    → AreOf (with_piece s p) (answers ++ answers_of p)
are_with s p answers are one = record {
  pieces = are.pieces ++ p ∷ [];
  some = some_more are.pieces p are.some one;
  of = ap (λ (xs : List Answer). xs ++ answers_of p) are.of
      ∙ sym (ap (λ (xs : List Answer). answers_in are.pieces ++ xs) (append-nil (answers_of p)))
      ∙ sym (flat_map-append answers_of are.pieces (p ∷ []));
  so_far = ap (λ (x : SoFar). with_piece x p) are.so_far
      ∙ sym (fold_more are.pieces p nothing_yet);
}

are_same : (s : SoFar) (t : Told) (a n : ℕ) (answers : List Answer) → AreOf s answers → n ≡ 0
    → AreOf s (answers ++ answers_from a n t)
are_same s t a zero answers are e =
    let P : List Answer → Type 0 = λ (xs : List Answer). AreOf s xs in
    subst P (sym (append-nil answers)) are
are_same s t a (suc n) answers are e = absurd (omega arith)

some_of : (n : ℕ) → eqb n 0 ≡ false → 0 < n
some_of zero e = cc
some_of (suc n) e = omega arith

-- a piece is added
pub are_more : (s next : SoFar) (p : Piece) (answers : List Answer) → next ≡ added s p
    → AreOf s answers → AreOf next (answers ++ answers_of p)
are_more s next p answers e are =
    let P : SoFar → Type 0 = λ (x : SoFar). AreOf x (answers ++ answers_of p) in
    let by : (b : Bool) → eqb p.size 0 ≡ b → AreOf (cond b s (with_piece s p)) (answers ++ answers_of p)
    = λ (b : Bool). elim b as (λ (x : Bool). eqb p.size 0 ≡ x
    → AreOf (cond x s (with_piece s p)) (answers ++ answers_of p)) [
      | true ↦ λ (h : eqb p.size 0 ≡ true).
          are_same s p.told p.address p.size answers are (eqb-true p.size 0 h)
      | false ↦ λ (h : eqb p.size 0 ≡ false). are_with s p answers are (some_of p.size h)
    ] in
    subst P (sym e) (by (eqb p.size 0) refl)
