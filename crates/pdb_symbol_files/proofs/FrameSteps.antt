-- The calls of frames, from the outermost one on.
use Rattle.std.proofs.Common.{◌≡◌, ℕ, ◌+◌, ◌-◌, ◌<◌, ◌≤◌, List, [], ◌∷◌, ◌++◌, length, drop, get_or}
use Rattle.std.proofs.Common.{refl, sym, ◌∙◌, ap, arith, suc, subst}
use Rattle.std.specs.List.{AllByRecursion}
use Rattle.std.specs.Prelude.{Option, Some, slice_get, unwrap_or}
use Rattle.std.proofs.lemmas.List.{drop_more}
use Rattle.pdb_owners.specs.Frames.{Frame}
use Rattle.pdb_symbol_files.specs.Frames.{call_of, calls_of, calls_over, outermost, told_of}
use Rattle.pdb_symbol_files.specs.PlainAnswers.{IsPlainCall}
use Rattle.pdb_symbol_files.specs.Texts.{told_text}
use Rattle.pdb_symbol_files.specs.Told.{Call, Told}
use Rattle.pdb_symbol_files.proofs.PlainRecords.{all_both}

two_frames : (frames : List Frame) (i : ℕ) (f g : Frame) → i < length frames
    → i + 1 < length frames → f ≡ get_or frames i f → g ≡ get_or frames (i + 1) g
    → calls_of (drop i frames) ≡ calls_of (drop (i + 1) frames) ++ call_of g f ∷ []
two_frames frames i f g lt more is next =
    let rest = drop (i + 1 + 1) frames in
    let second : drop (i + 1) frames ≡ g ∷ rest
    = drop_more frames (i + 1) g more ∙ ap (λ (x : Frame). x ∷ rest) (sym next) in
    ap calls_of (drop_more frames i f lt ∙ ap (λ (x : Frame). x ∷ drop (i + 1) frames) (sym is))
    ∙ ap (λ (xs : List Frame). calls_of (f ∷ xs)) second
    ∙ sym (ap (λ (xs : List Frame). calls_of xs ++ call_of g f ∷ []) second)

before_one : (left less : ℕ) → 1 < left → less ≡ left - 1 → less - 1 + 1 ≡ left - 1
before_one left less lt e = omega arith

-- a call more, where there are two frames at least
pub calls_more : (frames : List Frame) (left less : ℕ) (f g : Frame) (calls more : List Call)
    → 1 < left → left ≤ length frames → less ≡ left - 1
    → f ≡ get_or frames (less - 1) f → g ≡ get_or frames less g
    → more ≡ calls ++ call_of g f ∷ [] → calls ≡ calls_of (drop (left - 1) frames)
    → more ≡ calls_of (drop (less - 1) frames)
calls_more frames left less f g calls more lt le e is next m so_far =
    let one : less - 1 + 1 ≡ left - 1 = before_one left less lt e in
    let at : less ≡ less - 1 + 1 = omega arith in
    m
    ∙ ap (λ (xs : List Call). xs ++ call_of g f ∷ []) (so_far
    ∙ sym (ap (λ (n : ℕ). calls_of (drop n frames)) one))
    ∙ sym (two_frames frames (less - 1) f g (omega arith) (omega arith) is
    (next ∙ ap (λ (n : ℕ). get_or frames n g) at))

pub calls_end : (frames : List Frame) (left : ℕ) (calls : List Call) → left ≤ 1
    → calls ≡ calls_of (drop (left - 1) frames) → calls ≡ calls_of frames
calls_end frames left calls le so_far =
    let none : left - 1 ≡ 0 = omega arith in
    so_far ∙ ap (λ (n : ℕ). calls_of (drop n frames)) none

index_of_last : (n : ℕ) → suc (suc n) - 1 ≡ suc n
index_of_last n = omega arith

index_before : (n : ℕ) → suc n - 1 ≡ n
index_before n = omega arith

calls_start : (frames : List Frame) → [] ≡ calls_of (drop (length frames - 1) frames)
calls_start [] = refl
calls_start (f ∷ []) = refl
calls_start (f ∷ g ∷ frames) =
    calls_start (g ∷ frames)
    ∙ ap (λ (n : ℕ). calls_of (drop n (g ∷ frames))) (index_before (length frames))
    ∙ sym (ap (λ (n : ℕ). calls_of (drop n (f ∷ g ∷ frames))) (index_of_last (length frames)))

-- before the first call
pub calls_first : (frames : List Frame) (left : ℕ) (calls : List Call) → left ≡ length frames
    → calls ≡ [] → calls ≡ calls_of (drop (left - 1) frames)
calls_first frames left calls n none =
    none ∙ calls_start frames ∙ sym (ap (λ (k : ℕ). calls_of (drop (k - 1) frames)) n)

-- ---- what calls have

pub plain_first : (calls : List Call) → calls ≡ [] → AllByRecursion IsPlainCall calls
plain_first calls none =
    let P : List Call → Type 0 = λ (xs : List Call). AllByRecursion IsPlainCall xs in
    subst P (sym none) tt

pub plain_more : (calls more : List Call) (c : Call) → more ≡ calls ++ c ∷ []
    → AllByRecursion IsPlainCall calls → IsPlainCall c → AllByRecursion IsPlainCall more
plain_more calls more c e p q =
    let P : List Call → Type 0 = λ (xs : List Call). AllByRecursion IsPlainCall xs in
    subst P (sym e) (all_both IsPlainCall calls (c ∷ []) p (q, tt))

-- ---- what is told

some_same : (x y : Frame) → Some x ≡ Some y → x ≡ y
some_same x y e = cc

last_frame : (f : Frame) (frames : List Frame)
    → slice_get (f ∷ frames) (length frames) ≡ Some (outermost f frames)
last_frame f [] = refl
last_frame f (g ∷ frames) = last_frame g frames

abbrev pub told_made : Option ℕ → List ℕ → List Call → List ℕ → ℕ → Told
told_made start function calls file line = record {
  start = start;
  function = function;
  calls = calls;
  file = file;
  line = line;
}

-- what is told of frames, by the innermost and the outermost one
told_some : (start : Option ℕ) (frames : List Frame) (i o : Frame)
    → Some i ≡ slice_get frames 0 → Some o ≡ slice_get frames (length frames - 1)
    → Some (record {
      start = start;
      function = told_text o.function;
      calls = calls_of frames;
      file = told_text i.file;
      line = unwrap_or i.line 0;
    }) ≡ told_of start frames
told_some start [] i o first last = cc
told_some start (f ∷ frames) i o first last =
    let same : i ≡ f = cc in
    let end : o ≡ outermost f frames
    = some_same o (outermost f frames)
    (last ∙ ap (slice_get (f ∷ frames)) (index_before (length frames)) ∙ last_frame f frames) in
    ap (λ (x : Frame). Some (told_made start (told_text x.function) (calls_over f frames)
    (told_text i.file) (unwrap_or i.line 0))) end
    ∙ ap (λ (x : Frame). Some (told_made start (told_text (outermost f frames).function)
    (calls_over f frames) (told_text x.file) (unwrap_or x.line 0))) same

-- the same by its parts
pub told_parts : (start : Option ℕ) (frames : List Frame) (i o : Frame) (function file : List ℕ)
    (calls : List Call) (line : ℕ)
    → Some i ≡ slice_get frames 0 → Some o ≡ slice_get frames (length frames - 1)
    → function ≡ told_text o.function → calls ≡ calls_of frames → file ≡ told_text i.file
    → line ≡ unwrap_or i.line 0
    → Some (told_made start function calls file line) ≡ told_of start frames
told_parts start frames i o function file calls line first last p q r s =
    ap (λ (x : List ℕ). Some (told_made start x calls file line)) p
    ∙ ap (λ (x : List Call). Some (told_made start (told_text o.function) x file line)) q
    ∙ ap (λ (x : List ℕ). Some (told_made start (told_text o.function) (calls_of frames) x line)) r
    ∙ ap (λ (x : ℕ). Some (told_made start (told_text o.function) (calls_of frames)
    (told_text i.file) x)) s
    ∙ told_some start frames i o first last
