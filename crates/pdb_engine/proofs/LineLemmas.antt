-- The lines that the engine stores are those of the definition.
use Rattle.std.proofs.Common.{◌≡◌, ℕ, zero, suc, ◌+◌, ◌<◌, true, false, cond, List, [], ◌∷◌, ◌++◌, refl, sym, ap, ◌∙◌, append_assoc, append-nil, length, take, get_or, arith}
use Rattle.std.specs.Prelude.{◌==◌, Option, Result, Ok, Err, OnErr}
use Rattle.std.specs.Io.KnownBytes.{Appends}
use Rattle.std.specs.List.{flat_map}
use Rattle.std.proofs.Math.Seq.{take-nil}
use Rattle.std.proofs.lemmas.Grind.{flat_map-append}
use Rattle.std.proofs.lemmas.List.{take_more}
use Rattle.pdb_engine.specs.InputLines.{onto, input_lines, onto_ended, ended_input_lines, report, report_of_ended, kept_lines, kept_rest, Begins}

-- bytes that come in two pieces
pub kept_lines-append : (room : ℕ) (kept xs ys : List ℕ) → kept_lines room kept (xs ++ ys) ≡ kept_lines room kept xs ++ kept_lines room (kept_rest room kept xs) ys
kept_lines-append room kept [] ys = refl
kept_lines-append room kept (x ∷ xs) ys =
    elim (x == 10) as (λ b. cond b (kept ∷ kept_lines room [] (xs ++ ys)) (kept_lines room (take room (kept ++ x ∷ [])) (xs ++ ys))
    ≡ cond b (kept ∷ kept_lines room [] xs) (kept_lines room (take room (kept ++ x ∷ [])) xs) ++ kept_lines room (cond b (kept_rest room [] xs) (kept_rest room (take room (kept ++ x ∷ [])) xs)) ys) [
      | true ↦ ap (λ l. kept ∷ l) (kept_lines-append room [] xs ys)
      | false ↦ kept_lines-append room (take room (kept ++ x ∷ [])) xs ys
    ]

-- what is stored after bytes and further ones is stored in two steps
pub kept_rest-append : (room : ℕ) (kept xs ys : List ℕ) → kept_rest room kept (xs ++ ys) ≡ kept_rest room (kept_rest room kept xs) ys
kept_rest-append room kept [] ys = refl
kept_rest-append room kept (x ∷ xs) ys =
    elim (x == 10) as (λ b. cond b (kept_rest room [] (xs ++ ys)) (kept_rest room (take room (kept ++ x ∷ [])) (xs ++ ys)) ≡ kept_rest room (cond b (kept_rest room [] xs) (kept_rest room (take room (kept ++ x ∷ [])) xs)) ys) [
      | true ↦ kept_rest-append room [] xs ys
      | false ↦ kept_rest-append room (take room (kept ++ x ∷ [])) xs ys
    ]

-- whole lines, with the line so far
ended_from : List ℕ → List ℕ → List (List ℕ)
ended_from line [] = []
ended_from line (b ∷ bs) = cond (b == 10) (line ∷ ended_from [] bs) (ended_from (line ++ b ∷ []) bs)

rest_from : List ℕ → List ℕ → List ℕ
rest_from line [] = line
rest_from line (b ∷ bs) = cond (b == 10) (rest_from [] bs) (rest_from (line ++ b ∷ []) bs)

take_front : (n : ℕ) (xs ys : List ℕ) → take n (take n xs ++ ys) ≡ take n (xs ++ ys)
take_front zero xs ys = refl
take_front (suc n) [] ys = refl
take_front (suc n) (x ∷ xs) ys = ap (λ l. x ∷ l) (take_front n xs ys)

-- the first bytes are enough where they determine the text
kept_report : (room : ℕ) (text : List ℕ → List ℕ) → ((line : List ℕ) → text (take room line) ≡ text line) → (line bs : List ℕ) → flat_map text (kept_lines room (take room line) bs) ≡ flat_map text (ended_from line bs)
unfolding ended_from
kept_report room text short line [] = refl
kept_report room text short line (b ∷ bs) =
    elim (b == 10) as (λ t. flat_map text (cond t (take room line ∷ kept_lines room [] bs) (kept_lines room (take room (take room line ++ b ∷ [])) bs)) ≡ flat_map text (cond t (line ∷ ended_from [] bs) (ended_from (line ++ b ∷ []) bs))) [
      | true ↦ ap (λ l. l ++ flat_map text (kept_lines room [] bs)) (short line)
          ∙ ap (λ l. text line ++ l) (ap (λ k. flat_map text (kept_lines room k bs)) (sym (take-nil room)) ∙ kept_report room text short [] bs)
      | false ↦ ap (λ l. flat_map text (kept_lines room l bs)) (take_front room line (b ∷ [])) ∙ kept_report room text short (line ++ b ∷ []) bs
    ]

-- ..where no byte of a line came before
from_none : (room : ℕ) (text : List ℕ → List ℕ) → ((line : List ℕ) → text (take room line) ≡ text line) → (bs : List ℕ) → flat_map text (kept_lines room [] bs) ≡ flat_map text (ended_from [] bs)
from_none room text short bs = ap (λ k. flat_map text (kept_lines room k bs)) (sym (take-nil room)) ∙ kept_report room text short [] bs

kept_rest_is : (room : ℕ) (line bs : List ℕ) → kept_rest room (take room line) bs ≡ take room (rest_from line bs)
unfolding rest_from
kept_rest_is room line [] = refl
kept_rest_is room line (b ∷ bs) =
    elim (b == 10) as (λ t. cond t (kept_rest room [] bs) (kept_rest room (take room (take room line ++ b ∷ [])) bs) ≡ take room (cond t (rest_from [] bs) (rest_from (line ++ b ∷ []) bs))) [
      | true ↦ ap (λ k. kept_rest room k bs) (sym (take-nil room)) ∙ kept_rest_is room [] bs
      | false ↦ ap (λ l. kept_rest room l bs) (take_front room line (b ∷ [])) ∙ kept_rest_is room (line ++ b ∷ []) bs
    ]

-- ..where no byte of a line came before
rest_none : (room : ℕ) (bs : List ℕ) → kept_rest room [] bs ≡ take room (rest_from [] bs)
rest_none room bs = ap (λ k. kept_rest room k bs) (sym (take-nil room)) ∙ kept_rest_is room [] bs

front_ended : List ℕ → List (List ℕ) → List (List ℕ)
front_ended line [] = []
front_ended line (l ∷ ls) = (line ++ l) ∷ ls

front_ended-nil : (ls : List (List ℕ)) → front_ended [] ls ≡ ls
unfolding front_ended
front_ended-nil [] = refl
front_ended-nil (l ∷ ls) = refl

front_ended-onto : (line : List ℕ) (b : ℕ) (ls : List (List ℕ)) → front_ended (line ++ b ∷ []) ls ≡ front_ended line (onto_ended b ls)
unfolding front_ended
front_ended-onto line b [] = refl
front_ended-onto line b (l ∷ ls) = ap (λ h. h ∷ ls) (append_assoc line (b ∷ []) l)

ended_is : (line bs : List ℕ) → ended_from line bs ≡ front_ended line (ended_input_lines bs)
unfolding ended_from front_ended
ended_is line [] = refl
ended_is line (b ∷ bs) =
    elim (b == 10) as (λ t. cond t (line ∷ ended_from [] bs) (ended_from (line ++ b ∷ []) bs) ≡ front_ended line (cond t ([] ∷ ended_input_lines bs) (onto_ended b (ended_input_lines bs)))) [
      | true ↦ ap (λ l. line ∷ l) (ended_is [] bs ∙ front_ended-nil (ended_input_lines bs)) ∙ ap (λ h. h ∷ ended_input_lines bs) (sym (append-nil line))
      | false ↦ ended_is (line ++ b ∷ []) bs ∙ front_ended-onto line b (ended_input_lines bs)
    ]

-- a line after the last newline, if it has a byte
abbrev pub last_line : List ℕ → List (List ℕ)
last_line [] = []
last_line (b ∷ bs) = (b ∷ bs) ∷ []

front : List ℕ → List (List ℕ) → List (List ℕ)
front line [] = last_line line
front line (l ∷ ls) = (line ++ l) ∷ ls

front-nil : (ls : List (List ℕ)) → front [] ls ≡ ls
unfolding front
front-nil [] = refl
front-nil (l ∷ ls) = refl

snoc_line : (line : List ℕ) (b : ℕ) → last_line (line ++ b ∷ []) ≡ (line ++ b ∷ []) ∷ []
snoc_line [] b = refl
snoc_line (x ∷ xs) b = refl

front-onto : (line : List ℕ) (b : ℕ) (ls : List (List ℕ)) → front (line ++ b ∷ []) ls ≡ front line (onto b ls)
unfolding front
front-onto line b [] = snoc_line line b
front-onto line b (l ∷ ls) = ap (λ h. h ∷ ls) (append_assoc line (b ∷ []) l)

lines_split : (line bs : List ℕ) → front line (input_lines bs) ≡ ended_from line bs ++ last_line (rest_from line bs)
unfolding ended_from rest_from front
lines_split line [] = refl
lines_split line (b ∷ bs) =
    elim (b == 10) as (λ t. front line (cond t ([] ∷ input_lines bs) (onto b (input_lines bs))) ≡ cond t (line ∷ ended_from [] bs) (ended_from (line ++ b ∷ []) bs) ++ last_line (cond t (rest_from [] bs) (rest_from (line ++ b ∷ []) bs))) [
      | true ↦ ap (λ h. h ∷ input_lines bs) (append-nil line) ∙ ap (λ l. line ∷ l) (sym (front-nil (input_lines bs)) ∙ lines_split [] bs)
      | false ↦ sym (front-onto line b (input_lines bs)) ∙ lines_split (line ++ b ∷ []) bs
    ]

-- ---- what the engine writes

-- for the lines that a newline ends
pub report_of_ended_is : (room : ℕ) (text : List ℕ → List ℕ) → ((line : List ℕ) → text (take room line) ≡ text line) → (bs : List ℕ) → flat_map text (kept_lines room [] bs) ≡ report_of_ended text bs
report_of_ended_is room text short bs = from_none room text short bs ∙ ap (flat_map text) (ended_is [] bs ∙ front_ended-nil (ended_input_lines bs))

last_short : (room : ℕ) → 0 < room → (text : List ℕ → List ℕ) → ((line : List ℕ) → text (take room line) ≡ text line) → (line : List ℕ) → flat_map text (last_line (take room line)) ≡ flat_map text (last_line line)
last_short zero some text short line = absurd (omega arith)
last_short (suc n) some text short [] = refl
last_short (suc n) some text short (x ∷ xs) = ap (λ l. l ++ []) (short (x ∷ xs))

-- for all
pub report_is : (room : ℕ) → 0 < room → (text : List ℕ → List ℕ) → ((line : List ℕ) → text (take room line) ≡ text line) → (bs : List ℕ) → report text bs ≡ flat_map text (kept_lines room [] bs) ++ flat_map text (last_line (kept_rest room [] bs))
report_is room some text short bs =
    ap (flat_map text) (sym (front-nil (input_lines bs)) ∙ lines_split [] bs)
    ∙ flat_map-append text (ended_from [] bs) (last_line (rest_from [] bs))
    ∙ ap (λ l. l ++ flat_map text (last_line (rest_from [] bs))) (sym (from_none room text short bs))
    ∙ ap (λ l. flat_map text (kept_lines room [] bs) ++ l) (sym (last_short room some text short (rest_from [] bs)) ∙ ap (λ l. flat_map text (last_line l)) (sym (rest_none room bs)))

-- ---- one byte more

pub kept_lines-more : (room : ℕ) (kept bytes : List ℕ) (i : ℕ) → i < length bytes → kept_lines room kept (take (i + 1) bytes) ≡ kept_lines room kept (take i bytes) ++ kept_lines room (kept_rest room kept (take i bytes)) (get_or bytes i 0 ∷ [])
kept_lines-more room kept bytes i h = ap (kept_lines room kept) (take_more bytes i 0 h) ∙ kept_lines-append room kept (take i bytes) (get_or bytes i 0 ∷ [])

pub kept_rest-more : (room : ℕ) (kept bytes : List ℕ) (i : ℕ) → i < length bytes → kept_rest room kept (take (i + 1) bytes) ≡ kept_rest room (kept_rest room kept (take i bytes)) (get_or bytes i 0 ∷ [])
kept_rest-more room kept bytes i h = ap (kept_rest room kept) (take_more bytes i 0 h) ∙ kept_rest-append room kept (take i bytes) (get_or bytes i 0 ∷ [])

-- what is stored after one more byte
pub rest_more : (room : ℕ) (kept kept' kept'' bytes : List ℕ) (i : ℕ) → i < length bytes → kept' ≡ kept_rest room kept (take i bytes) → kept'' ≡ kept_rest room kept' (get_or bytes i 0 ∷ []) → kept'' ≡ kept_rest room kept (take (i + 1) bytes)
rest_more room kept kept' kept'' bytes i h e e' = e' ∙ ap (λ k. kept_rest room k (get_or bytes i 0 ∷ [])) e ∙ sym (kept_rest-more room kept bytes i h)

-- a prefix of a text is one of the text with more after it
pub front_of_more : (a b : Option (List ℕ)) (text more : List ℕ) → ((out : List ℕ) × Appends a b out × Begins out text) → (out : List ℕ) × Appends a b out × Begins out (text ++ more)
front_of_more a b text more (out, p, (rest, e)) = (out, p, (rest ++ more, ap (λ l. l ++ more) e ∙ append_assoc out rest more))

-- the same prefix, of the same text under another name
pub front_of_same : (a b : Option (List ℕ)) (text text' more : List ℕ) → text' ≡ text → ((out : List ℕ) × Appends a b out × Begins out (text' ++ more)) → (out : List ℕ) × Appends a b out × Begins out (text ++ more)
front_of_same a b text text' more same (out, p, (rest, e)) = (out, p, (rest, ap (λ l. l ++ more) (sym same) ∙ e))

-- what holds, holds where a call failed
pub on_err : {T E P : Type 0} (r : Result T E) → P → OnErr r P
on_err (Ok x) p = tt
on_err (Err e) p = p
