-- Texts, character by character.
use Rattle.std.proofs.Common.{◌≡◌, ℕ, ◌+◌, ◌-◌, ◌<◌, ◌≤◌, List, [], ◌∷◌, ◌++◌, Bool, true, false, cond}
use Rattle.std.proofs.Common.{eqb, leb, length, drop, get_or, sym, ◌∙◌, ap, arith, length-append}
use Rattle.std.specs.Prelude.{◌&&◌}
use Rattle.std.specs.Char.{encode_utf8}
use Rattle.std.specs.Str.{encode_utf8_all}
use Rattle.std.proofs.lemmas.Bool.{le-leb, lt-leb}
use Rattle.std.proofs.lemmas.List.{append_assoc, append-nil, drop_all, drop_more, length_push}
use Rattle.pdb_symbol_files.specs.Texts.{clean, clean_char, front}

-- a character of those that are left
abbrev pub IsTurn : List ℕ → ℕ → ℕ → Type 0
IsTurn cs n c = (n < length cs) × (c ≡ get_or cs n c)

next : (cs : List ℕ) (n c : ℕ) → IsTurn cs n c → drop n cs ≡ c ∷ drop (n + 1) cs
next cs n c t =
    let lt : n < length cs = t.0 in
    drop_more cs n c lt ∙ ap (λ (x : ℕ). x ∷ drop (n + 1) cs) (sym t.1)

pub clean_more : (cs ys : List ℕ) (c : ℕ) (leading still : Bool) (made more all : List ℕ)
    → IsTurn cs (length ys) c → still ≡ (leading && eqb c 32)
    → more ≡ made ++ encode_utf8 (clean_char leading c)
    → made ++ encode_utf8_all (clean leading (drop (length ys) cs)) ≡ all
    → more ++ encode_utf8_all (clean still (drop (length (ys ++ c ∷ [])) cs)) ≡ all
clean_more cs ys c leading still made more all t s m so_far =
    let n = length ys in
    let rest = drop (n + 1) cs in
    let first = encode_utf8 (clean_char leading c) in
    ap (λ (k : ℕ). more ++ encode_utf8_all (clean still (drop k cs))) (length_push ys c)
    ∙ ap (λ (b : Bool). more ++ encode_utf8_all (clean b rest)) s
    ∙ ap (λ (xs : List ℕ). xs ++ encode_utf8_all (clean (leading && eqb c 32) rest)) m
    ∙ append_assoc made first (encode_utf8_all (clean (leading && eqb c 32) rest))
    ∙ sym (ap (λ (xs : List ℕ). made ++ encode_utf8_all (clean leading xs)) (next cs n c t))
    ∙ so_far

pub clean_end : (cs : List ℕ) (n : ℕ) (leading : Bool) (made all : List ℕ) → length cs ≤ n
    → made ++ encode_utf8_all (clean leading (drop n cs)) ≡ all → made ≡ all
clean_end cs n leading made all past so_far =
    sym (append-nil made)
    ∙ sym (ap (λ (xs : List ℕ). made ++ encode_utf8_all (clean leading xs)) (drop_all n cs past))
    ∙ so_far

-- the characters of a front, by the first of those that are left
front_next : (cs : List ℕ) (n c left : ℕ) (b : Bool) → IsTurn cs n c
    → leb (length (encode_utf8 c)) left ≡ b
    → front left (drop n cs)
    ≡ cond b (c ∷ front (left - length (encode_utf8 c)) (drop (n + 1) cs)) []
front_next cs n c left b t e =
    ap (front left) (next cs n c t)
    ∙ ap (λ (x : Bool). cond x (c ∷ front (left - length (encode_utf8 c)) (drop (n + 1) cs)) []) e

less : (limit made size more : ℕ) → more ≡ made + size → limit - more ≡ limit - made - size
less limit made size more e = omega arith

pub front_more : (cs ys : List ℕ) (c limit : ℕ) (made more all : List ℕ)
    → IsTurn cs (length ys) c → length (encode_utf8 c) ≤ limit - length made
    → more ≡ made ++ encode_utf8 c
    → made ++ encode_utf8_all (front (limit - length made) (drop (length ys) cs)) ≡ all
    → more ++ encode_utf8_all (front (limit - length more) (drop (length (ys ++ c ∷ [])) cs)) ≡ all
front_more cs ys c limit made more all t fits m so_far =
    let n = length ys in
    let rest = drop (n + 1) cs in
    let one = encode_utf8 c in
    let left = limit - length made in
    let size : length more ≡ length made + length one
    = ap length m ∙ length-append made one in
    ap (λ (k : ℕ). more ++ encode_utf8_all (front (limit - length more) (drop k cs)))
    (length_push ys c)
    ∙ ap (λ (k : ℕ). more ++ encode_utf8_all (front k rest))
    (less limit (length made) (length one) (length more) size)
    ∙ ap (λ (xs : List ℕ). xs ++ encode_utf8_all (front (left - length one) rest)) m
    ∙ append_assoc made one (encode_utf8_all (front (left - length one) rest))
    ∙ sym (ap (λ (xs : List ℕ). made ++ encode_utf8_all xs)
    (front_next cs n c left true t (le-leb (length one) left fits)))
    ∙ so_far

pub front_full : (cs : List ℕ) (n c left : ℕ) (made all : List ℕ) → IsTurn cs n c
    → left < length (encode_utf8 c)
    → made ++ encode_utf8_all (front left (drop n cs)) ≡ all → made ≡ all
front_full cs n c left made all t full so_far =
    sym (append-nil made)
    ∙ sym (ap (λ (xs : List ℕ). made ++ encode_utf8_all xs)
    (front_next cs n c left false t (lt-leb (length (encode_utf8 c)) left full)))
    ∙ so_far

pub front_end : (cs : List ℕ) (n left : ℕ) (made all : List ℕ) → length cs ≤ n
    → made ++ encode_utf8_all (front left (drop n cs)) ≡ all → made ≡ all
front_end cs n left made all past so_far =
    sym (append-nil made)
    ∙ sym (ap (λ (xs : List ℕ). made ++ encode_utf8_all (front left xs)) (drop_all n cs past))
    ∙ so_far
