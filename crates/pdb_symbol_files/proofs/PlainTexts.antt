-- Names and files have no control character.
use Rattle.std.proofs.Common.{◌≡◌, ◌∙◌, ℕ, ◌+◌, ◌-◌, ◌*◌, ◌/◌, ◌%◌, ◌<◌, ◌≤◌, List, [], ◌∷◌, ◌++◌, Bool}
use Rattle.std.proofs.Common.{true, false, cond, eqb, leb, ltb, length, refl, sym, arith, subst, ap}
use Rattle.std.proofs.Common.{zero, suc, inl, inr}
use Rattle.std.specs.Prelude.{◌&&◌, ◌||◌, codes, Option, None, Some}
use Rattle.std.specs.Char.{encode_utf8}
use Rattle.std.specs.Str.{chars, chars_after, continuation_len, encode_utf8_all, lead_bits}
use Rattle.std.proofs.lemmas.Bool.{cases_lt, lt-ltb, le-ltb}
use Rattle.std.proofs.lemmas.Str.{chars-nil}
use Rattle.std.proofs.lemmas.Bool.Decides.{nat_tests}
use Rattle.pdb_symbol_files.specs.Reading.{IsPlain}
use Rattle.pdb_symbol_files.specs.Texts.{clean, clean_char, front, shortened, text_of, told_text}

plain_both : (xs ys : List ℕ) → IsPlain xs → IsPlain ys → IsPlain (xs ++ ys)
plain_both [] ys p q = q
plain_both (x ∷ xs) ys p q = (p.0, plain_both xs ys p.1 q)

-- ---- characters

plain_if : (b : Bool) (xs ys : List ℕ) → IsPlain xs → IsPlain ys → IsPlain (cond b xs ys)
plain_if true xs ys p q = p
plain_if false xs ys p q = q

plain_encode : (c : ℕ) → 32 ≤ c → IsPlain (encode_utf8 c)
unfolding encode_utf8
plain_encode c le =
    plain_if (ltb c 128) _ _ (le, tt)
    (plain_if (ltb c 2048) _ _ (omega arith, (omega arith, tt))
    (plain_if (ltb c 65536) _ _ (omega arith, (omega arith, (omega arith, tt)))
    (omega arith, (omega arith, (omega arith, (omega arith, tt))))))

plain_encodes : (cs : List ℕ) → IsPlain cs → IsPlain (encode_utf8_all cs)
plain_encodes [] p = tt
plain_encodes (c ∷ cs) p =
    plain_both (encode_utf8 c) (encode_utf8_all cs) (plain_encode c p.0) (plain_encodes cs p.1)

cleaned : (leading : Bool) (c : ℕ) → 32 ≤ clean_char leading c
cleaned leading c = grind (arith, nat_tests)

plain_clean : (leading : Bool) (cs : List ℕ) → IsPlain (clean leading cs)
plain_clean leading [] = tt
plain_clean leading (c ∷ cs) = (cleaned leading c, plain_clean (leading && eqb c 32) cs)

plain_front : (n : ℕ) (cs : List ℕ) → IsPlain cs → IsPlain (front n cs)
plain_front n [] p = tt
plain_front n (c ∷ cs) p =
    let size = length (encode_utf8 c) in
    plain_if (leb size n) (c ∷ front (n - size) cs) []
    (p.0, plain_front (n - size) cs p.1) tt

-- ---- characters that were written are read back

abbrev next : ℕ → ℕ
next bits = 128 + bits % 64

one : (c : ℕ) → c < 128 → encode_utf8 c ≡ c ∷ []
unfolding encode_utf8
one c lt =
    ap (λ (t : Bool). cond t (c ∷ []) (cond (ltb c 2048) ((192 + c / 64) ∷ next c ∷ [])
    (cond (ltb c 65536) ((224 + c / 4096) ∷ next (c / 64) ∷ next c ∷ [])
    ((240 + c / 262144) ∷ next (c / 4096) ∷ next (c / 64) ∷ next c ∷ [])))) (lt-ltb c 128 lt)

two : (c : ℕ) → 128 ≤ c → c < 2048 → encode_utf8 c ≡ (192 + c / 64) ∷ next c ∷ []
unfolding encode_utf8
two c le lt =
    ap (λ (t : Bool). cond t (c ∷ []) (cond (ltb c 2048) ((192 + c / 64) ∷ next c ∷ [])
    (cond (ltb c 65536) ((224 + c / 4096) ∷ next (c / 64) ∷ next c ∷ [])
    ((240 + c / 262144) ∷ next (c / 4096) ∷ next (c / 64) ∷ next c ∷ [])))) (le-ltb c 128 le)
    ∙ ap (λ (t : Bool). cond t ((192 + c / 64) ∷ next c ∷ [])
    (cond (ltb c 65536) ((224 + c / 4096) ∷ next (c / 64) ∷ next c ∷ [])
    ((240 + c / 262144) ∷ next (c / 4096) ∷ next (c / 64) ∷ next c ∷ []))) (lt-ltb c 2048 lt)

more : (c : ℕ) → 2048 ≤ c → encode_utf8 c
    ≡ cond (ltb c 65536) ((224 + c / 4096) ∷ next (c / 64) ∷ next c ∷ [])
    ((240 + c / 262144) ∷ next (c / 4096) ∷ next (c / 64) ∷ next c ∷ [])
unfolding encode_utf8
more c le =
    ap (λ (t : Bool). cond t (c ∷ []) (cond (ltb c 2048) ((192 + c / 64) ∷ next c ∷ [])
    (cond (ltb c 65536) ((224 + c / 4096) ∷ next (c / 64) ∷ next c ∷ [])
    ((240 + c / 262144) ∷ next (c / 4096) ∷ next (c / 64) ∷ next c ∷ []))))
    (le-ltb c 128 (omega arith))
    ∙ ap (λ (t : Bool). cond t ((192 + c / 64) ∷ next c ∷ [])
    (cond (ltb c 65536) ((224 + c / 4096) ∷ next (c / 64) ∷ next c ∷ [])
    ((240 + c / 262144) ∷ next (c / 4096) ∷ next (c / 64) ∷ next c ∷ []))) (le-ltb c 2048 le)

three : (c : ℕ) → 2048 ≤ c → c < 65536
    → encode_utf8 c ≡ (224 + c / 4096) ∷ next (c / 64) ∷ next c ∷ []
three c le lt =
    more c le ∙ ap (λ (t : Bool). cond t ((224 + c / 4096) ∷ next (c / 64) ∷ next c ∷ [])
    ((240 + c / 262144) ∷ next (c / 4096) ∷ next (c / 64) ∷ next c ∷ [])) (lt-ltb c 65536 lt)

four : (c : ℕ) → 65536 ≤ c
    → encode_utf8 c ≡ (240 + c / 262144) ∷ next (c / 4096) ∷ next (c / 64) ∷ next c ∷ []
four c le =
    more c (omega arith)
    ∙ ap (λ (t : Bool). cond t ((224 + c / 4096) ∷ next (c / 64) ∷ next c ∷ [])
    ((240 + c / 262144) ∷ next (c / 4096) ∷ next (c / 64) ∷ next c ∷ [])) (le-ltb c 65536 le)

whole : (c : ℕ) (bytes : List ℕ) → chars_after zero c bytes ≡ c ∷ chars bytes
unfolding chars
whole c [] = refl
whole c (b ∷ bytes) = refl

led : (a n v : ℕ) (bytes : List ℕ) → n ≡ continuation_len a → v ≡ lead_bits a
    → chars (a ∷ bytes) ≡ chars_after n v bytes
unfolding chars
led a n v bytes p q = λ i. chars_after (sym p i) (sym q i) bytes

one_read : (c : ℕ) (rest : List ℕ) → c < 128 → chars (encode_utf8 c ++ rest) ≡ c ∷ chars rest
one_read c rest lt =
    ap (λ (xs : List ℕ). chars (xs ++ rest)) (one c lt)
    ∙ led c zero c rest (grind arith) (grind arith) ∙ whole c rest

two_read : (c : ℕ) (rest : List ℕ) → 128 ≤ c → c < 2048
    → chars (encode_utf8 c ++ rest) ≡ c ∷ chars rest
two_read c rest le lt =
    let a = 192 + c / 64 in
    let b = next c in
    let low : a < 224 = omega arith in
    let is : (a - 192) * 64 + (b - 128) ≡ c = omega arith in
    ap (λ (xs : List ℕ). chars (xs ++ rest)) (two c le lt)
    ∙ led a (suc zero) (a - 192) (b ∷ rest) (grind arith) (grind arith)
    ∙ whole _ rest ∙ ap (λ (x : ℕ). x ∷ chars rest) is

three_read : (c : ℕ) (rest : List ℕ) → 2048 ≤ c → c < 65536
    → chars (encode_utf8 c ++ rest) ≡ c ∷ chars rest
three_read c rest le lt =
    let a = 224 + c / 4096 in
    let b = next (c / 64) in
    let d = next c in
    let low : a < 240 = omega arith in
    let is : ((a - 224) * 64 + (b - 128)) * 64 + (d - 128) ≡ c = omega arith in
    ap (λ (xs : List ℕ). chars (xs ++ rest)) (three c le lt)
    ∙ led a (suc (suc zero)) (a - 224) (b ∷ d ∷ rest) (grind arith) (grind arith)
    ∙ whole _ rest ∙ ap (λ (x : ℕ). x ∷ chars rest) is

four_read : (c : ℕ) (rest : List ℕ) → 65536 ≤ c
    → chars (encode_utf8 c ++ rest) ≡ c ∷ chars rest
four_read c rest le =
    let a = 240 + c / 262144 in
    let b = next (c / 4096) in
    let d = next (c / 64) in
    let e = next c in
    let is : (((a - 240) * 64 + (b - 128)) * 64 + (d - 128)) * 64 + (e - 128) ≡ c = omega arith in
    ap (λ (xs : List ℕ). chars (xs ++ rest)) (four c le)
    ∙ led a (suc (suc (suc zero))) (a - 240) (b ∷ d ∷ e ∷ rest) (grind arith) (grind arith)
    ∙ whole _ rest ∙ ap (λ (x : ℕ). x ∷ chars rest) is

char_read : (c : ℕ) (rest : List ℕ) → chars (encode_utf8 c ++ rest) ≡ c ∷ chars rest
char_read c rest =
    elim (cases_lt c 128) [
      | inl lt ↦ one_read c rest lt
      | inr le ↦ elim (cases_lt c 2048) [
        | inl lt ↦ two_read c rest le lt
        | inr more ↦ elim (cases_lt c 65536) [
          | inl lt ↦ three_read c rest more lt
          | inr most ↦ four_read c rest most
        ]
      ]
    ]

chars_read : (cs : List ℕ) → chars (encode_utf8_all cs) ≡ cs
chars_read [] = chars-nil
chars_read (c ∷ cs) =
    char_read c (encode_utf8_all cs) ∙ ap (λ (xs : List ℕ). c ∷ xs) (chars_read cs)

-- ---- texts

plain_short : (cs : List ℕ) → IsPlain cs → IsPlain (shortened (encode_utf8_all cs))
plain_short cs p =
    let text = encode_utf8_all cs in
    let P : List ℕ → Type 0 = λ (xs : List ℕ). IsPlain (encode_utf8_all (front 65533 xs)) in
    plain_if (leb (length text) 65536) text (encode_utf8_all (front 65533 (chars text)) ++ codes "...")
    (plain_encodes cs p)
    (plain_both (encode_utf8_all (front 65533 (chars text))) (codes "...")
    (subst P (sym (chars_read cs)) (plain_encodes (front 65533 cs) (plain_front 65533 cs p)))
    (omega arith, (omega arith, (omega arith, tt))))

unknown : IsPlain (codes "??")
unknown = (omega arith, (omega arith, tt))

pub plain_texts : (text : List ℕ) → IsPlain (text_of text)
plain_texts [] = unknown
plain_texts (b ∷ text) =
    let cs = chars (b ∷ text) in
    plain_short (clean true cs) (plain_clean true cs)

pub plain_told : (text : Option (List ℕ)) → IsPlain (told_text text)
plain_told None = unknown
plain_told (Some text) = plain_texts text
