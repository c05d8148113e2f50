-- Places in bytes, and what strings are of the bytes from a place on.
use Rattle.std.proofs.Common.{◌≡◌, ℕ, suc, ◌+◌, ◌-◌, ◌≤◌, inl, inr, min, List, ◌∷◌, length, take, drop, position, Some, Ok, sym, ◌∙◌, ap, refl, arith}
use Rattle.std.specs.Prelude.{◌==◌}
use Rattle.std.proofs.lemmas.Bool.{cases_lt, le-ltb}
use Rattle.std.proofs.lemmas.List.{drop-drop, drop_all, length-drop}
use Rattle.pdb_container.specs.Buffer.{Buffer, rest, behind}
use Rattle.pdb_container.specs.Fields.{bytes_of, c_string_at, pascal_string_at}

-- dropping to the end and past it are one
pub drop_within : (n : ℕ) (bytes : List ℕ) → drop (min n (length bytes)) bytes ≡ drop n bytes
drop_within n bytes =
    elim (cases_lt (length bytes) n) [
      | inl h ↦ let e : min n (length bytes) ≡ length bytes = omega arith in rw (e, drop_all (length bytes) bytes (omega arith)) (sym (drop_all n bytes (omega arith)))
      | inr h ↦ let e : min n (length bytes) ≡ n = omega arith in rw e refl
    ]

-- the same bytes from a place on
abbrev at : Buffer → ℕ → Buffer
at b place = record { bytes = b.bytes; pos = place }

-- the same bytes from a later place on
abbrev pub after : Buffer → ℕ → Buffer
after b n = record { bytes = b.bytes; pos = b.pos + n }

-- bytes that are there are after their place
pub taken : (b : Buffer) (n : ℕ) → b.pos ≤ length b.bytes → n ≤ length (rest b) → after b n ≡ behind b (rest (after b n))
unfolding rest
taken b n within le =
    let there : n ≤ length b.bytes - b.pos = rw (sym (length-drop b.pos b.bytes)) le in
    let p : b.pos + n ≡ length b.bytes - length (drop (b.pos + n) b.bytes) = omega (arith, within, there, length-drop (b.pos + n) b.bytes) in
    ap (at b) p

-- a length in one byte, and so many bytes, are a Pascal string
pub pascal_read : (b : Buffer) (text : List ℕ) (size : ℕ) → rest b ≡ size ∷ text → size ≤ length text → pascal_string_at (rest b) ≡ Ok (take size text, rest (after b (size + 1)))
unfolding rest pascal_string_at
pascal_read b text size h le =
    let k : size + 1 ≡ suc size = omega arith in
    let left : drop size text ≡ drop (b.pos + (size + 1)) b.bytes = ap (drop (suc size)) (sym h) ∙ ap (λ n. drop n (drop b.pos b.bytes)) (sym k) ∙ drop-drop (size + 1) b.pos b.bytes in
    rw (h, le-ltb (length text) size le, left) refl

-- the bytes before the first NUL are a C string
pub text_read : (b : Buffer) (text : List ℕ) (end : ℕ) → rest b ≡ text → position (λ byte. byte == 0) text ≡ Some end → c_string_at (rest b) ≡ Ok (take end text, rest (after b (end + 1)))
unfolding rest c_string_at
text_read b text end h found =
    let left : drop (end + 1) text ≡ drop (b.pos + (end + 1)) b.bytes = ap (drop (end + 1)) (sym h) ∙ drop-drop (end + 1) b.pos b.bytes in
    rw (h, found, left) refl

-- bytes that are there
pub part_read : (b : Buffer) (n : ℕ) → n ≤ length (rest b) → bytes_of n (rest b) ≡ Ok (take (b.pos + n - b.pos) (drop b.pos b.bytes), rest (after b n))
unfolding rest
part_read b n le =
    let k : b.pos + n - b.pos ≡ n = omega arith in
    rw (k, le-ltb (length (drop b.pos b.bytes)) n le, drop-drop n b.pos b.bytes) refl
