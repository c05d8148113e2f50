-- Numbers and pairs of numbers one after another, as pieces of four and of eight bytes.
use Rattle.std.proofs.Common.{◌≡◌, ◌≢◌, ℕ, zero, suc, ◌+◌, ◌-◌, ◌*◌, ◌/◌, ◌%◌, ◌≤◌, ◌<◌, inl, inr}
use Rattle.std.proofs.Common.{List, [], ◌∷◌, length, take, drop, map, Result, Ok, Err, refl, sym}
use Rattle.std.proofs.Common.{ap, ◌∙◌, arith}
use Rattle.std.proofs.lemmas.Bool.{cases_lt, lt-ltb, le-ltb}
use Rattle.std.proofs.lemmas.List.{drop-drop, length-drop, length-take, take-take, drop-take}
use Rattle.std.specs.Int.{w32, from_le_bytes}
use Rattle.std.specs.Simd.{first_chunks}
use Rattle.pdb_container.specs.Fault.{Fault, UnexpectedEof}
use Rattle.pdb_container.specs.Fields.{number_at, bytes_of, entries_within}
use Rattle.pdb_container.specs.RecordFields.{many_at}
use Rattle.pdb_subsections.specs.Exports.{export_at, export_in, exports_by_eight, exports_of}

-- the first chunks of bytes lie in any prefix that has room for them
chunks_in_front : (size n m : ℕ) (bytes : List ℕ) → n * size ≤ m
    → first_chunks size n (take m bytes) ≡ first_chunks size n bytes
chunks_in_front size zero m bytes enough = refl
chunks_in_front size (suc n) m bytes enough =
    let k : m ≡ size + (m - size) = omega arith in
    let front : take size (take m bytes) ≡ take size bytes = take-take size m bytes (omega arith) in
    let behind : drop size (take m bytes) ≡ take (m - size) (drop size bytes) =
    ap (λ i. drop size (take i bytes)) k ∙ drop-take size (m - size) bytes in
    rw (front, behind, chunks_in_front size n (m - size) (drop size bytes) (omega arith)) refl

-- ---- numbers

abbrev numbers : ℕ → List ℕ → Result (List ℕ × List ℕ) Fault
numbers n bytes = many_at (number_at w32) n bytes

abbrev in_chunks : ℕ → List ℕ → List ℕ
in_chunks n bytes = map (from_le_bytes w32) (first_chunks 4 n bytes)

all_there : (n : ℕ) (bytes : List ℕ) → 4 * n ≤ length bytes
    → numbers n bytes ≡ Ok (in_chunks n bytes, drop (4 * n) bytes)
unfolding many_at
all_there zero bytes enough = refl
all_there (suc n) bytes enough =
    let four : 4 + 4 * n ≡ 4 * suc n = omega arith in
    let on : drop (4 * n) (drop 4 bytes) ≡ drop (4 * suc n) bytes =
    drop-drop (4 * n) 4 bytes ∙ ap (λ i. drop i bytes) four in
    rw (
      le-ltb (length bytes) 4 (omega arith),
      all_there n (drop 4 bytes) (omega (arith, length-drop 4 bytes)),
      on,
    ) refl

some_missing : (n : ℕ) (bytes : List ℕ) → length bytes < 4 * n → numbers n bytes ≡ Err UnexpectedEof
unfolding many_at
some_missing zero bytes few = absurd (omega arith)
some_missing (suc n) bytes few = elim (cases_lt (length bytes) 4) [
  | inl lt ↦ rw (lt-ltb (length bytes) 4 lt) refl
  | inr le ↦
      rw (
        le-ltb (length bytes) 4 le,
        some_missing n (drop 4 bytes)
            (omega (arith, length-drop 4 bytes)),
      ) refl
]

-- that many numbers, whose bytes were taken
pub numbers_read : (n : ℕ) (bytes part left : List ℕ) → bytes_of (4 * n) bytes ≡ Ok (part, left)
    → numbers n bytes ≡ Ok (map (from_le_bytes w32) (first_chunks 4 (length part / 4) part), left)
numbers_read n bytes part left taken = elim (cases_lt (length bytes) (4 * n)) [
  | inl lt ↦
      let short : bytes_of (4 * n) bytes ≡ Err UnexpectedEof =
      rw (lt-ltb (length bytes) (4 * n) lt) refl in
      let same = sym taken ∙ short in
      absurd cc
  | inr le ↦
      let there : bytes_of (4 * n) bytes ≡ Ok (take (4 * n) bytes, drop (4 * n) bytes) =
      rw (le-ltb (length bytes) (4 * n) le) refl in
      let same = sym taken ∙ there in
      let found : List ℕ × List ℕ = (part, left) in
      let wanted : List ℕ × List ℕ = (take (4 * n) bytes, drop (4 * n) bytes) in
      let pair : found ≡ wanted = cc in
      let front : part ≡ take (4 * n) bytes = ap (λ p. p.0) pair in
      let behind : left ≡ drop (4 * n) bytes = ap (λ p. p.1) pair in
      let count : length part / 4 ≡ n =
      omega (arith, ap length front, length-take (4 * n) bytes, le) in
      rw (count, front, behind, chunks_in_front 4 n (4 * n) bytes (omega arith))
      (all_there n bytes le)
]

-- numbers whose bytes are missing are missing
pub numbers_missing : (n : ℕ) (bytes : List ℕ) (e : Fault) → bytes_of (4 * n) bytes ≡ Err e
    → numbers n bytes ≡ Err e
numbers_missing n bytes e refused = elim (cases_lt (length bytes) (4 * n)) [
  | inl lt ↦
      let short : bytes_of (4 * n) bytes ≡ Err UnexpectedEof =
      rw (lt-ltb (length bytes) (4 * n) lt) refl in
      some_missing n bytes lt ∙ sym short ∙ refused
  | inr le ↦
      let there : bytes_of (4 * n) bytes ≡ Ok (take (4 * n) bytes, drop (4 * n) bytes) =
      rw (le-ltb (length bytes) (4 * n) le) refl in
      let same = sym refused ∙ there in
      absurd cc
]

-- ---- pairs of numbers

pair_read : (bytes : List ℕ) → 8 ≤ length bytes
    → export_at bytes ≡ Ok (export_in (take 8 bytes), drop 8 bytes)
unfolding export_at
pair_read bytes enough =
    let local : take 4 (take 8 bytes) ≡ take 4 bytes = take-take 4 8 bytes (omega arith) in
    let global : drop 4 (take 8 bytes) ≡ take 4 (drop 4 bytes) = drop-take 4 4 bytes in
    let again : take 4 (take 4 (drop 4 bytes)) ≡ take 4 (drop 4 bytes) =
    take-take 4 4 (drop 4 bytes) (omega arith) in
    rw (
      le-ltb (length bytes) 4 (omega arith),
      le-ltb (length (drop 4 bytes)) 4 (omega (arith, length-drop 4 bytes)),
      local,
      global,
      again,
      drop-drop 4 4 bytes,
    ) refl

pair_missing : (bytes : List ℕ) → length bytes < 8 → export_at bytes ≡ Err UnexpectedEof
unfolding export_at
pair_missing bytes few = elim (cases_lt (length bytes) 4) [
  | inl lt ↦ rw (lt-ltb (length bytes) 4 lt) refl
  | inr le ↦
      rw (
        le-ltb (length bytes) 4 le,
        lt-ltb (length (drop 4 bytes)) 4
            (omega (arith, length-drop 4 bytes)),
      ) refl
]

all_whole : (n steps : ℕ) (bytes : List ℕ) → length bytes ≡ 8 * n → n ≤ steps
    → entries_within export_at steps bytes ≡ Ok (exports_by_eight (first_chunks 8 n bytes))
unfolding entries_within
all_whole zero steps [] whole enough = refl
all_whole zero steps (b ∷ bytes) whole enough = absurd (omega arith)
all_whole (suc n) steps [] whole enough = absurd (omega arith)
all_whole (suc n) zero (b ∷ bytes) whole enough = absurd (omega arith)
all_whole (suc n) (suc steps) (b ∷ bytes) whole enough =
    rw (
      pair_read (b ∷ bytes) (omega arith),
      all_whole n steps (drop 8 (b ∷ bytes)) (omega (arith, length-drop 8 (b ∷ bytes)))
          (omega arith),
    ) refl

last_cut : (n steps : ℕ) (bytes : List ℕ) → 8 * n < length bytes → length bytes < 8 * n + 8
    → n < steps → entries_within export_at steps bytes ≡ Err UnexpectedEof
unfolding entries_within
last_cut n steps [] some few enough = absurd (omega arith)
last_cut n zero (b ∷ bytes) some few enough = absurd (omega arith)
last_cut zero (suc steps) (b ∷ bytes) some few enough =
    rw (pair_missing (b ∷ bytes) (omega arith)) refl
last_cut (suc n) (suc steps) (b ∷ bytes) some few enough =
    let left = length-drop 8 (b ∷ bytes) in
    rw (
      pair_read (b ∷ bytes) (omega arith),
      last_cut n steps (drop 8 (b ∷ bytes)) (omega (arith, left)) (omega (arith, left))
          (omega arith),
    ) refl

-- bytes that are made of whole entries are exports, eight bytes each
pub exports_whole : (bytes : List ℕ) → length bytes % 8 ≡ 0
    → exports_of bytes ≡ Ok (exports_by_eight (first_chunks 8 (length bytes / 8) bytes))
exports_whole bytes whole = all_whole (length bytes / 8) (length bytes) bytes (omega arith)
    (omega arith)

-- bytes that aren't made of whole entries are refused
pub exports_cut : (bytes : List ℕ) → length bytes % 8 ≢ 0 → exports_of bytes ≡ Err UnexpectedEof
exports_cut bytes cut = last_cut (length bytes / 8) (length bytes) bytes (omega arith) (omega arith)
    (omega arith)
