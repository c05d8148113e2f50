-- What a string table's header says of its names.
use Rattle.std.proofs.Common.{◌≡◌, ℕ, List, length, take, drop, true, false, not, ◌&&◌, ◌||◌, ◌==◌, Result, Ok, Err, ◌≤◌, ◌<◌, ◌-◌, inl, inr, refl, ◌∙◌, arith}
use Rattle.std.specs.Prelude.{codes}
use Rattle.std.proofs.lemmas.List.{drop-drop, length-drop}
use Rattle.std.proofs.lemmas.Bool.{cases_lt, lt-ltb, le-ltb}
use Rattle.std.specs.Int.{w32, from_le_bytes}
use Rattle.pdb_container.specs.Fault.{Fault, UnexpectedEof, UnimplementedFeature, ◌>>=◌, refuse}
use Rattle.pdb_container.specs.Fields.{number_at, bytes_of}
use Rattle.pdb_container.specs.Container.{word_at}
use Rattle.pdb_container.specs.StringTable.{names_of}

-- four bytes that are there, and fewer
word : (bytes : List ℕ) → 4 ≤ length bytes → number_at w32 bytes ≡ Ok (from_le_bytes w32 (take 4 bytes), drop 4 bytes)
word bytes le = rw (le-ltb (length bytes) 4 le) refl

no_word : (bytes : List ℕ) → length bytes < 4 → number_at w32 bytes ≡ Err UnexpectedEof
no_word bytes lt = rw (lt-ltb (length bytes) 4 lt) refl

-- what three numbers, and the bytes after them, say
abbrev said : ℕ → ℕ → ℕ → List ℕ → Result (List ℕ) Fault
said signature version size left =
    refuse (not ((signature == 0xeffeeffe) && ((version == 1) || (version == 2)))) (UnimplementedFeature (codes "string table")) >>= λ _. bytes_of size left >>= λ names. Ok names.0

header : (bytes : List ℕ) → 12 ≤ length bytes → names_of bytes ≡ said (word_at bytes 0) (word_at bytes 4) (word_at bytes 8) (drop 12 bytes)
unfolding names_of
header bytes le =
    rw (word bytes (omega arith), word (drop 4 bytes) (omega (arith, length-drop 4 bytes)), drop-drop 4 4 bytes, word (drop 8 bytes) (omega (arith, length-drop 8 bytes)), drop-drop 4 8 bytes) refl

-- a header that isn't whole
pub names_short : (bytes : List ℕ) → length bytes < 12 → names_of bytes ≡ Err UnexpectedEof
unfolding names_of
names_short bytes lt =
    elim (cases_lt (length bytes) 4) [
      | inl h ↦ rw (no_word bytes h) refl
      | inr h ↦ elim (cases_lt (length bytes) 8) [
        | inl i ↦ rw (word bytes h, no_word (drop 4 bytes) (omega (arith, length-drop 4 bytes))) refl
        | inr i ↦ rw (word bytes h, word (drop 4 bytes) (omega (arith, length-drop 4 bytes)), drop-drop 4 4 bytes, no_word (drop 8 bytes) (omega (arith, length-drop 8 bytes))) refl
      ]
    ]

-- another signature or version
pub names_unknown : (bytes : List ℕ) → 12 ≤ length bytes → ((word_at bytes 0 == 0xeffeeffe) && ((word_at bytes 4 == 1) || (word_at bytes 4 == 2))) ≡ false
    → names_of bytes ≡ Err (UnimplementedFeature (codes "string table"))
names_unknown bytes le unknown = header bytes le ∙ rw unknown refl

known : (bytes : List ℕ) → 12 ≤ length bytes → ((word_at bytes 0 == 0xeffeeffe) && ((word_at bytes 4 == 1) || (word_at bytes 4 == 2))) ≡ true
    → names_of bytes ≡ (bytes_of (word_at bytes 8) (drop 12 bytes) >>= λ names. Ok names.0)
known bytes le h = header bytes le ∙ rw h refl

-- names that aren't all there
pub names_missing : (bytes : List ℕ) → 12 ≤ length bytes → ((word_at bytes 0 == 0xeffeeffe) && ((word_at bytes 4 == 1) || (word_at bytes 4 == 2))) ≡ true
    → length bytes - 12 < word_at bytes 8 → names_of bytes ≡ Err UnexpectedEof
names_missing bytes le h lt = known bytes le h ∙ rw (lt-ltb (length (drop 12 bytes)) (word_at bytes 8) (omega (arith, length-drop 12 bytes))) refl

-- names that are all there
pub names_there : (bytes : List ℕ) → 12 ≤ length bytes → ((word_at bytes 0 == 0xeffeeffe) && ((word_at bytes 4 == 1) || (word_at bytes 4 == 2))) ≡ true
    → word_at bytes 8 ≤ length bytes - 12 → names_of bytes ≡ Ok (take (word_at bytes 8) (drop 12 bytes))
names_there bytes le h fits = known bytes le h ∙ rw (le-ltb (length (drop 12 bytes)) (word_at bytes 8) (omega (arith, length-drop 12 bytes))) refl
