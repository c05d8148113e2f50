-- Where no NUL follows a place among the names, no name ends from there on.
use Rattle.std.proofs.Common.{◌≡◌, ℕ, zero, suc, ◌+◌, ◌<◌, ◌≤◌, Bool, true, false, cond, not, inl, inr, List, [], ◌∷◌, length, drop, Ok, Err, refl, arith}
use Rattle.std.specs.Prelude.{Option, None, Some, nat_lt, ◌==◌}
use Rattle.std.specs.List.{position, position_or_len}
use Rattle.std.specs.Option.{ok_or}
use Rattle.std.specs.Str.Lossy.{utf8_lossy}
use Rattle.std.proofs.lemmas.Bool.{cases_lt, le-ltb, lt-ltb}
use Rattle.pdb_container.specs.Fault as container
use Rattle.pdb_container.specs.Fault.{◌>>=◌, UnexpectedEof}
use Rattle.pdb_container.specs.Fields.{c_string_at, cut_at}
use Rattle.pdb_container.specs.StringTable.{name_in}
use Rattle.pdb_symbols_modules.specs.Modules.{Module}
use Rattle.pdb_resolving.specs.declared.named_modules.NamedModules.{NamedModules}
use Rattle.pdb_resolving.specs.Fault.{PdbError, ModuleNameNotFound, lifted}
use Rattle.pdb_resolving.specs.KeptTables.{AreNamed, named_at, numbered}

abbrev is_nul : ℕ → Bool
is_nul byte = byte == 0

-- the place of the first NUL, as `position` has it
abbrev place_below : ℕ → ℕ → Option ℕ
place_below m n = cond (nat_lt m n) (Some m) None

is_below : (m n : ℕ) → m < n → place_below m n ≡ Some m
is_below m n lt = rw (lt-ltb m n lt) refl

one_fewer : (m n : ℕ) → place_below (1 + m) (suc n) ≡ None → place_below m n ≡ None
one_fewer m n h = elim (cases_lt m n) [
  | inl lt ↦ (let there = is_below (1 + m) (suc n) (omega arith) in absurd cc)
  | inr le ↦ rw (le-ltb m n le) refl
]

none_behind : (b : ℕ) (bytes : List ℕ) → position is_nul (b ∷ bytes) ≡ None
    → position is_nul bytes ≡ None
none_behind b bytes = elim (b == 0) as (λ t.
    place_below (cond (not t) (1 + position_or_len is_nul bytes) 0) (suc (length bytes)) ≡ None
    → position is_nul bytes ≡ None) [
      | true ↦ λ h. (let there = is_below 0 (suc (length bytes)) (omega arith) in absurd cc)
      | false ↦ λ h. one_fewer (position_or_len is_nul bytes) (length bytes) h
    ]

none_dropped : (k : ℕ) (bytes : List ℕ) → position is_nul bytes ≡ None
    → position is_nul (drop k bytes) ≡ None
none_dropped zero bytes h = h
none_dropped (suc k) [] h = h
none_dropped (suc k) (b ∷ bytes) h = none_dropped k bytes (none_behind b bytes h)

none_later : (p q : ℕ) (bytes : List ℕ) → p ≤ q → position is_nul (drop p bytes) ≡ None
    → position is_nul (drop q bytes) ≡ None
none_later zero q bytes le h = none_dropped q bytes h
none_later (suc p) zero bytes le h = absurd (omega arith)
none_later (suc p) (suc q) [] le h = h
none_later (suc p) (suc q) (b ∷ bytes) le h = none_later p q bytes (omega arith) h

-- a name that ends has no fault of the container
numbered_or : (number : Option ℕ) (lower : List ℕ) (e : container.Fault)
    → ok_or number (ModuleNameNotFound lower) ≡ Err (PdbError e) → ⊥
numbered_or None lower e h = cc
numbered_or (Some n) lower e h = cc

not_cut : (bytes : List ℕ) (end : Option ℕ) (entries : List Module) (e : container.Fault)
    → (lifted ((cut_at bytes end >>= λ cut. Ok cut.0) >>= λ name. Ok (utf8_lossy name))
    >>= λ name. numbered name entries) ≡ Err (PdbError e) → end ≡ None
not_cut bytes None entries e h = refl
not_cut bytes (Some end) entries e h = absurd (numbered_or _ _ e h)

-- where a name has no end, none that begins later has one
pub unended_later : (names : List ℕ) (entries : List Module) (first place : ℕ)
    → named_at names entries first ≡ Err (PdbError UnexpectedEof) → first ≤ place
    → named_at names entries place ≡ Err (PdbError UnexpectedEof)
unfolding name_in c_string_at
unended_later names entries first place h le =
    let bytes = drop first names in
    let none = not_cut bytes (position is_nul bytes) entries UnexpectedEof h in
    rw (none_later first place names le none) refl

-- so that may be stored
pub unended_stored : (names : List ℕ) (entries : List Module) (named : NamedModules) (place : ℕ)
    → AreNamed names entries named → named_at names entries place ≡ Err (PdbError UnexpectedEof)
    → AreNamed names entries
    (record { numbers = named.numbers; unended = Some place; missing = named.missing })
unended_stored names entries named place right unended = record {
  number = right.number;
  unended = λ first later is le. (let same : place ≡ first = cc in
      unended_later names entries place later unended (omega arith));
  missing = right.missing;
}
