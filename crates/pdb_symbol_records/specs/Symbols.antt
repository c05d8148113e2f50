-- Lists of symbols: the one at a place of their bytes, and the symbols from a place on.
-- The layout is that of LLVM's CodeView Symbol Records, as the pdb crate reads it.
use Rattle.std.specs.Prelude.{◌≡◌, ℕ, zero, suc, ◌+◌, ◌≤◌, List, length, take, drop, false, nat_lt}
use Rattle.std.specs.Prelude.{nat_le, if◌then◌else◌, Option, None, Some, Result, Ok, Err}
use Rattle.std.specs.Int.{w16, from_le_bytes}
use Rattle.pdb_container.specs.Fault.{Fault, SymbolTooShort, ◌>>=◌, refuse}
use Rattle.pdb_container.specs.Fields.{number_at, bytes_of}
use Rattle.pdb_container.specs.Listing.{Listing, before, ending}
use Rattle.pdb_symbol_records.specs.Kinds.{is_padding}

-- a symbol: the byte place of its length in its list, and the bytes after the length
pub record Symbol : Type 0 where
  pub index : ℕ
  pub bytes : List ℕ

-- a symbol's kind: its first two bytes
abbrev pub kind_of : Symbol → ℕ
kind_of s = from_le_bytes w16 (take 2 s.bytes)

-- a symbol's payload: the bytes after its kind
abbrev pub payload_of : Symbol → List ℕ
payload_of s = drop 2 s.bytes

-- the symbol at a place, and the place after it: a length in two bytes, at least 2, and that many
-- bytes
unfoldable pub symbol_at : List ℕ → ℕ → Result (Symbol × ℕ) Fault
symbol_at bytes place = do
  size ← number_at w16 (drop place bytes)
  long ← refuse (nat_lt size.0 2) SymbolTooShort
  body ← bytes_of size.0 size.1
  Ok (record { index = place; bytes = body.0 }, place + 2 + size.0)

-- a symbol that was read; or, after padding between symbols, the symbol that is found from there on
abbrev pub found_or : (ℕ → Result (Option (Symbol × ℕ)) Fault) → Symbol × ℕ
    → Result (Option (Symbol × ℕ)) Fault
found_or further read = if is_padding (kind_of read.0) then further read.1 else Ok (Some read)

-- the first symbol at a place or later, in at most that many places
unfoldable pub next_within : ℕ → List ℕ → ℕ → Result (Option (Symbol × ℕ)) Fault
next_within zero bytes place = Ok None
next_within (suc steps) bytes place =
    if nat_le (length bytes) place then Ok None
    else (symbol_at bytes place >>= found_or (next_within steps bytes))

-- The first symbol at a place or later, and the place after it; none at the end and past it.
unfoldable pub next : List ℕ → ℕ → Result (Option (Symbol × ℕ)) Fault
next bytes place = next_within (length bytes) bytes place

-- The symbol that is found from a place on, by the symbol there: none at the end and past it; a
-- fault; a symbol; or, after padding between symbols, the symbol that is found from there on.
abbrev pub next_by_step : List ℕ → ℕ → Result (Option (Symbol × ℕ)) Fault
next_by_step bytes place =
    if nat_le (length bytes) place then Ok None
    else (symbol_at bytes place >>= found_or (next bytes))

-- a symbol that was found, before those after it; or the end
abbrev pub symbol_before : (ℕ → Listing Symbol) → Result (Option (Symbol × ℕ)) Fault
    → Listing Symbol
symbol_before others (Ok (Some found)) = before found.0 (others found.1)
symbol_before others (Ok None) = ending None
symbol_before others (Err e) = ending (Some e)

-- the symbols from a place on, at most that many of them
unfoldable pub symbols_within : ℕ → List ℕ → ℕ → Listing Symbol
symbols_within zero bytes place = ending None
symbols_within (suc steps) bytes place =
    symbol_before (symbols_within steps bytes) (next bytes place)

-- The symbols from a place on in their order, and the end of their list.
unfoldable pub symbols_from : List ℕ → ℕ → Listing Symbol
symbols_from bytes place = symbols_within (length bytes) bytes place

-- a symbol that was found from a place on
pub record IsFound (bytes : List ℕ) (place : ℕ) (s : Symbol) (behind : ℕ) : Type 0 where
  -- the symbol stands there or later
  pub past : place ≤ s.index
  -- it is the symbol at its index
  pub stands : symbol_at bytes s.index ≡ Ok (s, behind)
  -- and is no padding between symbols
  pub is_symbol : is_padding (kind_of s) ≡ false
  -- it begins with its kind
  pub long : 2 ≤ length s.bytes
  -- the place after it is past its index, by its length and its bytes
  pub behind_it : behind ≡ s.index + 2 + length s.bytes
  -- and within the list
  pub within : behind ≤ length bytes
  -- from its index on it is found again
  pub again : next bytes s.index ≡ Ok (Some (s, behind))
