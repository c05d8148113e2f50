-- What stands at a place of a list of symbols, and the first symbol from there on.
use Rattle.std.proofs.Common.{◌≡◌, ℕ, zero, suc, ◌+◌, ◌-◌, ◌<◌, ◌≤◌, inl, inr, List, length, drop}
use Rattle.std.proofs.Common.{Option, Some, None, Result, Ok, Err, true, false, refl, sym, subst}
use Rattle.std.proofs.Common.{ap, ◌∙◌, arith, length-drop, length-take}
use Rattle.std.specs.Prelude.{Bool, nat_lt, nat_le, if◌then◌else◌}
use Rattle.std.specs.Int.{w16}
use Rattle.std.proofs.lemmas.Bool.{cases_lt, le-leb, lt-leb}
use Rattle.pdb_container.specs.Fault.{Fault, SymbolTooShort, ◌>>=◌, refuse}
use Rattle.pdb_container.specs.Fields.{number_at, bytes_of}
use Rattle.pdb_symbol_records.specs.Kinds.{is_padding}
use Rattle.pdb_container.specs.Listing.{before, ending}
use Rattle.pdb_symbol_records.specs.Symbols.{Symbol, kind_of, symbol_at, found_or, next_within, next}
use Rattle.pdb_symbol_records.specs.Symbols.{next_by_step, symbol_before, symbols_within, symbols_from}
use Rattle.pdb_symbol_records.specs.Symbols.{IsFound}

-- ---- what stands at a place

-- what is read there
pub record IsRead (bytes : List ℕ) (place : ℕ) (s : Symbol) (behind : ℕ) : Type 0 where
  pub here : s.index ≡ place
  pub long : 2 ≤ length s.bytes
  pub behind_it : behind ≡ place + 2 + length s.bytes
  pub within : behind ≤ length bytes

bytes_taken : (n : ℕ) (bytes left part : List ℕ) → bytes_of n bytes ≡ Ok (part, left)
    → (length part ≡ n) × (n ≤ length bytes)
bytes_taken n bytes left part read = grind (arith, length-take {A = ℕ})

number_taken : (bytes left : List ℕ) (n : ℕ) → number_at w16 bytes ≡ Ok (n, left)
    → length left + 2 ≡ length bytes
number_taken bytes left n read = grind (arith, length-drop {A = ℕ})

long_enough : (n : ℕ) (r : Result (Symbol × ℕ) Fault) (x : Symbol × ℕ)
    → (refuse (nat_lt n 2) SymbolTooShort >>= λ long. r) ≡ Ok x → (2 ≤ n) × (r ≡ Ok x)
long_enough n r x read = grind arith

-- the bytes after a length
abbrev body_at : ℕ → ℕ → List ℕ → Result (Symbol × ℕ) Fault
body_at place size left = bytes_of size left
    >>= λ body. Ok (record { index = place; bytes = body.0 }, place + 2 + size)

body_read : (bytes left : List ℕ) (place size : ℕ) (found : Symbol × ℕ)
    → length left + 2 ≡ length (drop place bytes) → 2 ≤ size → body_at place size left ≡ Ok found
    → IsRead bytes place found.0 found.1
body_read bytes left place size found number long =
    elim (bytes_of size left) as (λ (r : Result (List ℕ × List ℕ) Fault).
    bytes_of size left ≡ r
    → (r >>= λ body. Ok (record { index = place; bytes = body.0 }, place + 2 + size)) ≡ Ok found
    → IsRead bytes place found.0 found.1) [
      | Ok body ↦ λ taken same.
          let t = bytes_taken size left body.1 body.0 taken in
          let read : Symbol × ℕ = (record { index = place; bytes = body.0 }, place + 2 + size) in
          let pair : read ≡ found = cc in
          let len : length body.0 ≡ size = t.0 in
          let enough : size ≤ length left = t.1 in
          let here : IsRead bytes place read.0 read.1 =
          record {
            here = refl;
            long = omega arith;
            behind_it = omega arith;
            within = omega (arith, length-drop place bytes);
          } in
          subst (λ (x : Symbol × ℕ). IsRead bytes place x.0 x.1) pair here
      | Err e ↦ λ taken same. absurd (cc)
    ] refl

read_at : (bytes : List ℕ) (place : ℕ) (found : Symbol × ℕ) → symbol_at bytes place ≡ Ok found
    → IsRead bytes place found.0 found.1
unfolding symbol_at
read_at bytes place found =
    elim (number_at w16 (drop place bytes)) as (λ (r : Result (ℕ × List ℕ) Fault).
    number_at w16 (drop place bytes) ≡ r
    → (r >>= λ size. refuse (nat_lt size.0 2) SymbolTooShort
    >>= λ long. body_at place size.0 size.1) ≡ Ok found → IsRead bytes place found.0 found.1) [
      | Ok size ↦ λ number read.
          let more = long_enough size.0 (body_at place size.0 size.1) found read in
          body_read bytes size.1 place size.0 found
          (number_taken (drop place bytes) size.1 size.0 number) more.0 more.1
      | Err e ↦ λ number read. absurd (cc)
    ] refl

pub is_read : (bytes : List ℕ) (place : ℕ) (s : Symbol) (behind : ℕ)
    → symbol_at bytes place ≡ Ok (s, behind) → IsRead bytes place s behind
is_read bytes place s behind read = read_at bytes place (s, behind) read

-- the place after a symbol lies past its own
pub behind_further : (bytes : List ℕ) (place : ℕ) (s : Symbol) (behind : ℕ)
    → symbol_at bytes place ≡ Ok (s, behind) → place < behind
behind_further bytes place s behind read =
    let r = is_read bytes place s behind read in
    omega arith

-- the place after a symbol lies within the list
pub behind_within : (bytes : List ℕ) (place : ℕ) (s : Symbol) (behind : ℕ)
    → symbol_at bytes place ≡ Ok (s, behind) → behind ≤ length bytes
behind_within bytes place s behind read = (is_read bytes place s behind read).within

-- ---- the first symbol from a place on

-- what is found after a place counts, and not in how many steps
same_step : (n m : ℕ) (bytes : List ℕ) (place : ℕ)
    → ((behind : ℕ) → place < behind → next_within n bytes behind ≡ next_within m bytes behind)
    → (symbol_at bytes place >>= found_or (next_within n bytes))
    ≡ (symbol_at bytes place >>= found_or (next_within m bytes))
same_step n m bytes place same =
    elim (symbol_at bytes place) as (λ (r : Result (Symbol × ℕ) Fault).
    symbol_at bytes place ≡ r → (r >>= found_or (next_within n bytes))
    ≡ (r >>= found_or (next_within m bytes))) [
      | Ok read ↦ λ e.
          ap (λ (further : Result (Option (Symbol × ℕ)) Fault). if is_padding (kind_of read.0)
          then further else Ok (Some read))
          (same read.1 (behind_further bytes place read.0 read.1 e))
      | Err e ↦ λ e. refl
    ] refl

-- steps past the number of places change nothing
same_next : (n m : ℕ) (bytes : List ℕ) (place : ℕ) → length bytes - place ≤ n
    → length bytes - place ≤ m → next_within n bytes place ≡ next_within m bytes place
unfolding next_within
same_next zero zero bytes place enough enough' = refl
same_next zero (suc m) bytes place enough enough' =
    rw (le-leb (length bytes) place (omega arith)) refl
same_next (suc n) zero bytes place enough enough' =
    rw (le-leb (length bytes) place (omega arith)) refl
same_next (suc n) (suc m) bytes place enough enough' =
    elim (cases_lt place (length bytes)) [
      | inl lt ↦ rw (lt-leb (length bytes) place lt)
          (same_step n m bytes place
          (λ behind further. same_next n m bytes behind (omega arith) (omega arith)))
      | inr le ↦ rw (le-leb (length bytes) place le) refl
    ]

within_step : (n m : ℕ) (bytes : List ℕ) (place : ℕ) → length bytes - place ≤ n
    → length bytes - place ≤ suc m
    → next_within n bytes place ≡ (if nat_le (length bytes) place then Ok None
    else (symbol_at bytes place >>= found_or (next_within m bytes)))
unfolding next_within
within_step n m bytes place enough enough' = same_next n (suc m) bytes place enough enough'

-- the search from a place, by what stands there
pub next_steps : (bytes : List ℕ) (place : ℕ) → next bytes place ≡ next_by_step bytes place
unfolding next
next_steps bytes place = within_step (length bytes) (length bytes) bytes place (omega arith)
    (omega arith)

-- at the list's end and past it no symbol is found
pub next_past : (bytes : List ℕ) (place : ℕ) → length bytes ≤ place → next bytes place ≡ Ok None
next_past bytes place past = next_steps bytes place ∙ rw (le-leb (length bytes) place past) refl

pub next_fault : (bytes : List ℕ) (place : ℕ) (e : Fault) → place < length bytes
    → symbol_at bytes place ≡ Err e → next bytes place ≡ Err e
next_fault bytes place e there read = next_steps bytes place
    ∙ rw (lt-leb (length bytes) place there, read) refl

-- a symbol that stands there and is no padding is found
pub next_found : (bytes : List ℕ) (place : ℕ) (s : Symbol) (behind : ℕ) → place < length bytes
    → symbol_at bytes place ≡ Ok (s, behind) → is_padding (kind_of s) ≡ false
    → next bytes place ≡ Ok (Some (s, behind))
next_found bytes place s behind there read is =
    next_steps bytes place ∙ rw (lt-leb (length bytes) place there, read, is) refl

-- after padding the search goes on
pub next_behind : (bytes : List ℕ) (place : ℕ) (s : Symbol) (behind : ℕ) → place < length bytes
    → symbol_at bytes place ≡ Ok (s, behind) → is_padding (kind_of s) ≡ true
    → next bytes place ≡ next bytes behind
next_behind bytes place s behind there read is =
    next_steps bytes place ∙ rw (lt-leb (length bytes) place there, read, is) refl

-- a symbol that is refused is the search's fault
pub next_refused : (bytes : List ℕ) (place : ℕ) (e : Fault)
    (total : Result (Option (Symbol × ℕ)) Fault) → place < length bytes
    → symbol_at bytes place ≡ Err e → next bytes place ≡ total → total ≡ Err e
next_refused bytes place e total there read so_far =
    sym so_far ∙ next_fault bytes place e there read

-- ---- what was found

record IsAhead (bytes : List ℕ) (place : ℕ) (found : Symbol × ℕ) : Type 0 where
  past : place ≤ found.0.index
  stands : symbol_at bytes found.0.index ≡ Ok found
  is_symbol : is_padding (kind_of found.0) ≡ false

found_here : (bytes : List ℕ) (place : ℕ) (read found : Symbol × ℕ) → symbol_at bytes place
    ≡ Ok read → is_padding (kind_of read.0) ≡ false → read ≡ found → IsAhead bytes place found
found_here bytes place read found e is same =
    let r = is_read bytes place read.0 read.1 e in
    let here : IsAhead bytes place read =
    record {
      past = omega arith;
      stands = subst (λ (i : ℕ). symbol_at bytes i ≡ Ok read) (sym r.here)
          e;
      is_symbol = is;
    } in
    subst (λ (x : Symbol × ℕ). IsAhead bytes place x) same here

found_behind : (bytes : List ℕ) (place behind : ℕ) (found : Symbol × ℕ) → place < behind
    → IsAhead bytes behind found → IsAhead bytes place found
found_behind bytes place behind found further a =
    let past = a.past in
    record { past = omega arith; stands = a.stands; is_symbol = a.is_symbol }

by_kind : (bytes : List ℕ) (place : ℕ) (read found : Symbol × ℕ)
    (further : Result (Option (Symbol × ℕ)) Fault) (padding : Bool)
    → symbol_at bytes place ≡ Ok read → is_padding (kind_of read.0) ≡ padding
    → (further ≡ Ok (Some found) → IsAhead bytes read.1 found)
    → (if padding then further else Ok (Some read)) ≡ Ok (Some found)
    → IsAhead bytes place found
by_kind bytes place read found further true e is ahead more =
    found_behind bytes place read.1 found (behind_further bytes place read.0 read.1 e) (ahead more)
by_kind bytes place read found further false e is ahead more =
    found_here bytes place read found e is (cc)

by_reading : (n : ℕ) (bytes : List ℕ) (place : ℕ) (found : Symbol × ℕ)
    → ((behind : ℕ) → next_within n bytes behind ≡ Ok (Some found) → IsAhead bytes behind found)
    → (symbol_at bytes place >>= found_or (next_within n bytes)) ≡ Ok (Some found)
    → IsAhead bytes place found
by_reading n bytes place found ahead =
    elim (symbol_at bytes place) as (λ (r : Result (Symbol × ℕ) Fault).
    symbol_at bytes place ≡ r → (r >>= found_or (next_within n bytes)) ≡ Ok (Some found)
    → IsAhead bytes place found) [
      | Ok read ↦ λ e more. by_kind bytes place read found (next_within n bytes read.1)
          (is_padding (kind_of read.0)) e refl (ahead read.1) more
      | Err e ↦ λ read more. absurd (cc)
    ] refl

found_ahead : (n : ℕ) (bytes : List ℕ) (place : ℕ) (found : Symbol × ℕ)
    → next_within n bytes place ≡ Ok (Some found) → IsAhead bytes place found
unfolding next_within
found_ahead zero bytes place found e = absurd (cc)
found_ahead (suc n) bytes place found e =
    elim (cases_lt place (length bytes)) [
      | inl lt ↦ by_reading n bytes place found (λ behind. found_ahead n bytes behind found)
          (rw (lt-leb (length bytes) place lt) at e)
      | inr le ↦ let none = rw (le-leb (length bytes) place le) at e in absurd (cc)
    ]

-- a symbol that is found stands at the place or later, and is found from its index on
pub is_found : (bytes : List ℕ) (place : ℕ) (s : Symbol) (behind : ℕ)
    → next bytes place ≡ Ok (Some (s, behind)) → IsFound bytes place s behind
unfolding next
is_found bytes place s behind e =
    let a = found_ahead (length bytes) bytes place (s, behind) e in
    let r = is_read bytes s.index s behind a.stands in
    record {
      past = a.past;
      stands = a.stands;
      is_symbol = a.is_symbol;
      long = r.long;
      behind_it = r.behind_it;
      within = r.within;
      again = next_found bytes s.index s behind (omega arith) a.stands a.is_symbol;
    }

-- ---- the symbols from a place on

same_followed : (n m : ℕ) (bytes : List ℕ) (place : ℕ)
    → ((behind : ℕ) → place < behind → symbols_within n bytes behind
    ≡ symbols_within m bytes behind)
    → symbol_before (symbols_within n bytes) (next bytes place)
    ≡ symbol_before (symbols_within m bytes) (next bytes place)
same_followed n m bytes place same =
    elim (next bytes place) as (λ (r : Result (Option (Symbol × ℕ)) Fault). next bytes place ≡ r
    → symbol_before (symbols_within n bytes) r ≡ symbol_before (symbols_within m bytes) r) [
      | Ok (Some found) ↦ λ e.
          let f = is_found bytes place found.0 found.1 e in
          let past = f.past in
          let behind_it = f.behind_it in
          ap (before found.0) (same found.1 (omega arith))
      | Ok None ↦ λ e. refl
      | Err e ↦ λ read. refl
    ] refl

same_symbols : (n m : ℕ) (bytes : List ℕ) (place : ℕ) → length bytes - place ≤ n
    → length bytes - place ≤ m → symbols_within n bytes place ≡ symbols_within m bytes place
unfolding symbols_within
same_symbols zero zero bytes place enough enough' = refl
same_symbols zero (suc m) bytes place enough enough' = rw (next_past bytes place (omega arith)) refl
same_symbols (suc n) zero bytes place enough enough' = rw (next_past bytes place (omega arith)) refl
same_symbols (suc n) (suc m) bytes place enough enough' =
    same_followed n m bytes place
    (λ behind further. same_symbols n m bytes behind (omega arith) (omega arith))

from_step : (n m : ℕ) (bytes : List ℕ) (place : ℕ) → length bytes - place ≤ n
    → length bytes - place ≤ suc m → symbols_within n bytes place
    ≡ symbol_before (symbols_within m bytes) (next bytes place)
unfolding symbols_within
from_step n m bytes place enough enough' = same_symbols n (suc m) bytes place enough enough'

-- the symbols from a place on, by the search from there
pub symbols_steps : (bytes : List ℕ) (place : ℕ)
    → symbols_from bytes place ≡ symbol_before (symbols_from bytes) (next bytes place)
unfolding symbols_from
symbols_steps bytes place = from_step (length bytes) (length bytes) bytes place (omega arith)
    (omega arith)

-- a symbol that is found stands before those after it
pub symbols_more : (bytes : List ℕ) (place : ℕ) (s : Symbol) (behind : ℕ) → next bytes place
    ≡ Ok (Some (s, behind)) → symbols_from bytes place ≡ before s (symbols_from bytes behind)
symbols_more bytes place s behind e = symbols_steps bytes place
    ∙ ap (symbol_before (symbols_from bytes)) e

-- where none is found the symbols end
pub symbols_end : (bytes : List ℕ) (place : ℕ) → next bytes place ≡ Ok None
    → symbols_from bytes place ≡ ending None
symbols_end bytes place e = symbols_steps bytes place ∙ ap (symbol_before (symbols_from bytes)) e

-- where the search has a fault the symbols end with it
pub symbols_fault : (bytes : List ℕ) (place : ℕ) (fault : Fault) → next bytes place ≡ Err fault
    → symbols_from bytes place ≡ ending (Some fault)
symbols_fault bytes place fault e = symbols_steps bytes place
    ∙ ap (symbol_before (symbols_from bytes)) e

-- at the list's end and past it there are no symbols
pub symbols_past : (bytes : List ℕ) (place : ℕ) → length bytes ≤ place
    → symbols_from bytes place ≡ ending None
symbols_past bytes place past = symbols_end bytes place (next_past bytes place past)
