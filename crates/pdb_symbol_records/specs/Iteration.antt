-- An iteration over a list of symbols.
use Rattle.std.specs.Prelude.{ℕ, List, length, Option, None, Some, Result, Ok, Err}
use Rattle.pdb_container.specs.Fault.{Fault}
use Rattle.pdb_container.specs.Listing.{Listing}
use Rattle.pdb_symbol_records.specs.Symbols.{Symbol, next, symbols_from}

-- the list's bytes, and the place from which the next symbol is looked for
pub record SymbolIteration : Type 0 where
  pub bytes : List ℕ
  pub place : ℕ

-- a list of symbols from a place on
abbrev pub iteration_at : List ℕ → ℕ → SymbolIteration
iteration_at bytes place = record { bytes = bytes; place = place }

-- the symbol that is found next, and the place after it
abbrev pub found_next : SymbolIteration → Result (Option (Symbol × ℕ)) Fault
found_next it = next it.bytes it.place

-- the symbol that was found, without the place after it
abbrev pub symbol_of : Result (Option (Symbol × ℕ)) Fault → Result (Option Symbol) Fault
symbol_of (Ok (Some found)) = Ok (Some found.0)
symbol_of (Ok None) = Ok None
symbol_of (Err e) = Err e

-- The iteration after a step: it stands after the symbol; after none and after a fault it stands at
-- the list's end.
abbrev pub symbols_behind : List ℕ → Result (Option (Symbol × ℕ)) Fault → SymbolIteration
symbols_behind bytes (Ok (Some found)) = iteration_at bytes found.1
symbols_behind bytes (Ok None) = iteration_at bytes (length bytes)
symbols_behind bytes (Err e) = iteration_at bytes (length bytes)

-- the symbols that are still to come, and the end of their list
abbrev pub symbols_left : SymbolIteration → Listing Symbol
symbols_left it = symbols_from it.bytes it.place
