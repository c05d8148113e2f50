-- The answers of a symbol file for addresses.
use Rattle.std.specs.Prelude.{ℕ, ◌+◌, ◌&&◌, ◌==◌, nat_eq, zero, suc, Bool, List, [], ◌∷◌, Option}
use Rattle.std.specs.List.{flat_map}
use Rattle.std.specs.Option.{option_eq}
use Rattle.std.specs.Str.{bytes_eq}
use lib.Pointwise.{pointwise}

-- an inlined call: file and line from which a function was called, and its name; 0 for no line
pub record Call : Type 0 where
  pub file : List ℕ
  pub line : ℕ
  pub callee : List ℕ

-- the function, the inlined calls and the place that are told of an address: the function's start,
-- if it is known, and its name; the calls, the outermost one first; file and line of the innermost
-- frame, 0 for no line
pub record Told : Type 0 where
  pub start : Option ℕ
  pub function : List ℕ
  pub calls : List Call
  pub file : List ℕ
  pub line : ℕ

-- an address, and what is told of it
pub record Answer : Type 0 where
  pub address : ℕ
  pub told : Told

-- addresses of which the same is told: the first one, and their number
pub record Piece : Type 0 where
  pub address : ℕ
  pub size : ℕ
  pub told : Told

-- the address after a piece's last one
abbrev pub end_of : Piece → ℕ
end_of p = p.address + p.size

-- so many addresses from one on, and what is told of each
abbrev pub answers_from : ℕ → ℕ → Told → List Answer
answers_from address zero told = []
answers_from address (suc size) told =
    record { address = address; told = told } ∷ answers_from (suc address) size told

-- the addresses of a piece
abbrev pub answers_of : Piece → List Answer
answers_of p = answers_from p.address p.size p.told

-- the addresses of pieces, one after the other
abbrev pub answers_in : List Piece → List Answer
answers_in pieces = flat_map answers_of pieces

abbrev pub same_call : Call → Call → Bool
same_call a b = a.line == b.line && bytes_eq a.file b.file && bytes_eq a.callee b.callee

abbrev pub same_path : List Call → List Call → Bool
same_path = pointwise same_call

-- one function: start and name are the same
abbrev pub same_function : Told → Told → Bool
same_function a b = option_eq nat_eq a.start b.start && bytes_eq a.function b.function

-- a piece goes on with the function of the one before it
abbrev pub continues : Piece → Piece → Bool
continues p q = end_of p == q.address && same_function p.told q.told
