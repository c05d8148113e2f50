-- The number of symbols of a kind.
use Rattle.std.specs.Prelude.{◌≡◌, ℕ, ◌+◌, ◌-◌, ◌^◌, Bool, List, [], ◌∷◌, map, min, Option, None, Some}
use Rattle.std.specs.Prelude.{if◌then◌else◌}
use Rattle.std.specs.List.{sum_by}
use Rattle.pdb_symbol_records.specs.Iteration.{SymbolIteration, symbols_left}
use Rattle.pdb_symbol_records.specs.Symbols.{kind_of}

-- the kinds of the symbols that are still to come
abbrev pub kinds_left : SymbolIteration → List ℕ
kinds_left it = map kind_of (symbols_left it).items

-- the number of kinds that pass a test
abbrev pub how_many : (ℕ → Bool) → List ℕ → ℕ
how_many test kinds = sum_by (λ k. if test k then 1 else 0) kinds

-- a count that was raised by the number of the symbols still to come whose kind passes a test; at
-- most 2^64 - 1
abbrev pub count_after : ℕ → (ℕ → Bool) → SymbolIteration → ℕ
count_after count test it = min (2 ^ 64 - 1) (count + how_many test (kinds_left it))

-- the first of kinds, and the kinds after it; none where there is none
abbrev pub GivesKind : List ℕ → Option ℕ → List ℕ → Type 0
GivesKind old None new = old ≡ []
GivesKind old (Some kind) new = old ≡ kind ∷ new
