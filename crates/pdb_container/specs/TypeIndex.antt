-- Indices of types as numbers.
use Rattle.std.specs.Prelude.{◌≡◌, ℕ, ◌<◌, ◌^◌}
use Rattle.std.proofs.Common.{ap}
use Rattle.pdb_container.specs.declared.index.TypeIndex.{TypeIndex}

-- the index of a type, by its number
abbrev pub type_index : ℕ → TypeIndex
type_index n = record { 0 = n }

-- an index with a number's value is that number's index
pub type_index_from : (n : ℕ) (x : TypeIndex) → n < 2 ^ 32 → x.0 ≡ n → x ≡ type_index n
type_index_from n x h e = ap type_index e

-- a number that is an index's value is that value
pub type_index_into : (x : TypeIndex) (n : ℕ) → n ≡ x.0 → n ≡ x.0
type_index_into x n e = e
