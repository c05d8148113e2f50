-- Indices of ids as numbers.
use Rattle.std.specs.Prelude.{◌≡◌, ℕ, ◌<◌, ◌^◌}
use Rattle.std.proofs.Common.{ap}
use Rattle.pdb_container.specs.declared.index.IdIndex.{IdIndex}

-- the index of an id, by its number
abbrev pub id_index : ℕ → IdIndex
id_index n = record { 0 = n }

-- an index with a number's value is that number's index
pub id_index_from : (n : ℕ) (x : IdIndex) → n < 2 ^ 32 → x.0 ≡ n → x ≡ id_index n
id_index_from n x h e = ap id_index e

-- a number that is an index's value is that value
pub id_index_into : (x : IdIndex) (n : ℕ) → n ≡ x.0 → n ≡ x.0
id_index_into x n e = e
