-- The keys that counting run by run adds to a table, and the number of times that it asks.
use Rattle.std.specs.Prelude.{◌≡◌, ℕ, ◌-◌, List, [], Some}
use Rattle.std.specs.declared.cmp.Ordering.{Ordering}
use Rattle.std.specs.declared.ops.Range.{Range}
use Rattle.pdb_addresses.specs.Addresses.{Map}
use Rattle.pdb_addresses.specs.declared.internal_rva.PdbInternalRva.{PdbInternalRva}
use Rattle.pdb_addresses.specs.declared.internal_section_offset.PdbInternalSectionOffset.{
  PdbInternalSectionOffset,
}
use Rattle.pdb_owners.specs.Counts.{answer_along, answer_at, begins, begins_along, count}
use Rattle.pdb_owners.specs.Counts.{counted_at, pieces}
use Rattle.pdb_owners.specs.Databases.{Keyed, place_of}
use Rattle.pdb_owners.specs.Table.{IsCounted, IsWithin, count_in}

-- ---- a range of addresses of the image

-- a table has for each answer the number of addresses from s on and before e that have it
abbrev pub AreCounts : {K A : Type 0} → (A → A → Ordering) → List (A × ℕ) → Map → Keyed K A
    → ℕ → ℕ → Type 0
AreCounts {K} {A} cmp table m keyed s e =
    (f : A) → count_in cmp table f ≡ count cmp m keyed.places s e f

-- a table of keys has the addresses from s on and before e, each with its answer
abbrev pub CountsAddresses : {K A : Type 0} → Map → Keyed K A → ℕ → ℕ → List (K × ℕ) → Type 0
CountsAddresses m keyed s e table =
    IsCounted keyed.answer_of (counted_at m keyed.places) s (e - s) [] table

-- the number of pieces that begin in the internal ranges of the addresses from s on and before e
abbrev pub asked_pieces : {K A : Type 0} → Map → Keyed K A → ℕ → ℕ → ℕ
asked_pieces m keyed s e = pieces m keyed.places s e

-- ---- internal addresses

-- n internal addresses from one on, each with its answer, have come to a table of keys
abbrev pub CountsFrom : {K A : Type 0} → Map → Keyed K A → PdbInternalRva → List (K × ℕ)
    → List (K × ℕ) → ℕ → Type 0
CountsFrom m keyed x old new n =
    IsCounted keyed.answer_of (answer_at m.internal keyed.places) x.0 n old new

-- a number rose by at most as many of n internal addresses from one on as begin a piece
abbrev pub RisesFrom : {K A : Type 0} → Map → Keyed K A → PdbInternalRva → ℕ → ℕ → ℕ → Type 0
RisesFrom m keyed x old new n = IsWithin (begins m.internal keyed.places x.0) x.0 n old new

-- the addresses of a range have come to a table of keys, each with its answer
abbrev pub CountsRange : {K A : Type 0} → Map → Keyed K A → Range PdbInternalRva → List (K × ℕ)
    → List (K × ℕ) → Type 0
CountsRange m keyed r old new = CountsFrom m keyed r.start old new (r.end.0 - r.start.0)

-- a number rose by at most as many addresses of a range as begin a piece
abbrev pub RisesOver : {K A : Type 0} → Map → Keyed K A → Range PdbInternalRva → ℕ → ℕ → Type 0
RisesOver m keyed r old new = RisesFrom m keyed r.start old new (r.end.0 - r.start.0)

-- ---- places of a section

-- n places from one on, each with its answer, have come to a table of keys
abbrev pub CountsAlong : {K A : Type 0} → Keyed K A → PdbInternalSectionOffset → List (K × ℕ)
    → List (K × ℕ) → ℕ → Type 0
CountsAlong keyed p old new n =
    IsCounted keyed.answer_of (answer_along keyed.places (Some (place_of p))) 0 n old new

-- a number rose by at most as many of n places from one on as begin a piece
abbrev pub RisesAlong : {K A : Type 0} → Keyed K A → PdbInternalSectionOffset → ℕ → ℕ → ℕ → Type 0
RisesAlong keyed p old new n =
    IsWithin (begins_along keyed.places (Some (place_of p))) 0 n old new
