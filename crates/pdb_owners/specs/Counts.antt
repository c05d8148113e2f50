-- The number of addresses of each answer, one by one; and the number of pieces of a range.
use Rattle.std.specs.Prelude.{ℕ, zero, suc, ◌+◌, ◌-◌, ◌^◌, Bool, false, not, ◌==◌, ◌&&◌, ◌||◌}
use Rattle.std.specs.Prelude.{is_some, List, [], ◌∷◌, Option, None, Some, option_and_then}
use Rattle.std.specs.Prelude.{if◌then◌else◌}
use Rattle.std.specs.declared.ops.Range.{Range}
use Rattle.pdb_addresses.specs.declared.internal_rva.PdbInternalRva.{PdbInternalRva}
use Rattle.pdb_addresses.specs.declared.sections.ImageSectionHeader.{ImageSectionHeader}
use Rattle.pdb_addresses.specs.Addresses.{Map, inner, inner_place}
use Rattle.pdb_addresses.specs.Places.{Place}
use Rattle.pdb_addresses.specs.Ranges.{internal_ranges}
use Rattle.pdb_addresses.specs.SectionRun.{place_on}
pub use Rattle.pdb_addresses.specs.SectionRun.{is_section_bound}
use Rattle.pdb_addresses.specs.Sections.{place}
use Rattle.std.specs.declared.cmp.Ordering.{Ordering}
use Rattle.pdb_owners.specs.Answers.{is_answer}
use Rattle.pdb_owners.specs.Databases.{Database}

-- the number of numbers that pass a test, of so many from one on
unfoldable pub how_many : (ℕ → Bool) → ℕ → ℕ → ℕ
how_many test from zero = 0
how_many test from (suc n) = (if test from then 1 else 0) + how_many test (from + 1) n

-- ---- addresses of the image, one by one

-- the answer at an address
abbrev pub answer_of : {A : Type 0} → Map → Database A → ℕ → Option A
answer_of m db a = option_and_then db.answer (inner_place m a)

-- an address that is 0xffffffff
abbrev pub is_last : Option ℕ → Bool
is_last None = false
is_last (Some x) = x == 2 ^ 32 - 1

-- the answer that an address counts under; one that becomes 0xffffffff counts under nothing
abbrev pub counted_at : {A : Type 0} → Map → Database A → ℕ → Option A
counted_at m db a = if is_last (inner m a) then None else answer_of m db a

-- the number of addresses from s on and before e that have an answer
abbrev pub count : {A : Type 0} → (A → A → Ordering) → Map → Database A → ℕ → ℕ → A → ℕ
count cmp m db s e f = how_many (λ a. is_answer cmp f (counted_at m db a)) s (e - s)

-- the number of addresses that have none
abbrev pub count_of_none : {A : Type 0} → Map → Database A → ℕ → ℕ → ℕ
count_of_none m db s e = how_many (λ a. not (is_some (counted_at m db a))) s (e - s)

-- the number of addresses that have an answer of one database, and none of another one
abbrev pub count_without : {A B : Type 0} → Map → Database A → Database B → ℕ → ℕ → ℕ
count_without m db other s e =
    how_many (λ a. is_some (counted_at m other a) && not (is_some (counted_at m db a))) s (e - s)

-- ---- internal addresses

-- the answer at an internal address
abbrev pub answer_at : {A : Type 0} → List ImageSectionHeader → Database A → ℕ → Option A
answer_at sections db x = option_and_then db.answer (place sections x)

-- whether answers may change at a place
abbrev pub is_bound_in : {A : Type 0} → Database A → Option Place → Bool
is_bound_in db None = false
is_bound_in db (Some p) = db.is_bound p

-- whether a piece begins at an internal address of a range with this first one
abbrev pub begins : {A : Type 0} → List ImageSectionHeader → Database A → ℕ → ℕ → Bool
begins sections db first x =
    (x == first) || (is_section_bound sections x || is_bound_in db (place sections x))

-- the number of addresses of ranges that pass a test, which is given the first of their range, too
abbrev pub in_ranges : (ℕ → ℕ → Bool) → List (Range PdbInternalRva) → ℕ
in_ranges test [] = 0
in_ranges test (r ∷ ranges) =
    how_many (test r.start.0) r.start.0 (r.end.0 - r.start.0) + in_ranges test ranges

-- the number of pieces that begin in the internal ranges of the addresses from s on and before e
abbrev pub pieces : {A : Type 0} → Map → Database A → ℕ → ℕ → ℕ
pieces m db s e = in_ranges (begins m.internal db) (internal_ranges m.to_internal s e)

-- ---- along the places from one on, or along no places

-- the answer at the place so many bytes after it
abbrev pub answer_along : {A : Type 0} → Database A → Option Place → ℕ → Option A
answer_along db p k = option_and_then db.answer (place_on k p)

-- whether a piece begins at the place so many bytes after it
abbrev pub begins_along : {A : Type 0} → Database A → Option Place → ℕ → Bool
begins_along db p k = (k == 0) || is_bound_in db (place_on k p)
