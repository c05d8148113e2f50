-- The answers of a database for places, and runs of one answer.
use Rattle.std.specs.Prelude.{◌≡◌, ℕ, ◌+◌, ◌<◌, ◌≤◌, Bool, true, false, is_some, Option}
use Rattle.std.specs.Prelude.{option_and_then}
use Rattle.pdb_addresses.specs.Places.{Place}
use Rattle.pdb_addresses.specs.declared.internal_section_offset.PdbInternalSectionOffset.{
  PdbInternalSectionOffset,
}

-- the answer at each place, and whether the place is a bound: the start or the end of something by
-- which answers are found
pub record Database (A : Type 0) : Type 0 where
  pub answer : Place → Option A
  pub is_bound : Place → Bool

-- answers by keys: the answer that a key stands for, if there is one, and the answers at places
pub record Keyed (K A : Type 0) : Type 0 where
  pub answer_of : K → Option A
  pub places : Database A

-- a place so many bytes on in its section
abbrev pub on : Place → ℕ → Place
on p k = record { section = p.section; offset = p.offset + k }

-- the answers of a database change at its bounds alone: a place that is no bound has the answer of
-- the place before it in its section
abbrev pub ChangesAtBounds : {A : Type 0} → Database A → Type 0
ChangesAtBounds db = (p : Place) → db.is_bound (on p 1) ≡ false
    → db.answer (on p 1) ≡ db.answer p

-- each place that one database has an answer for has one in another
abbrev pub AnswersWhere : {A B : Type 0} → Database A → Database B → Type 0
AnswersWhere db other = (p : Place) → is_some (other.answer p) ≡ true → is_some (db.answer p) ≡ true

-- an internal place as section and offset
abbrev pub place_of : PdbInternalSectionOffset → Place
place_of p = record { section = p.section; offset = p.offset }

-- a key stands for the answer at an internal place; without a key there is none
abbrev pub IsKeyAt : {K A : Type 0} → Keyed K A → PdbInternalSectionOffset → Option K → Type 0
IsKeyAt keyed p key = option_and_then keyed.answer_of key ≡ (keyed.places).answer (place_of p)

-- n is the lesser of a limit and the distance to the next bound, and all n places have one answer
pub record IsOneRun {A : Type 0} (db : Database A) (p : Place) (limit n : ℕ) : Type 0 where
  pub some : 1 ≤ n
  pub within : n ≤ limit
  pub alike : (k : ℕ) → k < n → db.answer (on p k) ≡ db.answer p
  pub clear : (k : ℕ) → 1 ≤ k → k < n → db.is_bound (on p k) ≡ false
  pub ends : n < limit → db.is_bound (on p n) ≡ true
