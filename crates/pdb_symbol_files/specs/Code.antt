-- The addresses at which code may run, and the answers for them.
use Rattle.std.specs.Prelude.{◌≡◌, ℕ, ◌+◌, ◌-◌, ◌^◌, ◌<◌, ◌≤◌, ◌++◌, ◌&&◌, ◌||◌, Bool, true, List, []}
use Rattle.std.specs.Prelude.{◌∷◌, if◌then◌else◌, min, nat_le, nat_lt, Option, None, Some, zero}
use Rattle.std.specs.Prelude.{suc}
use Rattle.std.specs.List.{All, list_any}
use Rattle.pdb_addresses.specs.declared.sections.ImageSectionHeader.{ImageSectionHeader}
use Rattle.pdb_addresses.specs.Sections.{may_execute}
use Rattle.pdb_owners.specs.Counts.{how_many, is_section_bound}
use Rattle.pdb_symbol_files.specs.declared.addresses.AddressRange.{AddressRange}
use Rattle.pdb_symbol_files.specs.Told.{Answer, Told}

-- ---- addresses

-- a section has an address, below 2^32 - 1
abbrev pub is_in : ImageSectionHeader → ℕ → Bool
is_in s address =
    nat_le s.virtual_address address
    && nat_lt address (min (s.virtual_address + s.virtual_size) (2 ^ 32 - 1))

-- code may run at an address: at one of a section in which code may run
abbrev pub is_code : List ImageSectionHeader → ℕ → Bool
is_code sections address =
    list_any (λ s. may_execute s.characteristics && is_in s address) sections

-- ---- ranges

-- an address lies in a range
abbrev pub is_within : ℕ → AddressRange → Bool
is_within address r = nat_le r.start address && nat_lt address r.end

abbrev pub in_ranges : List AddressRange → ℕ → Bool
in_ranges ranges address = list_any (is_within address) ranges

abbrev pub start_of : AddressRange → ℕ
start_of r = r.start

-- ranges have the addresses at which code may run, and no others
abbrev pub HoldsCode : List AddressRange → List ImageSectionHeader → Type 0
HoldsCode ranges sections = (address : ℕ) → in_ranges ranges address ≡ is_code sections address

-- ranges that have addresses, each after all of the one before, none before an address
abbrev pub AreAscending : ℕ → List AddressRange → Type 0
AreAscending from [] = Unit {0}
AreAscending from (r ∷ ranges) =
    (from ≤ r.start) × (r.start < r.end) × AreAscending r.end ranges

-- ranges begin at addresses that pass a test
abbrev pub BeginAt : (ℕ → Bool) → List AddressRange → Type 0
BeginAt test ranges = All (λ r. test r.start ≡ true) ranges

-- a range begins at an address that passes a test, and ends at one that passes, or at the last one
-- of 32 bits
pub record LiesBetween (test : ℕ → Bool) (r : AddressRange) : Type 0 where
  pub starts : test r.start ≡ true
  pub within : r.end ≤ 2 ^ 32 - 1
  pub ends : r.end < 2 ^ 32 - 1 → test r.end ≡ true

abbrev pub LieBetween : (ℕ → Bool) → List AddressRange → Type 0
LieBetween test ranges = All (LiesBetween test) ranges

-- ---- pieces, where a test says at which addresses one may begin

-- a piece begins at an address at which code may run: where a section begins or ends, or the
-- address passes
abbrev pub begins_piece : List ImageSectionHeader → (ℕ → Bool) → ℕ → Bool
begins_piece sections begins address =
    is_code sections address && (is_section_bound sections address || begins address)

-- the number of pieces of the addresses at which code may run
unfoldable pub pieces_of_code : List ImageSectionHeader → (ℕ → Bool) → ℕ
pieces_of_code sections begins = how_many (begins_piece sections begins) 0 (2 ^ 32 - 1)

-- ---- answers

-- an address with what is told of it, if anything is
abbrev pub answer_if : ℕ → Option Told → List Answer
answer_if address None = []
answer_if address (Some told) = record { address = address; told = told } ∷ []

-- the answers for so many addresses from one on, of those that pass a test
abbrev pub answers_among : (ℕ → Bool) → (ℕ → Option Told) → ℕ → ℕ → List Answer
answers_among test told address zero = []
answers_among test told address (suc count) =
    (if test address then answer_if address (told address) else [])
    ++ answers_among test told (suc address) count

-- the answers for so many addresses from one on
abbrev pub answers_along : (ℕ → Option Told) → ℕ → ℕ → List Answer
answers_along told address count = answers_among (λ _. true) told address count

-- the answers for the addresses at which code may run
unfoldable pub answers_of_code : List ImageSectionHeader → (ℕ → Option Told) → List Answer
answers_of_code sections told = answers_among (is_code sections) told 0 (2 ^ 32 - 1)
