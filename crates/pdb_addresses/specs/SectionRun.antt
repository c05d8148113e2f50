-- The number of bytes for which the place of an address goes on.
use Rattle.std.specs.Prelude.{ℕ, ◌+◌, ◌-◌, min, Bool, ◌==◌, List, [], ◌∷◌, nat_lt, Option, None}
use Rattle.std.specs.Prelude.{Some, if◌then◌else◌}
use Rattle.std.specs.List.{list_any}
use Rattle.pdb_addresses.specs.declared.sections.ImageSectionHeader.{ImageSectionHeader}
use Rattle.pdb_addresses.specs.Places.{Place}

-- the starts and ends of sections
abbrev pub bounds : List ImageSectionHeader → List ℕ
bounds [] = []
bounds (s ∷ sections) = s.virtual_address ∷ (s.virtual_address + s.virtual_size) ∷ bounds sections

-- whether a section starts or ends at an address
abbrev pub is_section_bound : List ImageSectionHeader → ℕ → Bool
is_section_bound sections x = list_any (λ b. x == b) (bounds sections)

-- the lesser of a number and the distance to a bound, if that lies past the address
abbrev pub nearer : ℕ → ℕ → ℕ → ℕ
nearer address bound far = if nat_lt address bound then min far (bound - address) else far

-- the lesser of a number and the distance to the next bound past an address
abbrev pub up_to_next : List ℕ → ℕ → ℕ → ℕ
up_to_next [] address limit = limit
up_to_next (b ∷ others) address limit = nearer address b (up_to_next others address limit)

-- the place that many bytes further in its section; none stays none
abbrev pub place_on : ℕ → Option Place → Option Place
place_on k None = None
place_on k (Some p) = Some (record { section = p.section; offset = p.offset + k })
