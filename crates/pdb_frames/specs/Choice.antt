-- The parts that a context goes over, and the function that it chooses at a place.
use Rattle.std.specs.Prelude.{◌≡◌, ℕ, ◌+◌, ◌-◌, Bool, false, List, [], ◌∷◌, ◌==◌, Option, None}
use Rattle.std.specs.Prelude.{Some, option_map, option_and_then, if◌then◌else◌}
use Rattle.pdb_addresses.specs.declared.internal_section_offset.PdbInternalSectionOffset.{
  PdbInternalSectionOffset,
}
use Rattle.pdb_addresses.specs.Addresses.{Map, inner_place, outer_of_place}
use Rattle.pdb_addresses.specs.Numbers.{in_32_bits}
use Rattle.pdb_addresses.specs.Places.{internal_place}
use Rattle.pdb_contributions.specs.declared.contribution.ModuleSectionContribution.{
  ModuleSectionContribution,
}
use Rattle.pdb_contributions.specs.MergedContributions.{holder}
use Rattle.pdb_contributions.specs.Publics.{PublicFunction, public_exactly, public_over}
use Rattle.pdb_contributions.specs.Publics.{next_public}
use Rattle.pdb_known_modules.specs.KnownModules.{ModuleData, procedure_if_numbered, procedures_in}
use Rattle.pdb_module_data.specs.Procedures.{Procedure, over}

-- the parts that every question goes over: the address map, what modules hold, the public list, and
-- the string table, if there is one
pub record Parts : Type 0 where
  pub map : Map
  pub contributions : List ModuleSectionContribution
  pub publics : List PublicFunction
  pub names : Option (List ℕ)

-- a chosen function: a procedure, or an entry of the public list
pub data Chosen : Type 0 where
  Proc : Procedure → Chosen
  Public : PublicFunction → Chosen

-- a procedure before a public entry
abbrev pub chosen_of : Option Procedure → Option PublicFunction → Option Chosen
chosen_of (Some q) f = Some (Proc q)
chosen_of None f = option_map Public f

-- the function that is chosen at a place that a contribution holds, from the procedures of its
-- module: the procedure over the place, or else the public entry of the place, unless the entry
-- lies before the contribution
abbrev pub chosen : Parts → List Procedure → ModuleSectionContribution
    → PdbInternalSectionOffset → Option Chosen
chosen p procedures c place =
    chosen_of (over procedures place) (public_over p.publics c.start_offset place)

-- the same from the module's data, which has no procedures where it isn't there
abbrev pub chosen_in : Parts → Option ModuleData → ModuleSectionContribution
    → PdbInternalSectionOffset → Option Chosen
chosen_in p known c place = chosen p (procedures_in known) c place

-- a number is the index of the procedure over a place, if there is one
abbrev pub NumbersOver : List Procedure → Option ℕ → PdbInternalSectionOffset → Type 0
NumbersOver procedures number place =
    procedure_if_numbered procedures number ≡ over procedures place

-- the place at which a chosen function begins

abbrev pub start_of : Chosen → PdbInternalSectionOffset
start_of (Proc q) = q.offset
start_of (Public f) = f.start_offset

-- the image address at which a chosen function begins, if it has one
abbrev pub start_address : Parts → Chosen → Option ℕ
start_address p c = outer_of_place p.map (start_of c).section (start_of c).offset

-- ---- names

-- whether a name is decorated: it begins with a question mark
abbrev pub is_decorated : List ℕ → Bool
is_decorated [] = false
is_decorated (byte ∷ name) = byte == 0x3f

-- a name that may be there, if it is decorated
abbrev pub if_decorated : Option (List ℕ) → Option (List ℕ)
if_decorated None = None
if_decorated (Some name) = if is_decorated name then Some name else None

-- the decorated public name at exactly a place
abbrev pub decorated_at : Parts → PdbInternalSectionOffset → Option (List ℕ)
decorated_at p place = if_decorated (option_and_then (λ f. f.name) (public_exactly p.publics place))

-- ---- ends

-- the distance from a public entry to the next one in its section
abbrev pub public_length : Parts → PublicFunction → Option ℕ
public_length p f =
    option_map (λ next. (next.start_offset).offset - (f.start_offset).offset)
    (next_public p.publics f.start_offset)

-- the length of a chosen function, if it is known
abbrev pub length_of : Parts → Chosen → Option ℕ
length_of p (Proc q) = Some q.len
length_of p (Public f) = public_length p f

-- the end of a function that begins at an image address, from its length; none without a length,
-- and none past 32 bits
abbrev pub end_behind : ℕ → Option ℕ → Option ℕ
end_behind start length = option_and_then (λ n. in_32_bits (start + n)) length

-- the end of a public entry's function; none without a next entry in its section. Where that entry
-- has no image address, there is no function.
abbrev pub public_end : Parts → Option PublicFunction → Option (Option ℕ)
public_end p None = Some None
public_end p (Some next) =
    option_map Some (outer_of_place p.map (next.start_offset).section (next.start_offset).offset)

-- the end of a chosen function that begins at an image address, if it is one
abbrev pub function_end : Parts → Chosen → ℕ → Option (Option ℕ)
function_end p (Proc q) start = Some (in_32_bits (start + q.len))
function_end p (Public f) start = public_end p (next_public p.publics f.start_offset)

-- ---- places

-- the place of an image address
abbrev pub place_of : Parts → ℕ → Option PdbInternalSectionOffset
place_of p a = option_map internal_place (inner_place p.map a)

-- the contribution that holds an address, with its place
abbrev pub held_at : Parts → Option PdbInternalSectionOffset
    → Option (ModuleSectionContribution × PdbInternalSectionOffset)
held_at p None = None
held_at p (Some place) = option_map (λ c. (c, place)) (holder p.contributions place)
