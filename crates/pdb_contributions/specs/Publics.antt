-- The public list: names and placeholders by the places at which functions may begin.
-- The rules by which entries are put into it, and by which one of a place counts, are the
-- pdb-addr2line crate's.
use Rattle.std.specs.Prelude.{◌≡◌, ℕ, zero, suc, ◌+◌, ◌<◌, ◌≤◌, Bool, true, false, length, ◌&&◌}
use Rattle.std.specs.Prelude.{◌||◌, not, List, [], ◌∷◌, ◌++◌, map, is_some, IsTrue, slice_get}
use Rattle.std.specs.Prelude.{nat_lt, nat_le, ◌==◌, Option, None, Some, Result, Ok, if◌then◌else◌}
use Rattle.std.specs.Option.{option_or}
use Rattle.std.specs.List.{find, flat_map}
use Rattle.pdb_container.specs.Fault as container
use Rattle.pdb_container.specs.Fault.{◌>>=◌}
use Rattle.pdb_container.specs.Listing.{Listing, whole}
use Rattle.pdb_addresses.specs.declared.sections.ImageSectionHeader.{ImageSectionHeader}
use Rattle.pdb_addresses.specs.declared.internal_section_offset.PdbInternalSectionOffset.{
  PdbInternalSectionOffset,
}
use Rattle.pdb_addresses.specs.Sections.{may_execute}
use Rattle.pdb_symbol_records.specs.Forms as forms
use Rattle.pdb_symbol_records.specs.Forms.{SymbolForm, PublicForm}
use Rattle.pdb_symbol_records.specs.Records.{symbol_form_of}
use Rattle.pdb_symbol_records.specs.Symbols.{Symbol}
use Rattle.pdb_contributions.specs.MergedContributions.{is_executable}

-- an entry of the public list: the place at which a function may begin, and its name as it is
-- stored; a placeholder has no name
pub record PublicFunction : Type 0 where
  pub start_offset : PdbInternalSectionOffset
  pub name : Option (List ℕ)

-- ---- the entries that are put into the list

-- a place without a name
abbrev pub placeholder : PdbInternalSectionOffset → PublicFunction
placeholder p = record { start_offset = p; name = None }

-- the form of a public symbol, if a symbol is one
abbrev pub as_public : Result SymbolForm container.Fault → Option PublicForm
as_public (Ok (forms.Public p)) = Some p
as_public other = None

-- a public symbol's entry, if code may run in its section
abbrev pub entry_of_public : List ImageSectionHeader → Option PublicForm → List PublicFunction
entry_of_public sections None = []
entry_of_public sections (Some p) =
    if is_executable sections (p.offset).section
    then record { start_offset = p.offset; name = Some p.name } ∷ []
    else []

-- the entries that a symbol adds to the list
abbrev pub entry_of_symbol : List ImageSectionHeader → Symbol → List PublicFunction
entry_of_symbol sections s = entry_of_public sections (as_public (symbol_form_of s))

-- the entries of symbols: of the public symbols that can be read and lie in sections in which code
-- may run
abbrev pub entries_of_symbols : List ImageSectionHeader → List Symbol → List PublicFunction
entries_of_symbols sections symbols = flat_map (entry_of_symbol sections) symbols

-- the entries of symbols, which have to be there to their end
abbrev pub entries_read : List ImageSectionHeader → Listing Symbol
    → Result (List PublicFunction) container.Fault
entries_read sections symbols = whole symbols >>= λ all. Ok (entries_of_symbols sections all)

-- whether symbols are there to their end
abbrev pub are_whole : Listing Symbol → Result (Unit {0}) container.Fault
are_whole symbols = whole symbols >>= λ all. Ok tt

-- placeholders at places
abbrev pub placeholders : List PdbInternalSectionOffset → List PublicFunction
placeholders places = map placeholder places

-- a placeholder at the end of the section with that index, if code may run in it
abbrev pub section_end : ℕ → ImageSectionHeader → List PublicFunction
section_end number s =
    if may_execute s.characteristics && nat_le number 65535
    then placeholder (record { section = number; offset = s.virtual_size }) ∷ []
    else []

-- placeholders at the ends of sections from a number on
abbrev pub section_ends_from : ℕ → List ImageSectionHeader → List PublicFunction
section_ends_from number [] = []
section_ends_from number (s ∷ sections) = section_end number s
    ++ section_ends_from (number + 1) sections

-- placeholders at the ends of the sections in which code may run
abbrev pub section_ends : List ImageSectionHeader → List PublicFunction
section_ends sections = section_ends_from 1 sections

-- ---- one entry a place

-- a place before another one, by section and offset
abbrev pub is_before : PdbInternalSectionOffset → PdbInternalSectionOffset → Bool
is_before a b = nat_lt a.section b.section || ((a.section == b.section) && nat_lt a.offset b.offset)

-- whether an entry has a name
abbrev pub is_named : PublicFunction → Bool
is_named f = is_some f.name

-- the first of two entries of a place, unless the second alone has a name
abbrev pub preferred : PublicFunction → PublicFunction → PublicFunction
preferred first second = if not (is_named first) && is_named second then second else first

-- an entry among others after it, which are in order and one a place
abbrev pub with_entry : PublicFunction → List PublicFunction → List PublicFunction
with_entry f [] = f ∷ []
with_entry f (other ∷ others) =
    if is_before f.start_offset other.start_offset then f ∷ other ∷ others
    else (if is_before other.start_offset f.start_offset then other ∷ with_entry f others
    else preferred f other ∷ others)

-- the public list of entries: by place, one a place, a named one before a placeholder, and then the
-- first
abbrev pub publics_among : List PublicFunction → List PublicFunction
publics_among [] = []
publics_among (f ∷ others) = with_entry f (publics_among others)

-- an entry of another one's place stands in a list, and it has a name if the other one has
abbrev pub StandsNamed : PublicFunction → List PublicFunction → Type 0
StandsNamed f list = (i : ℕ) × (a : PublicFunction) × (slice_get list i ≡ Some a)
    × (a.start_offset ≡ f.start_offset) × (IsTrue (is_named f) → IsTrue (is_named a))

-- an entry of each given entry's place stands in a list, and it has a name if the given one has
abbrev pub StandNamed : List PublicFunction → List PublicFunction → Type 0
StandNamed given list =
    (k : ℕ) (f : PublicFunction) → slice_get given k ≡ Some f → StandsNamed f list

-- the public list of entries, of placeholders at places, and of placeholders at sections' ends
abbrev pub public_list : List PublicFunction → List PdbInternalSectionOffset
    → List ImageSectionHeader → List PublicFunction
public_list entries starts sections =
    publics_among (entries ++ placeholders starts ++ section_ends sections)

-- the public list: public symbols, then placeholders at the starts of contributions, then
-- placeholders at sections' ends

abbrev pub publics : List ImageSectionHeader → List Symbol → List PdbInternalSectionOffset
    → List PublicFunction
publics sections symbols starts =
    public_list (entries_of_symbols sections symbols) starts sections

-- ---- looking up

-- an entry begins at a place
abbrev pub is_at : PdbInternalSectionOffset → PublicFunction → Bool
is_at p f = ((f.start_offset).section == p.section) && ((f.start_offset).offset == p.offset)

-- the entry at exactly a place
abbrev pub public_exactly : List PublicFunction → PdbInternalSectionOffset → Option PublicFunction
public_exactly list p = find (is_at p) list

-- an entry begins at a place or before it, in its section
abbrev pub is_at_or_before : PdbInternalSectionOffset → PublicFunction → Bool
is_at_or_before p f = ((f.start_offset).section == p.section)
    && nat_le (f.start_offset).offset p.offset

-- the last entry of a list at a place or before it, in its section
abbrev pub last_at_or_before : List PublicFunction → PdbInternalSectionOffset
    → Option PublicFunction
last_at_or_before [] p = None
last_at_or_before (f ∷ others) p = option_or (last_at_or_before others p)
    (if is_at_or_before p f then Some f else None)

-- an entry that may be there, unless it lies before an offset
abbrev pub not_before : ℕ → Option PublicFunction → Option PublicFunction
not_before start None = None
not_before start (Some f) = if nat_lt (f.start_offset).offset start then None else Some f

-- the entry of a place: the last one at the place or before it, in its section, unless that one
-- lies before the start of the contribution that holds the place
abbrev pub public_over : List PublicFunction → ℕ → PdbInternalSectionOffset → Option PublicFunction
public_over list start p = not_before start (last_at_or_before list p)

-- an entry after a place, in its section
abbrev pub is_behind : PdbInternalSectionOffset → PublicFunction → Bool
is_behind p f = ((f.start_offset).section == p.section) && nat_lt p.offset (f.start_offset).offset

-- the next entry after a place, in its section
abbrev pub next_public : List PublicFunction → PdbInternalSectionOffset → Option PublicFunction
next_public list p = find (is_behind p) list

-- the places at which no entry of a list begins
abbrev pub missing : List PublicFunction → List PdbInternalSectionOffset
    → List PdbInternalSectionOffset
missing list [] = []
missing list (p ∷ places) =
    if is_some (public_exactly list p) then missing list places else p ∷ missing list places

-- an entry, if it is at a place
abbrev pub if_at : PdbInternalSectionOffset → PublicFunction → Option PublicFunction
if_at p f = if is_at p f then Some f else None

-- an entry, if it is in the section of a place
abbrev pub in_section : PdbInternalSectionOffset → PublicFunction → Option PublicFunction
in_section p f = if (f.start_offset).section == p.section then Some f else None

-- ---- looking up in order

-- places ascend strictly
pub record Rises (list : List PublicFunction) : Type 0 where
  pub each : (i j : ℕ) (a b : PublicFunction) → i < j → slice_get list i ≡ Some a
      → slice_get list j ≡ Some b → IsTrue (is_before a.start_offset b.start_offset)

-- that many entries begin at a place or before it, in its section or in one before; the entries
-- after them begin after it
pub record IsSplit (list : List PublicFunction) (p : PdbInternalSectionOffset) (count : ℕ) :
    Type 0 where
  pub bound : count ≤ length list
  pub front : (i : ℕ) (f : PublicFunction) → i < count → slice_get list i ≡ Some f
      → is_before p f.start_offset ≡ false
  pub back : (i : ℕ) (f : PublicFunction) → count ≤ i → slice_get list i ≡ Some f
      → is_before p f.start_offset ≡ true

-- the last of that many entries at the beginning of a list
abbrev pub last_of : List PublicFunction → ℕ → Option PublicFunction
last_of list zero = None
last_of list (suc number) = slice_get list number

-- ---- the public list as it is held: functions, and other places at which functions may begin

-- functions, and placeholders at places, as one public list
abbrev pub joined : List PublicFunction → List PdbInternalSectionOffset → List PublicFunction
joined functions places = publics_among (functions ++ placeholders places)

-- functions and places, each in order and one a place; no function begins at one of the places
pub record StandApart (functions : List PublicFunction) (places : List PdbInternalSectionOffset) :
    Type 0 where
  pub functions_rise : Rises functions
  pub places_rise : Rises (placeholders places)
  pub apart : (p : PdbInternalSectionOffset) → is_some (public_exactly functions p) ≡ true
      → is_some (public_exactly (placeholders places) p) ≡ false

-- of two entries that may be there, the second one if it is the better one
abbrev pub better_of : (PublicFunction → PublicFunction → Bool) → Option PublicFunction
    → Option PublicFunction → Option PublicFunction
better_of better None other = other
better_of better (Some f) None = Some f
better_of better (Some f) (Some g) = if better g f then Some g else Some f

-- an entry begins before another one
abbrev pub begins_before : PublicFunction → PublicFunction → Bool
begins_before f g = is_before f.start_offset g.start_offset

-- an entry begins after another one
abbrev pub begins_after : PublicFunction → PublicFunction → Bool
begins_after f g = is_before g.start_offset f.start_offset

-- the first of two entries that may be there
abbrev pub first_of_two : Option PublicFunction → Option PublicFunction → Option PublicFunction
first_of_two = better_of begins_before

-- the last of two entries that may be there
abbrev pub last_of_two : Option PublicFunction → Option PublicFunction → Option PublicFunction
last_of_two = better_of begins_after
