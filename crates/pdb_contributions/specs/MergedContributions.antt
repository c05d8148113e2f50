-- The contributions of modules: the section contributions of the DBI stream that count, merged.
-- The rules by which entries count, merge and are refused are the pdb-addr2line crate's; here an
-- end past 32 bits is cut.
use Rattle.std.specs.Prelude.{◌≡◌, ℕ, ◌+◌, ◌-◌, ◌^◌, Bool, false, ◌&&◌, min, List, [], ◌∷◌, ◌++◌, map}
use Rattle.std.specs.Prelude.{drop, nat_lt, nat_le, ◌==◌, Option, None, Some, Result, Ok, Err}
use Rattle.std.specs.Prelude.{if◌then◌else◌}
use Rattle.std.specs.List.{filter, find}
use Rattle.std.specs.declared.cmp.Ordering.{Ordering}
use Rattle.std.specs.Ordering.{nat_cmp, ordering_then}
use Rattle.pdb_container.specs.Fault.{◌>>=◌}
use Rattle.pdb_container.specs.Listing.{Listing, whole}
use Rattle.pdb_addresses.specs.declared.sections.ImageSectionHeader.{ImageSectionHeader}
use Rattle.pdb_addresses.specs.declared.internal_section_offset.PdbInternalSectionOffset.{
  PdbInternalSectionOffset,
}
use Rattle.pdb_addresses.specs.InOrder.{in_order}
use Rattle.pdb_addresses.specs.Sections.{section_at, may_execute}
use Rattle.pdb_symbols_modules.specs.declared.contributions.DBISectionContribution.{
  DBISectionContribution,
}
use Rattle.pdb_symbols_modules.specs.Contributions.{contributions_of}
use Rattle.pdb_resolving.specs.declared.error.Error.{Error}
use Rattle.pdb_resolving.specs.Fault.{Fault, Fails, UnorderedSectionContributions}
use Rattle.pdb_resolving.specs.Fault.{OverlappingSectionContributions, lifted}
use Rattle.pdb_contributions.specs.declared.contribution.ModuleSectionContribution.{
  ModuleSectionContribution,
}

-- ---- entries that count

-- code may run in a section, if it is there
abbrev pub executes_at : Option ImageSectionHeader → Bool
executes_at None = false
executes_at (Some s) = may_execute s.characteristics

-- the number is that of a section in which code may run
abbrev pub is_executable : List ImageSectionHeader → ℕ → Bool
is_executable sections number = executes_at (section_at sections number)

-- an entry counts if it has a size and code may run in its section
abbrev pub is_kept : List ImageSectionHeader → DBISectionContribution → Bool
is_kept sections c = nat_lt 0 c.size && is_executable sections (c.offset).section

-- the entries that count
abbrev pub kept_entries : List ImageSectionHeader → List DBISectionContribution
    → List DBISectionContribution
kept_entries sections entries = filter (is_kept sections) entries

-- the contribution of an entry; an end past 32 bits is cut
abbrev pub span_of : DBISectionContribution → ModuleSectionContribution
span_of c =
    record {
      section_index = (c.offset).section;
      start_offset = (c.offset).offset;
      end_offset = min ((c.offset).offset + c.size) (2 ^ 32 - 1);
      module_index = c.«module»;
    }

-- ---- consecutive entries of one module and section

-- whether two contributions are of one module and section
abbrev pub is_of_same : ModuleSectionContribution → ModuleSectionContribution → Bool
is_of_same a b = (a.section_index == b.section_index) && (a.module_index == b.module_index)

-- a contribution that goes on to the end of another one
abbrev pub up_to : ModuleSectionContribution → ModuleSectionContribution → ModuleSectionContribution
up_to a b =
    record {
      section_index = a.section_index;
      start_offset = a.start_offset;
      end_offset = b.end_offset;
      module_index = a.module_index;
    }

-- a contribution before others
abbrev pub contribution_before : ModuleSectionContribution
    → Result (List ModuleSectionContribution) Fault → Result (List ModuleSectionContribution) Fault
contribution_before c others = others >>= λ all. Ok (c ∷ all)

-- contributions before others
abbrev pub all_before : List ModuleSectionContribution
    → Result (List ModuleSectionContribution) Fault → Result (List ModuleSectionContribution) Fault
all_before front others = others >>= λ all. Ok (front ++ all)

-- A contribution and those after it, where consecutive contributions of one module and section are
-- one: from the first one's start to the last one's end. None of these may end before the one
-- before it.
abbrev pub merged_from : ModuleSectionContribution → List ModuleSectionContribution
    → Result (List ModuleSectionContribution) Fault
merged_from c [] = Ok (c ∷ [])
merged_from c (next ∷ others) =
    if is_of_same c next
    then (if nat_lt next.end_offset c.end_offset
    then Err (UnorderedSectionContributions next.module_index next.section_index)
    else merged_from (up_to c next) others)
    else contribution_before c (merged_from next others)

-- all contributions, merged
abbrev pub merged : List ModuleSectionContribution → Result (List ModuleSectionContribution) Fault
merged [] = Ok []
merged (c ∷ others) = merged_from c others

-- ---- order

-- the order of contributions by section, start, end and module
abbrev pub contribution_cmp : ModuleSectionContribution → ModuleSectionContribution → Ordering
contribution_cmp a b =
    ordering_then (nat_cmp a.section_index b.section_index)
    (ordering_then (nat_cmp a.start_offset b.start_offset)
    (ordering_then (nat_cmp a.end_offset b.end_offset) (nat_cmp a.module_index b.module_index)))

-- whether a contribution begins before the end of the one before it, in one section
abbrev pub overlaps : ModuleSectionContribution → ModuleSectionContribution → Bool
overlaps a b = (b.section_index == a.section_index) && nat_lt b.start_offset a.end_offset

-- contributions after another one, of which none begins before the end of the one before it in its
-- section
abbrev pub apart_behind : ModuleSectionContribution → List ModuleSectionContribution
    → Result (Unit {0}) Fault
apart_behind c [] = Ok tt
apart_behind c (next ∷ others) =
    if overlaps c next
    then Err (OverlappingSectionContributions next.section_index c.module_index next.module_index)
    else apart_behind next others

-- all contributions, none of which begins before the end of the one before it in its section
abbrev pub apart : List ModuleSectionContribution → Result (Unit {0}) Fault
apart [] = Ok tt
apart (c ∷ others) = apart_behind c others

-- Merged contributions and the current one give, with whatever follows, the same list as those in
-- front, the last one and the next one.
abbrev pub MergesInto : List ModuleSectionContribution → ModuleSectionContribution
    → ModuleSectionContribution → List ModuleSectionContribution → ModuleSectionContribution
    → Type 0
MergesInto front last next merged current =
    (others : List ModuleSectionContribution)
    → all_before merged (merged_from current others)
    ≡ all_before front (merged_from last (next ∷ others))

-- merging the next contribution fails, with whatever follows
abbrev pub FailsToMerge : ModuleSectionContribution → ModuleSectionContribution → Error → Type 0
FailsToMerge last next e =
    (others : List ModuleSectionContribution) → Fails e (merged_from last (next ∷ others))

-- ---- the contributions of modules

-- the contributions of modules, in order; and the starts of the entries that count, but for the
-- first
pub record Held : Type 0 where
  pub contributions : List ModuleSectionContribution
  pub later_starts : List PdbInternalSectionOffset

-- the starts of entries, but for the first
abbrev pub later_starts_of : List DBISectionContribution → List PdbInternalSectionOffset
later_starts_of entries = map (λ c. c.offset) (drop 1 entries)

-- The contributions of modules from the entries of a list, in its order, and from its end: an entry
-- that ends before those with which it merges comes before the list's fault.
abbrev pub merged_by : List ImageSectionHeader → Listing DBISectionContribution → Result Held Fault
merged_by sections entries = do
  contributions ← merged (map span_of (kept_entries sections entries.items))
  all ← lifted (whole entries)
  Ok record {
    contributions = contributions;
    later_starts = later_starts_of (kept_entries sections entries.items);
  }

-- the contributions of modules, in order and without overlaps
abbrev pub in_order_apart : Held → Result Held Fault
in_order_apart held = do
  checked ← apart (in_order contribution_cmp held.contributions)
  Ok record {
    contributions = in_order contribution_cmp held.contributions;
    later_starts = held.later_starts;
  }

-- The contributions of modules from the entries of a list, and from its end; an overlap is reported
-- after the faults of these.
unfoldable pub held_by : List ImageSectionHeader → Listing DBISectionContribution
    → Result Held Fault
held_by sections entries = merged_by sections entries >>= in_order_apart

-- the contributions of modules from the section contributions of the DBI stream
unfoldable pub held_of : List ImageSectionHeader → List ℕ → Result Held Fault
held_of sections bytes = lifted (contributions_of bytes) >>= held_by sections

-- ---- the holder of a place

-- a module holds a place: it lies in the contribution's section, from its start to before its end
abbrev pub holds : PdbInternalSectionOffset → ModuleSectionContribution → Bool
holds p c = (c.section_index == p.section)
    && (nat_le c.start_offset p.offset && nat_lt p.offset c.end_offset)

-- the first contribution that holds a place
abbrev pub holder : List ModuleSectionContribution → PdbInternalSectionOffset
    → Option ModuleSectionContribution
holder contributions p = find (holds p) contributions
