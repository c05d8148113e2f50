-- The contributions of modules where the entries of the DBI stream may stand in any order. GNU ld
-- before 2.44 doesn't sort them.
use Rattle.std.specs.Prelude.{◌≡◌, ℕ, Bool, true, false, List, [], ◌∷◌, map, Result, Ok, Err}
use Rattle.std.specs.Prelude.{option_map}
use Rattle.std.specs.List.{find}
use Rattle.pdb_container.specs.Fault.{◌>>=◌}
use Rattle.pdb_container.specs.Listing.{Listing, whole}
use Rattle.pdb_addresses.specs.declared.sections.ImageSectionHeader.{ImageSectionHeader}
use Rattle.pdb_addresses.specs.declared.internal_section_offset.PdbInternalSectionOffset.{
  PdbInternalSectionOffset,
}
use Rattle.pdb_symbols_modules.specs.declared.contributions.DBISectionContribution.{
  DBISectionContribution,
}
use Rattle.pdb_symbols_modules.specs.Contributions.{contributions_of}
use Rattle.pdb_resolving.specs.declared.error.Error.{Error}
use Rattle.pdb_resolving.specs.declared.error.Error.TheVariants as errors
use Rattle.pdb_resolving.specs.Fault.{Fault, UnorderedSectionContributions, lifted}
use Rattle.pdb_contributions.specs.declared.contribution.ModuleSectionContribution.{
  ModuleSectionContribution,
}
use Rattle.pdb_contributions.specs.MergedContributions.{Held, held_of, kept_entries}
use Rattle.pdb_contributions.specs.MergedContributions.{later_starts_of, span_of, holder, holds}

-- a place, unless no entry stands before it
abbrev pub unless_first : List ModuleSectionContribution → PdbInternalSectionOffset
    → List PdbInternalSectionOffset
unless_first [] start = []
unless_first (c ∷ front) start = start ∷ []

-- The contributions of modules from the entries of a list that has an end: each entry that counts
-- as it stands, in the order of the file. So the `holder` of a place is the first entry that holds
-- it.
abbrev pub unmerged_by : List ImageSectionHeader → Listing DBISectionContribution
    → Result Held Fault
unmerged_by sections entries = do
  all ← lifted (whole entries)
  Ok record {
    contributions = map span_of (kept_entries sections entries.items);
    later_starts = later_starts_of (kept_entries sections entries.items);
  }

-- the holder of each place is the contribution of the first of a list's entries that counts and
-- holds the place
abbrev pub HoldByFirst : List ImageSectionHeader → Listing DBISectionContribution → Held → Type 0
HoldByFirst sections entries held =
    (place : PdbInternalSectionOffset) → holder held.contributions place
    ≡ option_map span_of (find (λ c. holds place (span_of c)) (kept_entries sections entries.items))

-- the contributions of modules from those of the DBI stream, each as it stands

abbrev pub unmerged_of : List ImageSectionHeader → List ℕ → Result Held Fault
unmerged_of sections bytes = lifted (contributions_of bytes) >>= unmerged_by sections

-- a call refuses the contributions of modules for the order of the entries
abbrev pub is_for_order : Result Held Error → Bool
is_for_order (Err (errors.UnorderedSectionContributions m s)) = true
is_for_order r = false

-- the contributions of modules, or another reading where they are refused for the order of the
-- entries
abbrev pub unless_unordered : Result Held Fault → Result Held Fault → Result Held Fault
unless_unordered (Err (UnorderedSectionContributions m s)) other = other
unless_unordered held other = held

-- The contributions of modules from those of the DBI stream, in any order: as they are merged, or
-- each as it stands where merging is refused for their order.
unfoldable pub held_in_any_order : List ImageSectionHeader → List ℕ → Result Held Fault
held_in_any_order sections bytes =
    unless_unordered (held_of sections bytes) (unmerged_of sections bytes)
