-- The parts of modules that could not be read when they were asked for: they stand as failed.
use Rattle.std.specs.Prelude.{ℕ, ◌+◌, ◌*◌, ◌^◌, ◌<◌, Bool, List, []}
use Rattle.pdb_addresses.specs.declared.internal_section_offset.PdbInternalSectionOffset.{
  PdbInternalSectionOffset,
}
use Rattle.pdb_resolving.specs.Failed.{stands, with_part}
pub use Rattle.pdb_resolving.specs.declared.failures.Part.{Part}
pub use Rattle.pdb_resolving.specs.declared.failures.Part.TheVariants.{
  ExtendedModule,
  ProcedureLines,
  ProcedureInlineRanges,
}

-- the parts that stand as failed: line programs with inlinees by the numbers of their modules, rows
-- of functions and inline sites of procedures by the numbers of their starts
pub record Failures : Type 0 where
  pub modules : List ℕ
  pub lines : List ℕ
  pub inline_ranges : List ℕ

-- nothing stands as failed
abbrev pub no_failures : Failures
no_failures = record { modules = []; lines = []; inline_ranges = [] }

-- a place has a section's number of 16 bits and an offset of 32
abbrev pub IsPlace : PdbInternalSectionOffset → Type 0
IsPlace place = (place.section < 2 ^ 16) × (place.offset < 2 ^ 32)

-- a part that is named by a place is named by such a place
abbrev pub IsPart : Part → Type 0
IsPart (ExtendedModule m) = Unit {0}
IsPart (ProcedureLines m start) = IsPlace start
IsPart (ProcedureInlineRanges m start) = IsPlace start

-- the number of a place in a module, which no other place and no place in another module has
abbrev pub number_of : ℕ → PdbInternalSectionOffset → ℕ
number_of m place = (m * 2 ^ 16 + place.section) * 2 ^ 32 + place.offset

-- whether a part stands as failed
abbrev pub has_failed : Failures → Part → Bool
has_failed f (ExtendedModule m) = stands f.modules m
has_failed f (ProcedureLines m start) = stands f.lines (number_of m start)
has_failed f (ProcedureInlineRanges m start) = stands f.inline_ranges (number_of m start)

-- the parts that stand as failed, with one more
abbrev pub with_failed : Failures → Part → Failures
with_failed f (ExtendedModule m) = record {
  modules = with_part f.modules m;
  lines = f.lines;
  inline_ranges = f.inline_ranges;
}
with_failed f (ProcedureLines m start) = record {
  modules = f.modules;
  lines = with_part f.lines (number_of m start);
  inline_ranges = f.inline_ranges;
}
with_failed f (ProcedureInlineRanges m start) = record {
  modules = f.modules;
  lines = f.lines;
  inline_ranges = with_part f.inline_ranges (number_of m start);
}
