-- Of entries that stand as they are the first one that holds a place is its holder.
use Rattle.std.proofs.Common.{◌≡◌, cond, Bool, true, false, List, [], ◌∷◌, map, Option, None, Some}
use Rattle.std.proofs.Common.{Result, Ok, Err, refl, sym, ap, ◌∙◌}
use Rattle.std.specs.Prelude.{option_map, IfOk}
use Rattle.std.specs.List.{find}
use Rattle.pdb_container.specs.Fault as container_fault
use Rattle.pdb_container.specs.Fault.{◌>>=◌}
use Rattle.pdb_container.specs.Listing.{Listing, whole_with}
use Rattle.pdb_addresses.specs.declared.sections.ImageSectionHeader.{ImageSectionHeader}
use Rattle.pdb_addresses.specs.declared.internal_section_offset.PdbInternalSectionOffset.{
  PdbInternalSectionOffset,
}
use Rattle.pdb_symbols_modules.specs.declared.contributions.DBISectionContribution.{
  DBISectionContribution,
}
use Rattle.pdb_resolving.specs.Fault.{Fault, lifted}
use Rattle.pdb_contributions.specs.declared.contribution.ModuleSectionContribution.{
  ModuleSectionContribution,
}
use Rattle.pdb_contributions.specs.MergedContributions.{Held, holder, holds, kept_entries, span_of}
use Rattle.pdb_contributions.specs.UnmergedContributions.{unmerged_by, HoldByFirst}

-- an entry that holds the place, or the first of others
first_of : (b : Bool) (c : DBISectionContribution) (spans : Option ModuleSectionContribution)
    (others : Option DBISectionContribution) → spans ≡ option_map span_of others
    → cond b (Some (span_of c)) spans ≡ option_map span_of (cond b (Some c) others)
first_of true c spans others same = refl
first_of false c spans others same = same

find_span : (place : PdbInternalSectionOffset) (entries : List DBISectionContribution)
    → find (holds place) (map span_of entries)
    ≡ option_map span_of (find (λ c. holds place (span_of c)) entries)
find_span place [] = refl
find_span place (c ∷ others) =
    first_of (holds place (span_of c)) c (find (holds place) (map span_of others))
    (find (λ e. holds place (span_of e)) others) (find_span place others)

same_held : (x y : Held) → (let r : Result Held Fault = Ok x in r) ≡ Ok y → x ≡ y
same_held x y same = cc

held_to_end : (fault : Option container_fault.Fault) (items : List DBISectionContribution)
    (x held : Held) → (lifted (whole_with fault items) >>= λ all. Ok x) ≡ Ok held → x ≡ held
held_to_end None items x held same = same_held x held same
held_to_end (Some e) items x held same = absurd cc

-- the holders of places by entries that stand as they are
first_holds : (sections : List ImageSectionHeader) (entries : Listing DBISectionContribution)
    (held : Held) → unmerged_by sections entries ≡ Ok held → HoldByFirst sections entries held
first_holds sections entries held made =
    λ place. ap (λ (h : Held). holder h.contributions place)
    (sym (held_to_end entries.fault entries.items _ held made))
    ∙ find_span place (kept_entries sections entries.items)

if_held : (Fact : Held → Type 0) (read : Result Held Fault)
    → ((held : Held) → read ≡ Ok held → Fact held) → IfOk read Fact
if_held Fact (Ok held) each = each held refl
if_held Fact (Err e) each = tt

pub hold_by_first : (sections : List ImageSectionHeader) (entries : Listing DBISectionContribution)
    → IfOk (unmerged_by sections entries) (HoldByFirst sections entries)
hold_by_first sections entries =
    if_held (HoldByFirst sections entries) (unmerged_by sections entries)
    (first_holds sections entries)
