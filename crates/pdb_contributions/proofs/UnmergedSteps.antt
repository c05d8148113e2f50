-- Entries as a loop lists them, each as it stands.
use Rattle.std.proofs.Common.{◌≡◌, true, false, List, [], ◌∷◌, ◌++◌, map, None, Some}
use Rattle.std.proofs.Common.{Result, Ok, Err, refl, sym, ap, ◌∙◌, append_assoc}
use Rattle.std.proofs.lemmas.List.{append-nil}
use Rattle.pdb_container.specs.declared.error.Error as container
use Rattle.pdb_container.specs.declared.error.Error.TheVariants as causes
use Rattle.pdb_container.specs.Fault as container_fault
use Rattle.pdb_container.specs.Fault.{IsOfBytes}
use Rattle.pdb_container.specs.Listing.{Listing, ending, before, whole, whole_with}
use Rattle.pdb_addresses.specs.declared.sections.ImageSectionHeader.{ImageSectionHeader}
use Rattle.pdb_addresses.specs.declared.internal_section_offset.PdbInternalSectionOffset.{
  PdbInternalSectionOffset,
}
use Rattle.pdb_symbols_modules.specs.declared.contributions.DBISectionContribution.{
  DBISectionContribution,
}
use Rattle.pdb_resolving.specs.declared.error.Error.{Error}
use Rattle.pdb_resolving.specs.declared.error.Error.TheVariants as errors
use Rattle.pdb_resolving.specs.Fault.{Fault, error_of, Answers, Fails}
use Rattle.pdb_resolving.proofs.Lifting.{parsed_fails_on}
use Rattle.pdb_contributions.specs.declared.contribution.ModuleSectionContribution.{
  ModuleSectionContribution,
}
use Rattle.pdb_contributions.specs.MergedContributions.{Held, is_kept, kept_entries, span_of}
use Rattle.pdb_contributions.specs.MergedContributions.{later_starts_of}
use Rattle.pdb_contributions.specs.UnmergedContributions.{is_for_order, unless_unordered}
use Rattle.pdb_contributions.specs.UnmergedContributions.{unless_first, unmerged_by}
use Rattle.pdb_contributions.proofs.MergeSteps.{kept_first, not_kept_first, same_fault}

-- where entries begin after contributions that stand before them, but for the first of all
abbrev pub starts_after : List ModuleSectionContribution → List DBISectionContribution
    → List PdbInternalSectionOffset
starts_after [] entries = later_starts_of entries
starts_after (c ∷ front) entries = map (λ e. e.offset) entries

-- What was listed of entries, and where those begin that count: with what is still to come it is
-- what the whole list holds.
pub record IsListing (sections : List ImageSectionHeader) (front : List ModuleSectionContribution)
    (starts : List PdbInternalSectionOffset) (l total : Listing DBISectionContribution) :
    Type 0 where
  pub held : front ++ map span_of (kept_entries sections l.items)
      ≡ map span_of (kept_entries sections total.items)
  pub later : starts ++ starts_after front (kept_entries sections l.items)
      ≡ later_starts_of (kept_entries sections total.items)
  pub fault : l.fault ≡ total.fault

-- nothing is listed yet
pub listing_start : (sections : List ImageSectionHeader) (l : Listing DBISectionContribution)
    → IsListing sections [] [] l l
listing_start sections l = record { held = refl; later = refl; fault = refl }

-- an entry that doesn't count
pub listing_skipped : (sections : List ImageSectionHeader) (front : List ModuleSectionContribution)
    (starts : List PdbInternalSectionOffset) (l others total : Listing DBISectionContribution)
    (x : DBISectionContribution)
    → l ≡ before x others → is_kept sections x ≡ false
    → IsListing sections front starts l total → IsListing sections front starts others total
listing_skipped sections front starts l others total x step out so_far =
    let kept = not_kept_first sections l others x step out in
    record {
      held = ap (λ (es : List DBISectionContribution). front ++ map span_of es) (sym kept)
          ∙ so_far.held;
      later = ap (λ (es : List DBISectionContribution). starts ++ starts_after front es) (sym kept)
          ∙ so_far.later;
      fault = same_fault l others x step ∙ so_far.fault;
    }

-- where entries begin, with one more of them
starts_kept : (front : List ModuleSectionContribution) (starts : List PdbInternalSectionOffset)
    (x : DBISectionContribution) (others : List DBISectionContribution)
    → (starts ++ unless_first front x.offset) ++ starts_after (front ++ span_of x ∷ []) others
    ≡ starts ++ starts_after front (x ∷ others)
starts_kept [] starts x others =
    ap (λ (s : List PdbInternalSectionOffset). s ++ map (λ e. e.offset) others) (append-nil starts)
starts_kept (c ∷ front) starts x others =
    append_assoc starts (x.offset ∷ []) (map (λ e. e.offset) others)

-- one more entry that counts
pub listing_kept : (sections : List ImageSectionHeader) (front : List ModuleSectionContribution)
    (starts : List PdbInternalSectionOffset) (l others total : Listing DBISectionContribution)
    (x : DBISectionContribution)
    → l ≡ before x others → is_kept sections x ≡ true → IsListing sections front starts l total
    → IsListing sections (front ++ span_of x ∷ []) (starts ++ unless_first front x.offset) others
    total
listing_kept sections front starts l others total x step counts so_far =
    let kept = kept_first sections l others x step counts in
    record {
      held = append_assoc front (span_of x ∷ []) (map span_of (kept_entries sections others.items))
          ∙ ap (λ (es : List DBISectionContribution). front ++ map span_of es) (sym kept)
          ∙ so_far.held;
      later = starts_kept front starts x (kept_entries sections others.items)
          ∙ ap (λ (es : List DBISectionContribution). starts ++ starts_after front es) (sym kept)
          ∙ so_far.later;
      fault = same_fault l others x step ∙ so_far.fault;
    }

no_starts : (front : List ModuleSectionContribution)
    → starts_after front [] ≡ []
no_starts [] = refl
no_starts (c ∷ front) = refl

-- the list ends well
pub listing_end : (sections : List ImageSectionHeader) (front : List ModuleSectionContribution)
    (starts : List PdbInternalSectionOffset) (l total : Listing DBISectionContribution)
    → l ≡ ending None → IsListing sections front starts l total
    → unmerged_by sections total ≡ Ok record { contributions = front; later_starts = starts }
listing_end sections front starts l total end so_far =
    let none : l.items ≡ [] = ap (λ (m : Listing DBISectionContribution). m.items) end in
    let well : total.fault ≡ None = sym so_far.fault
    ∙ ap (λ (m : Listing DBISectionContribution). m.fault) end in
    let held : map span_of (kept_entries sections total.items) ≡ front = sym so_far.held
    ∙ ap (λ (es : List DBISectionContribution). front
    ++ map span_of (kept_entries sections es)) none ∙ append-nil front in
    let later : later_starts_of (kept_entries sections total.items) ≡ starts = sym so_far.later
    ∙ ap (λ (es : List DBISectionContribution). starts
    ++ starts_after front (kept_entries sections es)) none
    ∙ ap (λ (ss : List PdbInternalSectionOffset). starts ++ ss) (no_starts front)
    ∙ append-nil starts in
    rw (held, well, later) refl

-- the list ends with a fault
pub listing_fault : (sections : List ImageSectionHeader) (front : List ModuleSectionContribution)
    (starts : List PdbInternalSectionOffset) (l total : Listing DBISectionContribution)
    (e : container.Error)
    → IsOfBytes e → l ≡ ending (Some (container_fault.fault_of e))
    → IsListing sections front starts l total → Fails (error_of e) (unmerged_by sections total)
listing_fault sections front starts l total e bytes end so_far =
    let wrong : whole total ≡ Err (container_fault.fault_of e) =
    ap (λ f. whole_with f total.items)
    (sym so_far.fault ∙ ap (λ (m : Listing DBISectionContribution). m.fault) end) in
    parsed_fails_on e (whole total)
    (λ all. Ok record {
      contributions = map span_of (kept_entries sections total.items);
      later_starts = later_starts_of (kept_entries sections total.items);
    }) bytes wrong

-- merging is refused for the order: the other reading counts
pub by_order : (r : Result Held Error) (held other : Result Held Fault)
    → is_for_order r ≡ true → Answers (λ h. h) r held → unless_unordered held other ≡ other
by_order (Ok h) held other told answers = absurd cc
by_order (Err (errors.UnorderedSectionContributions m s)) held other told answers =
    ap (λ x. unless_unordered x other) answers
by_order (Err e) held other told answers = absurd cc

-- merging isn't refused for the order: it counts
pub by_merging : (r : Result Held Error) (held other : Result Held Fault)
    → is_for_order r ≡ false → Answers (λ h. h) r held
    → Answers (λ h. h) r (unless_unordered held other)
by_merging (Ok h) held other told answers = ap (λ x. unless_unordered x other) answers
by_merging (Err errors.OutOfMemory) held other told answers = tt
by_merging (Err (errors.PdbError causes.OutOfMemory)) held other told answers = answers
by_merging (Err (errors.FormatError cause)) held other told answers = answers
by_merging (Err (errors.UnorderedSectionContributions m s)) held other told answers = absurd cc
by_merging (Err e) held other told answers = ap (λ x. unless_unordered x other) answers
