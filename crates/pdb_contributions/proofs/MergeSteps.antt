-- Entries as a loop merges them.
use Rattle.std.proofs.Common.{◌≡◌, cond, true, false, List, [], ◌∷◌, ◌++◌, map, Option, None, Some}
use Rattle.std.proofs.Common.{Result, Ok, Err, refl, sym, ap, ◌∙◌, append_assoc}
use Rattle.std.proofs.lemmas.List.{append-nil}
use Rattle.pdb_container.specs.declared.error.Error as container
use Rattle.pdb_container.specs.Fault as container_fault
use Rattle.pdb_container.specs.Fault.{IsOfBytes, ◌>>=◌}
use Rattle.pdb_container.specs.Listing.{Listing, ending, before, whole, whole_with}
use Rattle.pdb_addresses.specs.declared.sections.ImageSectionHeader.{ImageSectionHeader}
use Rattle.pdb_addresses.specs.declared.internal_section_offset.PdbInternalSectionOffset.{
  PdbInternalSectionOffset,
}
use Rattle.pdb_symbols_modules.specs.declared.contributions.DBISectionContribution.{
  DBISectionContribution,
}
use Rattle.pdb_resolving.specs.declared.error.Error.{Error}
use Rattle.pdb_resolving.specs.Fault.{Fault, lifted, error_of, Fails}
use Rattle.pdb_resolving.proofs.Lifting.{fails_on, parsed_fails_on}
use Rattle.pdb_contributions.specs.declared.contribution.ModuleSectionContribution.{
  ModuleSectionContribution,
}
use Rattle.pdb_contributions.specs.MergedContributions.{is_kept, kept_entries, span_of, merged_from}
use Rattle.pdb_contributions.specs.MergedContributions.{merged, all_before, merged_by, later_starts_of}

-- entries after a contribution that may be there, merged
abbrev pub merged_behind : Option ModuleSectionContribution → List DBISectionContribution
    → Result (List ModuleSectionContribution) Fault
merged_behind None entries = merged (map span_of entries)
merged_behind (Some c) entries = merged_from c (map span_of entries)

-- where entries begin, but for the first of all
abbrev pub starts_behind : Option ModuleSectionContribution → List DBISectionContribution
    → List PdbInternalSectionOffset
starts_behind None entries = later_starts_of entries
starts_behind (Some c) entries = map (λ e. e.offset) entries

-- What was merged of a list's entries, where those that count begin, and the contribution that is
-- merged further: with what is still to come it is what the whole list holds.
pub record IsMerging (sections : List ImageSectionHeader) (front : List ModuleSectionContribution)
    (starts : List PdbInternalSectionOffset) (current : Option ModuleSectionContribution)
    (l total : Listing DBISectionContribution) : Type 0 where
  pub held : all_before front (merged_behind current (kept_entries sections l.items))
      ≡ merged (map span_of (kept_entries sections total.items))
  pub later : starts ++ starts_behind current (kept_entries sections l.items)
      ≡ later_starts_of (kept_entries sections total.items)
  pub fault : l.fault ≡ total.fault

none_before : (r : Result (List ModuleSectionContribution) Fault) → all_before [] r ≡ r
none_before (Ok xs) = refl
none_before (Err e) = refl

-- nothing is merged yet
pub merging_start : (sections : List ImageSectionHeader) (l : Listing DBISectionContribution)
    → IsMerging sections [] [] None l l
merging_start sections l = record {
  held = none_before (merged (map span_of (kept_entries sections l.items)));
  later = refl;
  fault = refl;
}

-- an entry before others: among those that count it stands if it counts
pub kept_first : (sections : List ImageSectionHeader) (l others : Listing DBISectionContribution)
    (x : DBISectionContribution) → l ≡ before x others → is_kept sections x ≡ true
    → kept_entries sections l.items ≡ x ∷ kept_entries sections others.items
kept_first sections l others x step counts =
    ap (λ (m : Listing DBISectionContribution). kept_entries sections m.items) step
    ∙ ap (λ b. cond b (x ∷ kept_entries sections others.items) (kept_entries sections others.items))
    counts

pub not_kept_first : (sections : List ImageSectionHeader) (l others : Listing DBISectionContribution)
    (x : DBISectionContribution) → l ≡ before x others → is_kept sections x ≡ false
    → kept_entries sections l.items ≡ kept_entries sections others.items
not_kept_first sections l others x step out =
    ap (λ (m : Listing DBISectionContribution). kept_entries sections m.items) step
    ∙ ap (λ b. cond b (x ∷ kept_entries sections others.items) (kept_entries sections others.items))
    out

pub same_fault : (l others : Listing DBISectionContribution) (x : DBISectionContribution)
    → l ≡ before x others → others.fault ≡ l.fault
same_fault l others x step = ap (λ (m : Listing DBISectionContribution). m.fault) (sym step)

-- an entry that doesn't count
pub merging_skipped : (sections : List ImageSectionHeader) (front : List ModuleSectionContribution)
    (starts : List PdbInternalSectionOffset) (current : Option ModuleSectionContribution)
    (l others total : Listing DBISectionContribution) (x : DBISectionContribution)
    → l ≡ before x others → is_kept sections x ≡ false
    → IsMerging sections front starts current l total
    → IsMerging sections front starts current others total
merging_skipped sections front starts current l others total x step out so_far =
    let kept = not_kept_first sections l others x step out in
    record {
      held = ap (λ (es : List DBISectionContribution). all_before front (merged_behind current es))
          (sym kept) ∙ so_far.held;
      later = ap (λ (es : List DBISectionContribution). starts ++ starts_behind current es)
          (sym kept) ∙ so_far.later;
      fault = same_fault l others x step ∙ so_far.fault;
    }

-- the first entry that counts
pub merging_first : (sections : List ImageSectionHeader) (front : List ModuleSectionContribution)
    (starts : List PdbInternalSectionOffset) (l others total : Listing DBISectionContribution)
    (x : DBISectionContribution)
    → l ≡ before x others → is_kept sections x ≡ true → IsMerging sections front starts None l total
    → IsMerging sections front starts (Some (span_of x)) others total
merging_first sections front starts l others total x step counts so_far =
    let kept = kept_first sections l others x step counts in
    record {
      held = ap (λ (es : List DBISectionContribution). all_before front (merged (map span_of es)))
          (sym kept) ∙ so_far.held;
      later = ap (λ (es : List DBISectionContribution). starts ++ later_starts_of es) (sym kept)
          ∙ so_far.later;
      fault = same_fault l others x step ∙ so_far.fault;
    }

-- one more entry that counts, merged with the contribution before it or after it
pub merging_more : (sections : List ImageSectionHeader)
    (front grown : List ModuleSectionContribution) (starts : List PdbInternalSectionOffset)
    (last now : ModuleSectionContribution) (l others total : Listing DBISectionContribution)
    (x : DBISectionContribution)
    → l ≡ before x others → is_kept sections x ≡ true
    → ((behind : List ModuleSectionContribution) → all_before grown (merged_from now behind)
    ≡ all_before front (merged_from last (span_of x ∷ behind)))
    → IsMerging sections front starts (Some last) l total
    → IsMerging sections grown (starts ++ x.offset ∷ []) (Some now) others total
merging_more sections front grown starts last now l others total x step counts merges so_far =
    let kept = kept_first sections l others x step counts in
    record {
      held = merges (map span_of (kept_entries sections others.items))
          ∙ ap (λ (es : List DBISectionContribution). all_before front
          (merged_from last (map span_of es))) (sym kept) ∙ so_far.held;
      later = append_assoc starts (x.offset ∷ [])
          (map (λ e. e.offset) (kept_entries sections others.items))
          ∙ ap (λ (es : List DBISectionContribution). starts ++ map (λ e. e.offset) es) (sym kept)
          ∙ so_far.later;
      fault = same_fault l others x step ∙ so_far.fault;
    }

-- an entry that ends before those with which it merges
pub merging_not : (sections : List ImageSectionHeader) (front : List ModuleSectionContribution)
    (starts : List PdbInternalSectionOffset) (last : ModuleSectionContribution)
    (l others total : Listing DBISectionContribution) (x : DBISectionContribution) (e : Error)
    → l ≡ before x others → is_kept sections x ≡ true
    → ((behind : List ModuleSectionContribution)
    → Fails e (merged_from last (span_of x ∷ behind)))
    → IsMerging sections front starts (Some last) l total → Fails e (merged_by sections total)
merging_not sections front starts last l others total x e step counts fails so_far =
    let kept = kept_first sections l others x step counts in
    let one : Fails e (merged_from last (map span_of (kept_entries sections l.items))) =
    rw kept (fails (map span_of (kept_entries sections others.items))) in
    let all : Fails e (merged (map span_of (kept_entries sections total.items))) =
    rw (← so_far.held)
    (fails_on e (merged_from last (map span_of (kept_entries sections l.items)))
    (λ xs. Ok (front ++ xs)) one) in
    fails_on e (merged (map span_of (kept_entries sections total.items)))
    (λ contributions. lifted (whole total)
    >>= λ all. Ok record {
      contributions = contributions;
      later_starts = later_starts_of (kept_entries sections total.items);
    }) all

-- what a contribution that may be there adds after others
abbrev pub closed : List ModuleSectionContribution → Option ModuleSectionContribution
    → List ModuleSectionContribution
closed front None = front
closed front (Some c) = front ++ c ∷ []

closed_is : (front : List ModuleSectionContribution) (current : Option ModuleSectionContribution)
    → all_before front (merged_behind current []) ≡ Ok (closed front current)
closed_is front None = ap (λ (xs : List ModuleSectionContribution). Ok xs) (append-nil front)
closed_is front (Some c) = refl

starts_end : (starts : List PdbInternalSectionOffset) (current : Option ModuleSectionContribution)
    → starts ++ starts_behind current [] ≡ starts
starts_end starts None = append-nil starts
starts_end starts (Some c) = append-nil starts

all_held : (sections : List ImageSectionHeader) (front : List ModuleSectionContribution)
    (starts : List PdbInternalSectionOffset) (current : Option ModuleSectionContribution)
    (l total : Listing DBISectionContribution)
    → l.items ≡ [] → IsMerging sections front starts current l total
    → merged (map span_of (kept_entries sections total.items)) ≡ Ok (closed front current)
all_held sections front starts current l total none so_far =
    sym so_far.held
    ∙ ap (λ (es : List DBISectionContribution). all_before front
    (merged_behind current (kept_entries sections es))) none ∙ closed_is front current

all_starts : (sections : List ImageSectionHeader) (front : List ModuleSectionContribution)
    (starts : List PdbInternalSectionOffset) (current : Option ModuleSectionContribution)
    (l total : Listing DBISectionContribution)
    → l.items ≡ [] → IsMerging sections front starts current l total
    → later_starts_of (kept_entries sections total.items) ≡ starts
all_starts sections front starts current l total none so_far =
    sym so_far.later
    ∙ ap (λ (es : List DBISectionContribution). starts
    ++ starts_behind current (kept_entries sections es)) none ∙ starts_end starts current

-- the list ends well
pub merging_end : (sections : List ImageSectionHeader) (front : List ModuleSectionContribution)
    (starts : List PdbInternalSectionOffset) (current : Option ModuleSectionContribution)
    (l total : Listing DBISectionContribution)
    → l ≡ ending None → IsMerging sections front starts current l total → merged_by sections total
    ≡ Ok record { contributions = closed front current; later_starts = starts }
merging_end sections front starts current l total end so_far =
    let none : l.items ≡ [] = ap (λ (m : Listing DBISectionContribution). m.items) end in
    let well : total.fault ≡ None = sym so_far.fault
    ∙ ap (λ (m : Listing DBISectionContribution). m.fault) end in
    rw (
      all_held sections front starts current l total none so_far,
      well,
      all_starts sections front starts current l total none so_far,
    ) refl

-- the list ends with a fault
pub merging_fault : (sections : List ImageSectionHeader) (front : List ModuleSectionContribution)
    (starts : List PdbInternalSectionOffset) (current : Option ModuleSectionContribution)
    (l total : Listing DBISectionContribution) (e : container.Error)
    → IsOfBytes e → l ≡ ending (Some (container_fault.fault_of e))
    → IsMerging sections front starts current l total
    → Fails (error_of e) (merged_by sections total)
merging_fault sections front starts current l total e bytes end so_far =
    let none : l.items ≡ [] = ap (λ (m : Listing DBISectionContribution). m.items) end in
    let wrong : whole total ≡ Err (container_fault.fault_of e) =
    ap (λ f. whole_with f total.items)
    (sym so_far.fault ∙ ap (λ (m : Listing DBISectionContribution). m.fault) end) in
    rw (all_held sections front starts current l total none so_far)
    (parsed_fails_on e (whole total)
    (λ all. Ok record {
      contributions = closed front current;
      later_starts = later_starts_of (kept_entries sections total.items);
    }) bytes wrong)
