-- Line marks that are still to come, one step on.
use Rattle.std.proofs.Common.{◌≡◌, ◌≢◌, ℕ, suc, ◌+◌, ◌-◌, ◌<◌, ◌≤◌, List, [], ◌∷◌, ◌++◌, length}
use Rattle.std.proofs.Common.{take, drop, Option, None, Some, Ok, Err, refl, ap, append_assoc}
use Rattle.std.proofs.Common.{arith}
use Rattle.std.specs.List.{flat_map, slice_get}
use Rattle.std.proofs.lemmas.List.{take_all}
use Rattle.pdb_container.specs.Fault.{Fault}
use Rattle.pdb_container.specs.Listing.{Listing, ending, before}
use Rattle.pdb_container.proofs.Listings.{listing_next, listing_fault, listing_end}
use Rattle.pdb_lines.specs.declared.line_mark.LineMark.{LineMark}
use Rattle.pdb_lines.specs.LinesSubsections.{LinesSubsection}
use Rattle.pdb_lines.specs.LineMarks.{LinesBlock, block_at, entry_mark, entries_from, entries_of}
use Rattle.pdb_lines.specs.LineMarks.{chained, blocks_of, end_mark, marks_of, marks_left}

-- a block's entry stands before those after it
pub entry_here : (b : LinesBlock) (i : ℕ) → i < b.count
    → entries_from b i ≡ entry_mark b i ∷ entries_from b (i + 1)
entry_here b i lt =
    let k : b.count - i ≡ suc (b.count - (i + 1)) = omega (arith, lt) in
    rw k refl

-- past a block's last entry there is none
pub no_entry : (b : LinesBlock) (i : ℕ) → b.count ≤ i → entries_from b i ≡ []
no_entry b i le =
    let k : b.count - i ≡ 0 = omega (arith, le) in
    rw k refl

-- the marks to come at the beginning are all marks
pub marks_start : (subsection : LinesSubsection) (subsections : List LinesSubsection)
    → slice_get subsections 0 ≡ Some subsection
    → marks_left [] subsection.blocks subsections ≡ marks_of subsections
marks_start subsection [] first = absurd cc
marks_start subsection (r ∷ subsections) first =
    let e : r ≡ subsection = cc in
    rw (← e) refl

-- without subsections there are no marks
pub marks_start_none : (blocks : List ℕ) (subsections : List LinesSubsection)
    → slice_get subsections 0 ≡ None → marks_left [] blocks subsections ≡ marks_of subsections
marks_start_none blocks [] first = refl
marks_start_none blocks (r ∷ subsections) first = absurd cc

-- an entry of the block at hand is the next mark
pub mark_of_entry : (mark : LineMark) (entries : List LineMark) (blocks : List ℕ)
    (subsections : List LinesSubsection) → marks_left (mark ∷ entries) blocks subsections
    ≡ before mark (marks_left entries blocks subsections)
mark_of_entry mark entries blocks [] = refl
mark_of_entry mark entries blocks (r ∷ subsections) = refl

-- after the last subsection there is no mark
pub no_mark : (blocks : List ℕ) (subsections : List LinesSubsection)
    → slice_get subsections 0 ≡ None → marks_left [] blocks subsections ≡ ending None
no_mark blocks [] first = refl
no_mark blocks (r ∷ subsections) first = absurd cc

pub mark_of_end : (subsection : LinesSubsection) (blocks : List ℕ)
    (subsections : List LinesSubsection) → slice_get subsections 0 ≡ Some subsection
    → length blocks ≡ 0 → marks_left [] blocks subsections
    ≡ before (end_mark subsection) (marks_of (drop 1 subsections))
mark_of_end subsection blocks [] first none = absurd cc
mark_of_end subsection blocks (r ∷ subsections) first none =
    let e : r ≡ subsection = cc in
    rw (← e, listing_end (block_at r) blocks none) refl

-- the subsections after the first one, cut to their number, are all of them
pub behind_first : (subsections : List LinesSubsection)
    → take (length subsections - 1) (drop 1 subsections) ≡ drop 1 subsections
behind_first [] = refl
behind_first (r ∷ subsections) =
    let n : length (r ∷ subsections) - 1 ≡ length subsections = omega arith in
    rw n (take_all (length subsections) subsections (omega arith))

-- after a subsection's last block its end is the next mark
pub mark_of_end_here : (subsection : LinesSubsection) (entries entries' : List LineMark)
    (blocks blocks' : List ℕ) (subsections subsections' : List LinesSubsection) → entries ≡ []
    → entries' ≡ [] → slice_get subsections 0 ≡ Some subsection → length blocks ≡ 0
    → subsections' ≡ drop 1 subsections → marks_left [] blocks' subsections' ≡ marks_of subsections'
    → marks_left entries blocks subsections
    ≡ before (end_mark subsection) (marks_left entries' blocks' subsections')
mark_of_end_here subsection entries entries' blocks blocks' subsections subsections' none none'
    first empty behind next =
    rw (none, none', next, behind) (mark_of_end subsection blocks subsections first empty)

chained_again : {A : Type 0} (front items : List A) (end : Option Fault) (others : Listing A)
    → chained (front ++ items) end others ≡ chained front None (chained items end others)
chained_again {A} front items None others =
    ap (λ (xs : List A). record { items = xs; fault = others.fault })
    (append_assoc front items others.items)
chained_again front items (Some e) others = refl

-- a block that was read gives its entries to the marks to come
pub block_read : (subsection : LinesSubsection) (block : LinesBlock) (blocks left : List ℕ)
    (subsections : List LinesSubsection) → slice_get subsections 0 ≡ Some subsection
    → block_at subsection blocks ≡ Ok (block, left) → length left < length blocks
    → marks_left [] blocks subsections ≡ marks_left (entries_of block) left subsections
block_read subsection block blocks left [] first read lt = absurd cc
block_read subsection block blocks left (r ∷ subsections) first read lt =
    let e : r ≡ subsection = cc in
    rw (e, listing_next (block_at subsection) blocks left block read lt)
    (chained_again (entries_of block) (flat_map entries_of (blocks_of subsection left).items)
    (blocks_of subsection left).fault (before (end_mark subsection) (marks_of subsections)))

-- a block that is refused ends the marks with its fault
pub block_fault : (subsection : LinesSubsection) (blocks : List ℕ)
    (subsections : List LinesSubsection) (e : Fault) → slice_get subsections 0 ≡ Some subsection
    → block_at subsection blocks ≡ Err e → length blocks ≢ 0
    → marks_left [] blocks subsections ≡ ending (Some e)
block_fault subsection blocks [] e first read some = absurd cc
block_fault subsection blocks (r ∷ subsections) e first read some =
    let is : r ≡ subsection = cc in
    rw (is, listing_fault (block_at subsection) blocks e some read) refl
