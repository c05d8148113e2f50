-- A place in the bytes of a table, and the items from there on.
use Rattle.std.proofs.Common.{◌≡◌, ℕ, zero, suc, ◌+◌, ◌-◌, ◌^◌, ◌<◌, ◌≤◌, List, [], ◌∷◌, length}
use Rattle.std.proofs.Common.{drop, Option, Some, None, Result, Ok, Err, refl, sym, subst, ap, ◌∙◌}
use Rattle.std.proofs.Common.{arith}
use Rattle.std.proofs.lemmas.List.{length-drop, drop_more}
use Rattle.std.specs.List.{slice_get}
use Rattle.pdb_container.specs.Fault.{Fault, Parses, fault_of}
use Rattle.pdb_container.specs.Buffer.{Buffer, rest}
use Rattle.pdb_container.specs.Listing.{Listing, before, ending}
use Rattle.pdb_container.specs.declared.error.Error.{Error}
use Rattle.pdb_container_types.specs.Items.{Table, table_in, items_from, items_of, item_number, item_or_end}
use Rattle.pdb_container_types.specs.Items.{past_list}
use Rattle.pdb_container_types.specs.declared.header.Header.{Header}
use Rattle.pdb_container_types.specs.KeptPlaces.{IsBefore, Steps, seen}

number_behind : (xs : List (List ℕ)) (n : ℕ) → slice_get xs n ≡ slice_get (drop n xs) 0
number_behind [] zero = refl
number_behind [] (suc n) = refl
number_behind (x ∷ xs) zero = refl
number_behind (x ∷ xs) (suc n) = number_behind xs n

-- the rest of a list after its next element
rest_behind : (xs : List (List ℕ)) (n : ℕ) (x : List ℕ) (others : List (List ℕ))
    → drop n xs ≡ x ∷ others → (drop (n + 1) xs ≡ others) × (n < length xs)
rest_behind xs n x others e =
    let some : n < length xs = omega (arith, length-drop n xs, ap length e) in
    let more = drop_more xs n x some in
    (cc, some)

-- ---- the place before the first item

-- a table's bytes stand before the item of its first index
pub before_start : (t : Table) → t.minimum < 2 ^ 32 → IsBefore t t.minimum t.bytes
before_start t fits =
    let none : t.minimum - t.minimum ≡ 0 = omega arith in
    record {
      low = omega arith;
      high = fits;
      within = omega arith;
      far = omega arith;
      list = rw none refl;
    }

-- ---- the next item is item number index - minimum

-- the item that stands next is the one with its index
pub number_here : (t : Table) (index : ℕ) (left item : List ℕ) (others : Listing (List ℕ))
    → IsBefore t index left → items_from index left ≡ before item others
    → item_number (items_of t) (index - t.minimum) ≡ Ok (Some item)
unfolding item_number
number_here t index left item others here first =
    let e = ap (λ (l : Listing (List ℕ)). item_or_end (slice_get l.items 0) l.fault)
    (here.list ∙ first) in
    rw (number_behind (items_of t).items (index - t.minimum)) e

-- where the list ends there is no item of the index
pub number_end : (t : Table) (index : ℕ) (left : List ℕ) → IsBefore t index left
    → items_from index left ≡ ending None → item_number (items_of t) (index - t.minimum) ≡ Ok None
unfolding item_number
number_end t index left here end =
    let e = ap (λ (l : Listing (List ℕ)). item_or_end (slice_get l.items 0) l.fault)
    (here.list ∙ end) in
    rw (number_behind (items_of t).items (index - t.minimum)) e

-- where the list ends badly the index has its fault
pub number_fault : (t : Table) (index : ℕ) (left : List ℕ) (e : Fault) → IsBefore t index left
    → items_from index left ≡ ending (Some e) → item_number (items_of t) (index - t.minimum) ≡ Err e
unfolding item_number
number_fault t index left e here end =
    let k = ap (λ (l : Listing (List ℕ)). item_or_end (slice_get l.items 0) l.fault)
    (here.list ∙ end) in
    rw (number_behind (items_of t).items (index - t.minimum)) k

-- ---- a good end follows all items

-- the index at which the list ends well is the first past the list
pub end_here : (t : Table) (index : ℕ) (left : List ℕ) → IsBefore t index left
    → items_from index left ≡ ending None → index ≡ past_list t
end_here t index left here end =
    let none = ap (λ (l : Listing (List ℕ)). length l.items) (here.list ∙ end) in
    let low = here.low in
    let within = here.within in
    omega (arith, length-drop (index - t.minimum) (items_of t).items, none)

-- ---- the place after an item

-- after an item the buffer stands before the next index
pub before_next : (t : Table) (index : ℕ) (left others item : List ℕ) → IsBefore t index left
    → items_from index left ≡ before item (items_from (index + 1) others) → index + 1 < 2 ^ 32
    → 4 + length others ≤ length left → IsBefore t (index + 1) others
before_next t index left others item here first free takes =
    let low = here.low in
    let far = here.far in
    let next : index + 1 - t.minimum ≡ index - t.minimum + 1 = omega arith in
    let e = rest_behind (items_of t).items (index - t.minimum) item
    (items_from (index + 1) others).items
    (ap (λ (l : Listing (List ℕ)). l.items) (here.list ∙ first)) in
    let f = ap (λ (l : Listing (List ℕ)). l.fault) (here.list ∙ first) in
    let some = e.1 in
    record {
      low = omega arith;
      high = free;
      within = omega arith;
      far = omega arith;
      list = rw (next, e.0, f) refl;
    }

-- the same place in the same bytes
pub before_in : (h : Header) (old new : List ℕ) (index : ℕ) (left : List ℕ) → new ≡ old
    → IsBefore (table_in h old) index left → IsBefore (table_in h new) index left
before_in h old new index left same here =
    subst (λ (bytes : List ℕ). IsBefore (table_in h bytes) index left) (sym same) here

-- the bytes after the header stand before the first index
pub before_first : (h : Header) (bytes left : List ℕ) → h.minimum_index < 2 ^ 32 → left ≡ bytes
    → IsBefore (table_in h bytes) h.minimum_index left
before_first h bytes left fits same = rw same (before_start (table_in h bytes) fits)

-- ---- a walk over that many items

-- a walk that has passed no item
pub walk_start : (first skip : ℕ) (bytes left : List ℕ) → left ≡ bytes
    → item_number (items_from (first + 0) left) (skip - 0)
    ≡ item_number (items_from first bytes) skip
walk_start first skip bytes left same =
    let none : skip - 0 ≡ skip = omega arith in
    let here : first + 0 ≡ first = omega arith in
    rw (none, here, same) refl

further : (list others : Listing (List ℕ)) (item : List ℕ) (n : ℕ) → list ≡ before item others
    → item_number list (suc n) ≡ item_number others n
unfolding item_number
further list others item n e =
    ap (λ (l : Listing (List ℕ)). item_or_end (slice_get l.items (suc n)) l.fault) e

-- a walk that passes one item more
pub walk_more : (first skip passed : ℕ) (left others item : List ℕ)
    (total : Result (Option (List ℕ)) Fault) → passed < skip
    → items_from (first + passed) left ≡ before item (items_from (first + passed + 1) others)
    → item_number (items_from (first + passed) left) (skip - passed) ≡ total
    → item_number (items_from (first + (passed + 1)) others) (skip - (passed + 1)) ≡ total
walk_more first skip passed left others item total lt step so_far =
    let n : skip - passed ≡ suc (skip - (passed + 1)) = omega arith in
    let i : first + (passed + 1) ≡ first + passed + 1 = omega arith in
    let one = further (items_from (first + passed) left) (items_from (first + passed + 1) others)
    item (skip - (passed + 1)) step in
    rw i (sym one ∙ rw n at so_far)

-- a walk that meets the end finds no item
pub walk_end : (index n : ℕ) (left : List ℕ) → items_from index left ≡ ending None
    → item_number (items_from index left) n ≡ Ok None
unfolding item_number
walk_end index n left e = ap (λ (l : Listing (List ℕ)). item_or_end (slice_get l.items n) l.fault) e

-- a walk that meets a fault has it
pub walk_fault : (index n : ℕ) (left : List ℕ) (fault : Fault) → items_from index left
    ≡ ending (Some fault) → item_number (items_from index left) n ≡ Err fault
unfolding item_number
walk_fault index n left fault e =
    ap (λ (l : Listing (List ℕ)). item_or_end (slice_get l.items n) l.fault) e

walk_here : (index n : ℕ) (left item : List ℕ) (others : Listing (List ℕ)) → n ≡ 0
    → items_from index left ≡ before item others
    → item_number (items_from index left) n ≡ Ok (Some item)
unfolding item_number
walk_here index n left item others none e =
    rw none (ap (λ (l : Listing (List ℕ)). item_or_end (slice_get l.items 0) l.fault) e)

steps_answer : {X : Type 0} (view : X → List ℕ) (index n : ℕ) (result : Result (Option X) Error)
    (old new : Buffer) → n ≡ 0 → Steps view index result old new
    → Parses (seen view) result (item_number (items_from index (rest old)) n)
steps_answer view index n (Ok (Some x)) old new none s =
    walk_here index n (rest old) (view x) (items_from (index + 1) (rest new)) none s.0
steps_answer view index n (Ok None) old new none s = walk_end index n (rest old) s.0
steps_answer view index n (Err e) old new none s =
    (s.0, walk_fault index n (rest old) (fault_of e) s.1)

-- a walk that has passed that many items finds what stands next
pub walk_last : {X : Type 0} (view : X → List ℕ) (first skip passed : ℕ)
    (result : Result (Option X) Error) (old new : Buffer) (total : Result (Option (List ℕ)) Fault)
    → skip ≤ passed → passed ≤ skip
    → item_number (items_from (first + passed) (rest old)) (skip - passed) ≡ total
    → Steps view (first + skip) result old new → Parses (seen view) result total
walk_last {X} view first skip passed result old new total past within so_far s =
    let same : first + skip ≡ first + passed = omega arith in
    let none : skip - passed ≡ 0 = omega arith in
    let t : item_number (items_from (first + skip) (rest old)) (skip - passed) ≡ total =
    rw same so_far in
    subst (λ (read : Result (Option (List ℕ)) Fault). Parses (seen view) result read) t
    (steps_answer view (first + skip) (skip - passed) result old new none s)
