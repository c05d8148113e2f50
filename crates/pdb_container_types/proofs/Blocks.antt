-- Blocks of eight indices, whose places a finder stores.
use Rattle.std.proofs.Common.{◌≡◌, ℕ, zero, suc, ◌+◌, ◌-◌, ◌*◌, ◌/◌, ◌%◌, ◌^◌, ◌<◌, ◌≤◌, List}
use Rattle.std.proofs.Common.{[], ◌∷◌, ◌++◌, length, drop, get_or, Option, None, refl, sym, ap, ◌∙◌}
use Rattle.std.proofs.Common.{arith, below_more}
use Rattle.std.proofs.Math.Seq.{get_or-append_seam}
use Rattle.std.proofs.lemmas.List.{get_or_append_left, length-append}
use Rattle.std.proofs.lemmas.Grind.{get_or_default_zero}
use Rattle.std.specs.List.{slice_get}
use Rattle.pdb_container.specs.Listing.{Listing}
use Rattle.pdb_container_types.specs.Items.{Table, items_from, items_of, item_number, item_or_end}
use Rattle.pdb_container_types.specs.KeptPlaces.{items_behind, IsPlaceAt, IsKeptOfTable}
use Rattle.pdb_container_types.proofs.Walks.{before_start}

-- the first block's place is 0
first_place : (t : Table) → t.minimum < 2 ^ 32 → (k : ℕ) (place : ℕ) → k ≡ 0 → place ≡ 0
    → IsPlaceAt t (t.minimum + 8 * k) place
first_place t fits k place none start =
    let here : t.minimum + 8 * k ≡ t.minimum = omega arith in
    rw (here, start) (omega arith, before_start t fits)

-- the place of the first block is stored at once
pub kept_start : (t : Table) (capacity : ℕ) → t.minimum < 2 ^ 32
    → length t.bytes / 32 + 1 ≤ capacity → IsKeptOfTable t (0 ∷ []) capacity 1 None
kept_start t capacity fits room = record {
  some = omega arith;
  room = room;
  each = refl;
  known = λ k lt. first_place t fits k (get_or (0 ∷ []) k 0) (omega arith)
      (let none : k ≡ 0 = omega arith in rw none refl);
  right = tt;
}

-- each item takes four bytes, so that there is room for a block after the known ones
pub room_left : (t : Table) (places : List ℕ) (capacity blocks place : ℕ) (end : Option ℕ)
    → IsKeptOfTable t places capacity blocks end → IsPlaceAt t (t.minimum + 8 * blocks) place
    → blocks < capacity
room_left t places capacity blocks place end kept here =
    let far = here.1.far in
    let room = kept.room in
    omega arith

-- the place of one block more
pub kept_more : (t : Table) (places : List ℕ) (capacity blocks place : ℕ) (end : Option ℕ)
    → IsKeptOfTable t places capacity blocks end → IsPlaceAt t (t.minimum + 8 * blocks) place
    → IsKeptOfTable t (places ++ place ∷ []) capacity (blocks + 1) end
kept_more t places capacity blocks place end kept here = record {
  some = omega arith;
  room = kept.room;
  each = length-append places (place ∷ []) ∙ ap (λ n. n + 1) kept.each;
  known =
      below_more
      (λ (k : ℕ). IsPlaceAt t (t.minimum + 8 * k) (get_or (places ++ place ∷ []) k 0)) blocks
      (λ k h. let lt : k < length places = omega (arith, kept.each) in
      rw (get_or_append_left places (place ∷ []) 0 k lt) (kept.known k h))
      (let last : get_or (places ++ place ∷ []) blocks 0 ≡ place =
      ap (λ n. get_or (places ++ place ∷ []) n 0) (sym kept.each)
      ∙ get_or-append_seam places place [] 0 in
      rw last here);
  right = kept.right;
}

-- ---- an item of a known block

element_behind : (xs : List (List ℕ)) (n m : ℕ) → slice_get (drop n xs) m ≡ slice_get xs (n + m)
element_behind xs zero m = let e : 0 + m ≡ m = omega arith in rw e refl
element_behind [] (suc n) m = refl
element_behind (x ∷ xs) (suc n) m = let e : suc n + m ≡ suc (n + m) = omega arith in
    rw e (element_behind xs n m)

number_from : (list : Listing (List ℕ)) (n m : ℕ)
    → item_number (items_behind n list) m ≡ item_number list (n + m)
unfolding item_number
number_from list n m = ap (λ (item : Option (List ℕ)). item_or_end item list.fault)
    (element_behind list.items n m)

-- an index in a known block: as many items after the block's place as after its first index
pub known_number : (t : Table) (places : List ℕ) (capacity blocks : ℕ) (end : Option ℕ)
    → (index place : ℕ) → IsKeptOfTable t places capacity blocks end → t.minimum ≤ index
    → index < t.minimum + 8 * blocks
    → place ≡ get_or places ((index - t.minimum) / 8) place
    → item_number (items_from (index - (index - t.minimum) % 8) (drop place t.bytes))
    ((index - t.minimum) % 8) ≡ item_number (items_of t) (index - t.minimum)
known_number t places capacity blocks end index place kept low known is =
    let block = (index - t.minimum) / 8 in
    let skip = (index - t.minimum) % 8 in
    let each = kept.each in
    let here = kept.known block (omega arith) in
    let read : place ≡ get_or places block 0 =
    is ∙ get_or_default_zero places block place (omega arith) in
    let first : index - skip ≡ t.minimum + 8 * block = omega arith in
    let number : t.minimum + 8 * block - t.minimum + skip ≡ index - t.minimum = omega arith in
    let at = ap (λ (list : Listing (List ℕ)). item_number list skip) (sym here.1.list) in
    rw (first, read) (at ∙ number_from (items_of t) (t.minimum + 8 * block - t.minimum) skip
    ∙ ap (item_number (items_of t)) number)
