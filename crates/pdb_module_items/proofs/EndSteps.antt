-- How far a table was gone over, and what is found there.
use Rattle.std.proofs.Common.{◌≡◌, ℕ, zero, suc, ◌+◌, ◌-◌, ◌*◌, ◌^◌, ◌<◌, ◌≤◌, List, [], ◌∷◌, refl}
use Rattle.std.proofs.Common.{sym, subst, ap, ◌∙◌, Bool, true, false, cond, nat_lt, nat_le, arith}
use Rattle.std.specs.Prelude.{Option, Some, None, Result, Ok, Err, slice_get, ◌==◌}
use Rattle.std.proofs.Common.{inl, inr}
use Rattle.std.proofs.lemmas.Bool.{le-leb, lt-leb, le-ltb, lt-ltb, ltb-true, ltb-false}
use Rattle.std.proofs.lemmas.Bool.Decides.{eqb_tells}
use Rattle.pdb_container.specs.Fault.{Fault, TypeNotFound, fault_of, IsOfBytes, Parses}
use Rattle.pdb_container.specs.declared.error.Error.{Error}
use Rattle.pdb_container.specs.Listing.{Listing}
use Rattle.pdb_container_types.specs.Items.{Table, items_of, item_or_end, item_number, found_or_fault}
use Rattle.pdb_container_types.specs.Items.{item_at}
use Rattle.pdb_container_types.specs.IteratorAndFinder.{ItemIteration, Finding, fresh_iteration}
use Rattle.pdb_container_types.specs.IteratorAndFinder.{fresh_finding, first_unknown, last_known, find_in}
use Rattle.pdb_container_types.specs.IteratorAndFinder.{next_answer, iteration_behind, answer_in_progress}
use Rattle.pdb_container_types.specs.IteratorAndFinder.{shown}
use Rattle.pdb_container_types.specs.declared.item_iter.Progress.{Progress}
use Rattle.pdb_module_items.specs.declared.item_map.End.{End}
use Rattle.pdb_module_items.specs.declared.item_map.End.TheVariants as ends
use Rattle.pdb_module_items.specs.Ends.{IsShown, IsReached, IsKept}

-- ---- a fresh table

-- of a fresh finder and iterator nothing is known of the end
pub kept_fresh : (t : Table) (f : Finding) (it : ItemIteration) (minimum maximum : ℕ)
    → f ≡ fresh_finding t → it ≡ fresh_iteration t → minimum ≡ t.minimum → maximum ≡ t.maximum
    → IsKept f it ends.Ahead minimum maximum
kept_fresh t f it minimum maximum found_or_fault gone low high =
    let before : t.minimum < t.minimum + 8 * 1 = omega arith in
    rw (found_or_fault, gone)
    (record {
      low = low;
      high = high;
      shown = record { table = refl; before = before; right = refl };
    })

-- ---- what a finder knows

-- an index up to the last known one is known
pub is_below : (f : Finding) (n : ℕ) → 0 < first_unknown f → n < 2 ^ 32 → n ≤ last_known f
    → nat_lt n (first_unknown f) ≡ true
is_below f n some fits le = lt-ltb n (first_unknown f) (omega (arith, le, some))

-- an index past the last known one isn't
pub is_not_below : (f : Finding) (n : ℕ) → 0 < first_unknown f → n < 2 ^ 32 → last_known f < n
    → nat_lt n (first_unknown f) ≡ false
is_not_below f n some fits lt = le-ltb n (first_unknown f) (omega (arith, lt, some))

-- a finder that was shown an iterator knows some index
pub known_some : (f : Finding) (it : ItemIteration) (end : End) → IsShown f it end
    → 0 < first_unknown f
known_some f it end s = let before = s.before in omega arith

-- an index that is tested to be known is below the first unknown one
pub known : (f : Finding) (n : ℕ) → nat_lt n (first_unknown f) ≡ true → n < first_unknown f
known f n test = ltb-true n (first_unknown f) test

-- ---- one item more

abbrev blocks_behind : ℕ → Bool → ℕ
blocks_behind blocks here = cond here (blocks + 1) blocks

further : (minimum blocks index : ℕ) → index < minimum + 8 * blocks
    → index + 1 < minimum + 8 * blocks_behind blocks (index + 1 == minimum + 8 * blocks)
further minimum blocks index before =
    elim (eqb_tells (index + 1) (minimum + 8 * blocks)) [
      | inl e ↦ rw e.0 (let same = e.1 in omega arith)
      | inr e ↦ rw e.0 (let other = e.1 in omega arith)
    ]

-- an item more was shown, and the end is still ahead
pub shown_more : (f g : Finding) (it new : ItemIteration) (item : List ℕ) → IsShown f it ends.Ahead
    → next_answer it ≡ Ok (Some item) → new ≡ iteration_behind it (next_answer it) → g ≡ shown new f
    → IsShown g new ends.Ahead
shown_more f g it new item s e gone known =
    let table = s.table in
    let before = s.before in
    let right = s.right in
    rw (known, gone, e)
    (record {
      table = table;
      before = further f.table.minimum f.blocks it.index before;
      right = right;
    })

-- ---- an end

-- what is answered next, by the finder's table
answer_here : (f : Finding) (it : ItemIteration) (r : Result (Option (List ℕ)) Fault)
    → IsShown f it ends.Ahead → next_answer it ≡ r
    → item_number (items_of f.table) (it.index - f.table.minimum) ≡ r
answer_here f it r s e =
    subst (λ (t : Table). item_number (items_of t) (it.index - t.minimum) ≡ r) s.table
    (subst (λ (p : Progress). answer_in_progress p it.table it.index ≡ r) s.right e)

-- a list that returns no item more ends well
pub shown_good : (f : Finding) (it new : ItemIteration) → IsShown f it ends.Ahead → next_answer it
    ≡ Ok None → new ≡ iteration_behind it (next_answer it) → IsShown f new ends.Good
shown_good f it new s e gone =
    let table = s.table in
    let before = s.before in
    rw (gone, e) (record { table = table; before = before; right = answer_here f it (Ok None) s e })

-- a list that returns a fault ends badly, with it
pub shown_bad : (f : Finding) (it new : ItemIteration) (e : Error) → IsShown f it ends.Ahead
    → IsOfBytes e → next_answer it ≡ Err (fault_of e) → new ≡ iteration_behind it (next_answer it)
    → IsShown f new (ends.Bad e)
shown_bad f it new e s bytes fails gone =
    let table = s.table in
    let before = s.before in
    rw (gone, fails)
    (record {
      table = table;
      before = before;
      right = (bytes, answer_here f it (Err (fault_of e)) s fails);
    })

-- ---- after the end

abbrev HasItem : Result (Option (List ℕ)) Fault → Type 0
HasItem (Ok (Some x)) = Unit {0}
HasItem (Ok None) = ⊥
HasItem (Err e) = ⊥

-- an end that is answered at a place is answered at all places after it
ends_there : (xs : List (List ℕ)) (fault : Option Fault) (n k : ℕ)
    (r : Result (Option (List ℕ)) Fault) → n ≤ k → (HasItem r → ⊥)
    → item_or_end (slice_get xs n) fault ≡ r → item_or_end (slice_get xs k) fault ≡ r
ends_there [] fault n k r le none h = h
ends_there (x ∷ xs) fault zero k r le none h = absurd (none (subst HasItem h tt))
ends_there (x ∷ xs) fault (suc n) zero r le none h = absurd (omega (arith, le))
ends_there (x ∷ xs) fault (suc n) (suc k) r le none h =
    ends_there xs fault n k r (omega (arith, le)) none h

number_behind_end : (list : Listing (List ℕ)) (n k : ℕ) (r : Result (Option (List ℕ)) Fault) → n ≤ k
    → (HasItem r → ⊥) → item_number list n ≡ r → item_number list k ≡ r
unfolding item_number
number_behind_end list n k r le none h = ends_there list.items list.fault n k r le none h

item_behind_end : (t : Table) (index n : ℕ) (r : Result (Option (List ℕ)) Fault) → index ≤ n
    → t.minimum ≤ n → n < t.maximum → (HasItem r → ⊥)
    → item_number (items_of t) (index - t.minimum) ≡ r → item_at t n ≡ found_or_fault n r
unfolding item_at
item_behind_end t index n r le low lt none h =
    let inside : nat_le t.maximum n ≡ false = lt-leb t.maximum n lt in
    let high : nat_lt n t.minimum ≡ false = le-ltb n t.minimum low in
    rw (inside, high)
    (ap (found_or_fault n)
    (number_behind_end (items_of t) (index - t.minimum) (n - t.minimum) r
    (omega (arith, le)) none h))

-- once the end or the index is known, enough was shown for the index
pub reached : (f : Finding) (it : ItemIteration) (end : End) (n maximum : ℕ) → IsShown f it end
    → (end ≡ ends.Ahead → n < first_unknown f) → n < maximum → maximum ≡ f.table.maximum
    → IsReached f end n
reached f it ends.Ahead n maximum s known lt high = known refl
reached f it ends.Good n maximum s known lt high =
    let before = s.before in
    λ past. item_behind_end f.table it.index n (Ok None) (omega (arith, past)) (omega (arith, past))
    (omega (arith, lt, high)) (λ none. none) s.right
reached f it (ends.Bad e) n maximum s known lt high =
    let before = s.before in (
      s.right.0,
      λ past. item_behind_end f.table it.index n (Err (fault_of e)) (omega (arith, past))
          (omega (arith, past)) (omega (arith, lt, high)) (λ none. none) s.right.1,
    )

-- what is stored of a table stays right when more of it is shown
pub kept_on : (f g : Finding) (it new : ItemIteration) (before end : End) (minimum maximum : ℕ)
    → IsKept f it before minimum maximum → g.table ≡ f.table → IsShown g new end
    → IsKept g new end minimum maximum
kept_on f g it new before end minimum maximum kept same s =
    record {
      low = kept.low ∙ sym (ap (λ (t : Table). t.minimum) same);
      high = kept.high
          ∙ sym (ap (λ (t : Table). t.maximum) same);
      shown = s;
    }

-- ---- what is found

-- at or past the table's maximum no item is found
pub past_maximum : (t : Table) (n m maximum : ℕ) → n ≡ m → maximum ≡ t.maximum → maximum ≤ n
    → item_at t m ≡ Err (TypeNotFound n)
unfolding item_at
past_maximum t n m maximum same high past =
    let outside : nat_le t.maximum m ≡ true =
    le-leb t.maximum m (omega (arith, same, high, past)) in
    rw outside (ap (λ i. Err (TypeNotFound i)) (sym same))

-- what a finder finds of an index that it knows is the table's item
pub found_known : {X : Type 0} (view : X → List ℕ) (r : Result X Error) (f : Finding) (n m : ℕ)
    → n ≡ m → nat_lt n (first_unknown f) ≡ true → Parses view r (find_in f m)
    → Parses view r (item_at f.table m)
unfolding find_in
found_known view r f n m same known read =
    let inside : nat_lt m (first_unknown f) ≡ true = rw same at known in
    rw inside at read

unknown : (f : Finding) (n : ℕ) → nat_lt n (first_unknown f) ≡ false → first_unknown f ≤ n
unknown f n test = ltb-false n (first_unknown f) test

-- an index can't be unknown where enough was shown and the end is ahead
pub past_ahead : (f : Finding) (n m : ℕ) → n ≡ m → nat_lt n (first_unknown f) ≡ false
    → IsReached f ends.Ahead n → item_at f.table m ≡ Err (TypeNotFound n)
past_ahead f n m same test here = absurd (omega (arith, here, unknown f n test))

-- past a good end no item is found
pub past_good : (f : Finding) (n m : ℕ) → n ≡ m → nat_lt n (first_unknown f) ≡ false
    → IsReached f ends.Good n → item_at f.table m ≡ Err (TypeNotFound n)
past_good f n m same test here = ap (item_at f.table) (sym same) ∙ here (unknown f n test)

-- past a bad end the list's fault is found
pub past_bad : (f : Finding) (n m : ℕ) (e : Error) → n ≡ m → nat_lt n (first_unknown f) ≡ false
    → IsReached f (ends.Bad e) n → item_at f.table m ≡ Err (fault_of e)
past_bad f n m e same test here = ap (item_at f.table) (sym same) ∙ here.1 (unknown f n test)
