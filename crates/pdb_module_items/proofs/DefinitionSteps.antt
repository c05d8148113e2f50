-- The first definition of a name after an index, as it is looked for.
use Rattle.std.proofs.Common.{◌≡◌, ℕ, zero, suc, ◌+◌, ◌-◌, ◌<◌, ◌≤◌, List, [], ◌∷◌, length, take}
use Rattle.std.proofs.Common.{drop, refl, sym, subst, ap, ◌∙◌, false, nat_lt, nat_le, arith}
use Rattle.std.specs.Prelude.{Option, Some, None, Result, Ok, Err, slice_get, unwrap_or}
use Rattle.std.specs.Option.{option_or}
use Rattle.std.proofs.lemmas.Bool.{lt-leb, le-ltb}
use Rattle.std.proofs.lemmas.List.{drop_all, length-take}
use Rattle.pdb_container.specs.Fault.{Fault}
use Rattle.pdb_container.specs.declared.index.TypeIndex.{TypeIndex}
use Rattle.pdb_container_types.specs.Items.{Table, items_of, item_or_end, item_number, found_or_fault}
use Rattle.pdb_container_types.specs.Items.{item_at}
use Rattle.pdb_container_types.specs.ItemType.{type_of_item}
use Rattle.pdb_module_items.specs.Sizes.{defined_size, first_definition, records_from}

-- ---- records of a table

abbrev IsAbsent : Option (List ℕ) → Type 0
IsAbsent None = Unit {0}
IsAbsent (Some x) = ⊥

abbrev IsGiven : Result (List ℕ) Fault → Type 0
IsGiven (Ok x) = Unit {0}
IsGiven (Err e) = ⊥

abbrev IsRefused : Result (List ℕ) Fault → Type 0
IsRefused (Ok x) = ⊥
IsRefused (Err e) = Unit {0}

abbrev given_or : List ℕ → Result (List ℕ) Fault → List ℕ
given_or other (Ok x) = x
given_or other (Err e) = other

given : (i : ℕ) (o : Option (List ℕ)) (fault : Option Fault) (bytes : List ℕ)
    → found_or_fault i (item_or_end o fault) ≡ Ok bytes → o ≡ Some bytes
given i (Some item) fault bytes h = ap (λ (r : Result (List ℕ) Fault). Some (given_or item r)) h
given i None None bytes h = absurd (subst IsRefused h tt)
given i None (Some e) bytes h = absurd (subst IsRefused h tt)

refused : (i : ℕ) (o : Option (List ℕ)) (fault : Option Fault) (e : Fault)
    → found_or_fault i (item_or_end o fault) ≡ Err e → o ≡ None
refused i (Some item) fault e h = absurd (subst IsGiven h tt)
refused i None fault e h = refl

listed : (t : Table) (n : ℕ) (r : Result (List ℕ) Fault) → t.minimum ≤ n → n < t.maximum
    → item_at t n ≡ r → found_or_fault n (item_number (items_of t) (n - t.minimum)) ≡ r
unfolding item_at
listed t n r low lt h =
    let inside : nat_le t.maximum n ≡ false = lt-leb t.maximum n lt in
    let high : nat_lt n t.minimum ≡ false = le-ltb n t.minimum low in
    rw (inside, high) at h

record_at : (t : Table) (n : ℕ) (bytes : List ℕ) → t.minimum ≤ n → n < t.maximum
    → item_at t n ≡ Ok bytes → slice_get (items_of t).items (n - t.minimum) ≡ Some bytes
unfolding item_number
record_at t n bytes low lt h = given n (slice_get (items_of t).items (n - t.minimum))
    (items_of t).fault bytes (listed t n (Ok bytes) low lt h)

no_record_at : (t : Table) (n : ℕ) (e : Fault) → t.minimum ≤ n → n < t.maximum → item_at t n ≡ Err e
    → slice_get (items_of t).items (n - t.minimum) ≡ None
unfolding item_number
no_record_at t n e low lt h = refused n (slice_get (items_of t).items (n - t.minimum))
    (items_of t).fault e (listed t n (Err e) low lt h)

-- ---- records from an index on

next_record : (xs : List (List ℕ)) (n k : ℕ) (x : List ℕ) → n < k → slice_get xs n ≡ Some x
    → drop n (take k xs) ≡ x ∷ drop (suc n) (take k xs)
next_record [] n k x lt h = absurd (subst IsAbsent h tt)
next_record (y ∷ ys) n zero x lt h = absurd (omega (arith, lt))
next_record (y ∷ ys) zero (suc k) x lt h = ap (λ (o : Option (List ℕ)). unwrap_or o y ∷ take k ys) h
next_record (y ∷ ys) (suc n) (suc k) x lt h = next_record ys n k x (omega (arith, lt)) h

past_length : (xs : List (List ℕ)) (n : ℕ) → slice_get xs n ≡ None → length xs ≤ n
past_length [] n h = omega arith
past_length (x ∷ xs) zero h = absurd (subst IsAbsent (sym h) tt)
past_length (x ∷ xs) (suc n) h = omega (arith, past_length xs n h)

pub records_next : (t : Table) (n : ℕ) (bytes : List ℕ) → t.minimum ≤ n → n < t.maximum
    → item_at t n ≡ Ok bytes → records_from t n ≡ bytes ∷ records_from t (n + 1)
records_next t n bytes low lt h =
    let next : n + 1 - t.minimum ≡ suc (n - t.minimum) = omega arith in
    rw next (next_record (items_of t).items (n - t.minimum) (t.maximum - t.minimum) bytes
    (omega arith) (record_at t n bytes low lt h))

pub records_end : (t : Table) (n : ℕ) (e : Fault) → t.minimum ≤ n → n < t.maximum
    → item_at t n ≡ Err e → records_from t n ≡ []
records_end t n e low lt h =
    let items = (items_of t).items in
    let within = past_length (items_of t).items (n - t.minimum) (no_record_at t n e low lt h) in
    drop_all (n - t.minimum) (take (t.maximum - t.minimum) (items_of t).items)
    (omega (arith, length-take (t.maximum - t.minimum) (items_of t).items, within))

pub records_past : (t : Table) (n : ℕ) → t.maximum ≤ n → records_from t n ≡ []
records_past t n past = drop_all (n - t.minimum) (take (t.maximum - t.minimum) (items_of t).items)
    (omega (arith, length-take (t.maximum - t.minimum) (items_of t).items))

-- ---- the first definition

here : (t : Table) (wanted : List ℕ) (n : ℕ) (bytes : List ℕ) (size total : Option ℕ) → t.minimum
    ≤ n → n < t.maximum → item_at t n ≡ Ok bytes → defined_size wanted (type_of_item n bytes) ≡ size
    → first_definition wanted n (records_from t n) ≡ total
    → option_or size (first_definition wanted (n + 1) (records_from t (n + 1))) ≡ total
unfolding first_definition
here t wanted n bytes size total low lt h stated so_far =
    subst (λ (o : Option ℕ). option_or o (first_definition wanted (n + 1) (records_from t (n + 1)))
    ≡ total) stated
    (subst (λ (records : List (List ℕ)). first_definition wanted n records ≡ total)
    (records_next t n bytes low lt h) so_far)

-- a record that defines no type of the name is passed over
pub definition_more : (t : Table) (wanted : List ℕ) (n : ℕ) (i : TypeIndex) (bytes : List ℕ)
    (total : Option ℕ) → t.minimum ≤ n → n < t.maximum → item_at t n ≡ Ok bytes
    → i ≡ record { 0 = n } → None ≡ defined_size wanted (type_of_item i.0 bytes)
    → first_definition wanted n (records_from t n) ≡ total
    → first_definition wanted (n + 1) (records_from t (n + 1)) ≡ total
definition_more t wanted n i bytes total low lt h same stated so_far =
    here t wanted n bytes None total low lt h
    (ap (λ (x : TypeIndex). defined_size wanted (type_of_item x.0 bytes)) (sym same)
    ∙ sym stated) so_far

-- a record that defines the name has the size
pub definition_found : (t : Table) (wanted : List ℕ) (n : ℕ) (i : TypeIndex) (bytes : List ℕ)
    (size : ℕ) (total : Option ℕ) → t.minimum ≤ n → n < t.maximum → item_at t n ≡ Ok bytes
    → i ≡ record { 0 = n } → Some size ≡ defined_size wanted (type_of_item i.0 bytes)
    → first_definition wanted n (records_from t n) ≡ total → Some size ≡ total
definition_found t wanted n i bytes size total low lt h same stated so_far =
    here t wanted n bytes (Some size) total low lt h
    (ap (λ (x : TypeIndex). defined_size wanted (type_of_item x.0 bytes)) (sym same)
    ∙ sym stated) so_far

-- where the table has no item, there is no definition
pub definition_end : (t : Table) (wanted : List ℕ) (n : ℕ) (e : Fault) (total : Option ℕ)
    → t.minimum ≤ n → n < t.maximum → item_at t n ≡ Err e
    → first_definition wanted n (records_from t n) ≡ total → None ≡ total
unfolding first_definition
definition_end t wanted n e total low lt h so_far =
    subst (λ (records : List (List ℕ)). first_definition wanted n records ≡ total)
    (records_end t n e low lt h) so_far

-- at the table's maximum there is no definition
pub definition_past : (t : Table) (wanted : List ℕ) (n : ℕ) (total : Option ℕ) → t.maximum ≤ n
    → first_definition wanted n (records_from t n) ≡ total → None ≡ total
unfolding first_definition
definition_past t wanted n total past so_far =
    subst (λ (records : List (List ℕ)). first_definition wanted n records ≡ total)
    (records_past t n past) so_far
