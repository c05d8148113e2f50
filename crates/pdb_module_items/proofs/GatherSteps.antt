-- The definitions of a table as they are gathered from its end, and the sizes of forward references
-- by them.
use Rattle.std.proofs.Common.{◌≡◌, ℕ, zero, suc, ◌+◌, ◌-◌, ◌<◌, ◌≤◌, List, [], ◌∷◌, drop, take}
use Rattle.std.proofs.Common.{refl, sym, subst, ap, ◌∙◌, Bool, true, false, cond, nat_le, arith}
use Rattle.std.specs.Prelude.{Option, Some, None, Result, Ok, Err, unwrap_or, bytes_eq}
use Rattle.std.specs.Borrow.{Bor}
use Rattle.std.specs.BTreeMap.{BTreeMap, IsEmpty, UpdatesBy, is_at}
use Rattle.std.specs.Cmp.Lexicographic.{slice_cmp}
use Rattle.std.specs.Map.{lookup}
use Rattle.std.specs.Option.{option_or}
use Rattle.std.specs.Ordering.{nat_cmp}
use Rattle.std.proofs.lemmas.Bool.{leb-true, leb-false}
use Rattle.std.proofs.lemmas.Map.Text.{btree_map_updates_str}
use Rattle.pdb_container.specs.Fault as container_fault
use Rattle.pdb_container.specs.declared.index.TypeIndex.{TypeIndex}
use Rattle.pdb_container_types.specs.Items.{Table, item_at, items_of}
use Rattle.pdb_container_types.specs.ItemType.{type_of_item}
use Rattle.pdb_records.specs.Forms.{TypeForm, Plain}
use Rattle.pdb_records.specs.Forms as forms
use Rattle.pdb_resolving.specs.Fault.{lifted}
use Rattle.pdb_module_items.specs.Definitions.{Aggregate, AreDefinitions, aggregate_of}
use Rattle.pdb_module_items.specs.Definitions.{aggregate_size_of, gathered, read_aggregate}
use Rattle.pdb_module_items.specs.Definitions.{reference_bytes}
use Rattle.pdb_module_items.specs.KeptSizes.{IsSize}
use Rattle.pdb_module_items.specs.Reading.{type_in}
use Rattle.pdb_module_items.specs.Sizes.{aggregate_bytes, defined_size, definition_behind}
use Rattle.pdb_module_items.specs.Sizes.{first_definition, form_bytes, form_size, index_past}
use Rattle.pdb_module_items.specs.Sizes.{read_bytes, records_from, size_if_defined}
use Rattle.pdb_module_items.proofs.DefinitionSteps.{records_end, records_next, records_past}

-- ---- classes and unions

abbrev IsAbsent : Option Aggregate → Type 0
IsAbsent None = Unit {0}
IsAbsent (Some a) = ⊥

abbrev size_of_some : List ℕ → Option Aggregate → Option ℕ
size_of_some wanted None = None
size_of_some wanted (Some a) = aggregate_size_of wanted a

abbrev bytes_of_some : Table → ℕ → Option Aggregate → ℕ
bytes_of_some types index None = 0
bytes_of_some types index (Some a) = aggregate_bytes types index a.is_forward_reference
    a.name a.size

-- the size that a type states for a name is that of the class or the union that it is
states : (wanted : List ℕ) (t : TypeForm) → form_size wanted t
    ≡ size_of_some wanted (aggregate_of t)
states wanted (Plain (forms.Class c)) = refl
states wanted (Plain (forms.Union u)) = refl
states wanted t = refl

states_read : (wanted : List ℕ) (r : Result TypeForm container_fault.Fault)
    → defined_size wanted r ≡ size_of_some wanted (read_aggregate r)
states_read wanted (Ok t) = states wanted t
states_read wanted (Err e) = refl

-- the size of a class or a union by the table
measures : (types : Table) (pointer_size : ℕ) (of : ℕ → ℕ) (index : ℕ) (t : TypeForm)
    (a : Aggregate) → aggregate_of t ≡ Some a
    → form_bytes types pointer_size of index t ≡ bytes_of_some types index (Some a)
measures types pointer_size of index (Plain (forms.Class c)) a h = ap (bytes_of_some types index) h
measures types pointer_size of index (Plain (forms.Union u)) a h = ap (bytes_of_some types index) h
measures types pointer_size of index t a h = absurd (subst IsAbsent h tt)

measures_read : (types : Table) (pointer_size : ℕ) (of : ℕ → ℕ) (index : ℕ)
    (r : Result TypeForm container_fault.Fault) (a : Aggregate) → read_aggregate r ≡ Some a
    → read_bytes types pointer_size of index (lifted r) ≡ bytes_of_some types index (Some a)
measures_read types pointer_size of index (Ok t) a h = measures types pointer_size of index t a h
measures_read types pointer_size of index (Err e) a h = absurd (subst IsAbsent h tt)

-- ---- what is stored under a name

chosen : (here : Bool) (size : ℕ) (behind : Option ℕ)
    → cond here (Some size) behind ≡ option_or (cond here (Some size) None) behind
chosen true size behind = refl
chosen false size behind = refl

-- the size of a definition is stored under its name, in place of that of one after it
pub name_kept : (name : List ℕ) (old new : BTreeMap (Bor (List ℕ)) ℕ) (size : ℕ)
    → UpdatesBy (λ x y. slice_cmp nat_cmp x.now y.now) (λ k. slice_cmp nat_cmp name k.now) old
    new (Some size)
    → (wanted : List ℕ) → gathered new wanted
    ≡ option_or (size_if_defined wanted false name size) (gathered old wanted)
name_kept name old new size updates wanted = btree_map_updates_str name old new (Some size) updates
    wanted ∙ chosen (bytes_eq name wanted) size (gathered old wanted)

-- in a map without entries nothing is stored
none_kept : (definitions : BTreeMap (Bor (List ℕ)) ℕ) (wanted : List ℕ) → IsEmpty definitions
    → gathered definitions wanted ≡ None
none_kept definitions wanted none =
    ap (λ (es : List (Bor (List ℕ) × ℕ)). lookup (is_at (λ k. slice_cmp nat_cmp wanted k.now)) es)
    none

-- ---- items of the table

abbrev IsGiven : Result (List ℕ) container_fault.Fault → Type 0
IsGiven (Ok x) = Unit {0}
IsGiven (Err e) = ⊥

-- an item with bytes lies below the table's maximum
below : (t : Table) (n : ℕ) (bytes : List ℕ) → item_at t n ≡ Ok bytes → n < t.maximum
unfolding item_at
below t n bytes h = step (nat_le t.maximum n) refl
  where
    step : (past : Bool) → nat_le t.maximum n ≡ past → n < t.maximum
    step true is = let wrong = rw is at h in absurd (subst IsGiven (sym wrong) tt)
    step false is = leb-false t.maximum n is

-- where the table has no item, it has no records from there on
pub none_from : (t : Table) (n : ℕ) (e : container_fault.Fault) → t.minimum ≤ n
    → item_at t n ≡ Err e → records_from t n ≡ []
none_from t n e low h = step (nat_le t.maximum n) refl
  where
    step : (past : Bool) → nat_le t.maximum n ≡ past → records_from t n ≡ []
    step true is = records_past t n (leb-true t.maximum n is)
    step false is = records_end t n e low (leb-false t.maximum n is) h

none_behind : (xs : List (List ℕ)) (n : ℕ) → drop n xs ≡ [] → drop (suc n) xs ≡ []
none_behind [] n h = refl
none_behind (x ∷ xs) zero h = cc
none_behind (x ∷ xs) (suc n) h = none_behind xs n h

-- ---- definitions from an index on

no_definition : (t : Table) (wanted : List ℕ) (n : ℕ) → records_from t n ≡ []
    → first_definition wanted n (records_from t n) ≡ None
unfolding first_definition
no_definition t wanted n none = ap (first_definition wanted n) none

next_definition : (t : Table) (wanted : List ℕ) (n : ℕ) (bytes : List ℕ) → t.minimum ≤ n
    → item_at t n ≡ Ok bytes
    → first_definition wanted n (records_from t n)
    ≡ option_or (defined_size wanted (type_of_item n bytes))
    (first_definition wanted (n + 1) (records_from t (n + 1)))
unfolding first_definition
next_definition t wanted n bytes low h =
    ap (first_definition wanted n) (records_next t n bytes low (below t n bytes h) h)

-- a map without entries holds the definitions where there are no records
pub none_gathered : (t : Table) (n : ℕ) (definitions : BTreeMap (Bor (List ℕ)) ℕ)
    → IsEmpty definitions → records_from t n ≡ [] → AreDefinitions t n definitions
none_gathered t n definitions empty none = record {
  each = λ wanted. none_kept definitions wanted empty ∙ sym (no_definition t wanted n none);
}

-- where the table has no item nothing is to be stored
pub end_passed : (t : Table) (n : ℕ) (e : container_fault.Fault)
    (definitions : BTreeMap (Bor (List ℕ)) ℕ) → t.minimum ≤ n → item_at t n ≡ Err e
    → AreDefinitions t (n + 1) definitions → AreDefinitions t n definitions
end_passed t n e definitions low h behind =
    let here : records_from t n ≡ [] = none_from t n e low h in
    let left : n + 1 - t.minimum ≡ suc (n - t.minimum) = omega arith in
    let none : records_from t (n + 1) ≡ [] = rw left
    (none_behind (take (t.maximum - t.minimum) (items_of t).items) (n - t.minimum) here) in
    record {
      each = λ wanted. behind.each wanted ∙ no_definition t wanted (n + 1) none
          ∙ sym (no_definition t wanted n here);
    }

read_at : (n : ℕ) (i : TypeIndex) (bytes : List ℕ) (o : Option Aggregate) → i ≡ record { 0 = n }
    → o ≡ read_aggregate (type_of_item i.0 bytes) → read_aggregate (type_of_item n bytes) ≡ o
read_at n i bytes o same is = ap (λ (x : TypeIndex). read_aggregate (type_of_item x.0 bytes))
    (sym same) ∙ sym is

gathered_more : (t : Table) (n : ℕ) (bytes : List ℕ) (o : Option Aggregate)
    (old new : BTreeMap (Bor (List ℕ)) ℕ) → t.minimum ≤ n → item_at t n ≡ Ok bytes
    → read_aggregate (type_of_item n bytes) ≡ o
    → ((wanted : List ℕ) → gathered new wanted
    ≡ option_or (size_of_some wanted o) (gathered old wanted)) → AreDefinitions t (n + 1) old
    → AreDefinitions t n new
gathered_more t n bytes o old new low h read more behind = record {
  each = λ wanted.
      more wanted ∙ ap (option_or (size_of_some wanted o)) (behind.each wanted)
      ∙ ap
      (λ (x : Option ℕ). option_or x (first_definition wanted (n + 1) (records_from t (n + 1))))
      (sym (states_read wanted (type_of_item n bytes) ∙ ap (size_of_some wanted) read))
      ∙ sym (next_definition t wanted n bytes low h);
}

-- what a class or a union states is stored
pub aggregate_gathered : (t : Table) (n : ℕ) (i : TypeIndex) (bytes : List ℕ) (a : Aggregate)
    (old new : BTreeMap (Bor (List ℕ)) ℕ) → t.minimum ≤ n → item_at t n ≡ Ok bytes
    → i ≡ record { 0 = n } → Some a ≡ read_aggregate (type_of_item i.0 bytes)
    → ((wanted : List ℕ) → gathered new wanted
    ≡ option_or (aggregate_size_of wanted a) (gathered old wanted))
    → AreDefinitions t (n + 1) old → AreDefinitions t n new
aggregate_gathered t n i bytes a old new low h same is more behind =
    gathered_more t n bytes (Some a) old new low h (read_at n i bytes (Some a) same is) more behind

-- another type, or one that can't be read, states nothing
pub other_passed : (t : Table) (n : ℕ) (i : TypeIndex) (bytes : List ℕ)
    (definitions : BTreeMap (Bor (List ℕ)) ℕ) → t.minimum ≤ n → item_at t n ≡ Ok bytes
    → i ≡ record { 0 = n } → None ≡ read_aggregate (type_of_item i.0 bytes)
    → AreDefinitions t (n + 1) definitions → AreDefinitions t n definitions
other_passed t n i bytes definitions low h same is behind =
    gathered_more t n bytes None definitions definitions low h (read_at n i bytes None same is)
    (λ wanted. refl) behind

-- ---- sizes of forward references

type_read : (types : Table) (n : ℕ) (bytes : List ℕ) → item_at types n ≡ Ok bytes
    → type_in types n ≡ lifted (type_of_item n bytes)
unfolding type_in
type_read types n bytes h = rw h

-- the size of a forward reference by the definitions after it
pub reference_gathered : (types : Table) (n : ℕ) (i : TypeIndex) (bytes : List ℕ) (a : Aggregate)
    (definitions : BTreeMap (Bor (List ℕ)) ℕ) → types.minimum ≤ n → item_at types n ≡ Ok bytes
    → i ≡ record { 0 = n } → Some a ≡ read_aggregate (type_of_item i.0 bytes)
    → AreDefinitions types (n + 1) definitions → a.is_forward_reference ≡ true
    → IsSize types n (reference_bytes definitions a)
reference_gathered types n i bytes a definitions low h same is behind forward pointer_size of =
    let past : index_past types n ≡ n + 1 = omega arith in
    let found : gathered definitions a.name ≡ definition_behind types n a.name =
    rw past (behind.each a.name) in
    ap (λ (o : Option ℕ). unwrap_or o a.size) found
    ∙ ap (λ (b : Bool). cond b (unwrap_or (definition_behind types n a.name) a.size) a.size)
    (sym forward)
    ∙ sym (measures_read types pointer_size of n (type_of_item n bytes) a
    (read_at n i bytes (Some a) same is))
    ∙ ap (read_bytes types pointer_size of n) (sym (type_read types n bytes h))
