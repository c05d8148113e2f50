-- What is loaded in order is loaded the same in any.
use Rattle.std.proofs.Common.{◌≡◌, ◌⊎◌, inl, inr, true, false, List, Result, Ok, Err, refl, ap, ◌∙◌}
use Rattle.std.specs.Prelude.{None, Some, IfErr, not}
use Rattle.std.specs.Result.{IsErrAnd}
use Rattle.pdb_addresses.specs.Addresses.{is_ordered}
use Rattle.pdb_addr2line.specs.Choice.{Parts}
use Rattle.pdb_addr2line.specs.Parts.{parts_of, parts_in_any_order, parts_over}
use Rattle.pdb_container.specs.Fault as container
use Rattle.pdb_container.specs.Fault.{◌>>=◌, refuse}
use Rattle.pdb_container.specs.Listing.{whole}
use Rattle.pdb_contributions.specs.MergedContributions.{Held, held_of}
use Rattle.pdb_contributions.specs.Publics.{PublicFunction}
use Rattle.pdb_contributions.specs.UnmergedContributions.{held_in_any_order, unless_unordered, unmerged_of}
use Rattle.pdb_loading.specs.declared.order.ContributionOrder.TheVariants.{InOrder, Any}
use Rattle.pdb_loading.specs.Loading.{AddressTableDecreases, Loaded, LoadingFault, Pdb, Tables, in_loading, lifted, listed, load_fault, load_fault_with, loaded, loaded_with, none_or, parts_in, tables}
use Rattle.pdb_loading.specs.ModuleInfos.{if_read}
use Rattle.pdb_report.specs.AnyOrder.{is_for_order}
use Rattle.pdb_resolving.specs.Fault as answers
use Rattle.pdb_resolving.specs.Fault.{UnorderedSectionContributions}
use Rattle.pdb_symbols_modules.specs.Contributions.{contributions_of}
use Rattle.pdb_symbols_modules.specs.DatabaseCalls.{debug_information, names}
use Rattle.pdb_symbols_modules.specs.Dbi.{Dbi}
use Rattle.pdb_symbols_modules.specs.Shared.{Shared, shared}
use Rattle.pdb_symbols_modules.specs.Streams.{Streams, fault_in}

-- ---- the same, but for a fault for the order

-- a reading in any order is that in order, unless that one fails for the order
abbrev Same : {A : Type 0} → Result A LoadingFault → Result A LoadingFault → Type 0
Same r other = (other ≡ r) ⊎ IsErrAnd r (λ e. is_for_order e ≡ true)

same_first : {A B : Type 0} (r other : Result A LoadingFault) (f : A → Result B LoadingFault) → Same r other → Same (r >>= f) (other >>= f)
same_first r other f (inl same) = inl (ap (λ (x : Result _ LoadingFault). x >>= f) same)
same_first (Ok x) other f (inr h) = absurd h
same_first (Err e) other f (inr h) = inr h

same_then : {A B : Type 0} (r : Result A LoadingFault) (f g : A → Result B LoadingFault) → ((x : A) → Same (f x) (g x)) → Same (r >>= f) (r >>= g)
same_then (Ok x) f g h = h x
same_then (Err e) f g h = inl refl

parts_same : (entries : Result (List PublicFunction) container.Fault) (held other : Result Held answers.Fault) (make : List PublicFunction → Held → Parts)
    → Same (in_loading (answers.lifted entries >>= λ functions. held >>= λ h. Ok (make functions h)))
    (in_loading (answers.lifted entries >>= λ functions. unless_unordered held other >>= λ h. Ok (make functions h)))
parts_same (Err e) held other make = inl refl
parts_same (Ok functions) (Ok h) other make = inl refl
parts_same (Ok functions) (Err (UnorderedSectionContributions m s)) other make = inr refl
parts_same (Ok functions) (Err e) other make = inl refl

parts_in_same : (c : Shared) (dbi : Dbi) (read : Tables) → Same (parts_in InOrder c dbi read) (parts_in Any c dbi read)
unfolding parts_of parts_in_any_order held_in_any_order
parts_in_same c dbi read =
    parts_same _ (held_of read.map.image dbi.contributions) (unmerged_of read.map.image dbi.contributions)
    (parts_over read.map.image read.map (if_read (names c)))

loaded_same : (c : Shared) → Same (loaded c) (loaded_with Any c)
unfolding loaded_with
loaded_same c =
    same_then (lifted (none_or c.open_fault)) _ _ λ _.
    same_then (lifted (debug_information c)) _ _ λ dbi.
    same_then (lifted (tables c dbi)) _ _ λ read.
    same_then (refuse (not (is_ordered read.map)) AddressTableDecreases) _ _ λ _.
    same_then (lifted (listed dbi)) _ _ λ _.
    same_first (parts_in InOrder c dbi read) (parts_in Any c dbi read) _ (parts_in_same c dbi read)

no_order_fault : {A : Type 0} (r : Result A LoadingFault) (P : LoadingFault → Type 0) → fault_in r ≡ None → IsErrAnd r P → ⊥
no_order_fault (Ok x) P h for_order = for_order
no_order_fault (Err e) P h for_order = absurd cc

-- a file that loads in order loads the same in any
pub loads_same : (s : Streams) → load_fault s ≡ None → loaded_with Any (shared s) ≡ loaded (shared s)
loads_same s none = elim (loaded_same (shared s)) [
  | inl same ↦ same
  | inr for_order ↦ absurd (no_order_fault (loaded (shared s)) (λ e. is_for_order e ≡ true) none for_order)
]

for_order_is : {A : Type 0} (r : Result A LoadingFault) (e : LoadingFault) → fault_in r ≡ Some e → IsErrAnd r (λ f. is_for_order f ≡ true) → is_for_order e ≡ true
for_order_is (Ok x) e h for_order = absurd for_order
for_order_is (Err f) e h for_order = let same : f ≡ e = cc in rw (← same) for_order

true_and_false : {A : Type 0} (e : LoadingFault) → is_for_order e ≡ true → is_for_order e ≡ false → A
true_and_false e is_so is_not = absurd cc

-- another fault than for the order is the same in any
pub faults_same : (s : Streams) (e : LoadingFault) → load_fault s ≡ Some e → is_for_order e ≡ false → load_fault_with Any s ≡ Some e
faults_same s e fault other = elim (loaded_same (shared s)) [
  | inl same ↦ ap (λ (r : Result Loaded LoadingFault). fault_in r) same ∙ fault
  | inr for_order ↦ true_and_false e (for_order_is (loaded (shared s)) e fault for_order) other
]

-- ---- no fault for the order

abbrev NotForOrder : {A : Type 0} → Result A LoadingFault → Type 0
NotForOrder r = IfErr r (λ e. is_for_order e ≡ false)

not_bind : {A B : Type 0} (r : Result A LoadingFault) (f : A → Result B LoadingFault) → NotForOrder r → ((x : A) → NotForOrder (f x)) → NotForOrder (r >>= f)
not_bind (Ok x) f h then_ = then_ x
not_bind (Err e) f h then_ = h

not_lifted : {A : Type 0} (r : Result A container.Fault) → NotForOrder (lifted r)
not_lifted (Ok x) = tt
not_lifted (Err e) = refl

not_refused : (b : _) → NotForOrder (refuse b AddressTableDecreases)
not_refused true = refl
not_refused false = tt

-- what isn't merged is refused by its container alone
not_unmerged : {A B C : Type 0} (first : Result A container.Fault) (second : A → Result B container.Fault) (make : A → B → C)
    → IfErr (answers.lifted first >>= λ a. answers.lifted (second a) >>= λ b. Ok (make a b)) (λ e. is_for_order (Pdb e) ≡ false)
not_unmerged (Err e) second make = refl
not_unmerged (Ok a) second make = second_of (second a) (make a)
  where
    second_of : {B C : Type 0} (r : Result B container.Fault) (f : B → C) → IfErr (answers.lifted r >>= λ b. let x : Result C answers.Fault = Ok (f b) in x) (λ e. is_for_order (Pdb e) ≡ false)
    second_of (Ok b) f = tt
    second_of (Err e) f = refl

not_parts : (entries : Result (List PublicFunction) container.Fault) (held other : Result Held answers.Fault) (make : List PublicFunction → Held → Parts)
    → IfErr other (λ e. is_for_order (Pdb e) ≡ false)
    → NotForOrder (in_loading (answers.lifted entries >>= λ functions. unless_unordered held other >>= λ h. Ok (make functions h)))
not_parts (Err e) held other make h = refl
not_parts (Ok functions) (Ok found) other make h = tt
not_parts (Ok functions) (Err (UnorderedSectionContributions m s)) (Ok found) make h = tt
not_parts (Ok functions) (Err (UnorderedSectionContributions m s)) (Err e) make h = h
not_parts (Ok functions) (Err e) other make h = refl

not_parts_in : (c : Shared) (dbi : Dbi) (read : Tables) → NotForOrder (parts_in Any c dbi read)
unfolding parts_in_any_order held_in_any_order
not_parts_in c dbi read =
    not_parts _ (held_of read.map.image dbi.contributions) (unmerged_of read.map.image dbi.contributions)
    (parts_over read.map.image read.map (if_read (names c))) (not_unmerged (contributions_of dbi.contributions) (λ entries. whole entries) _)

not_loaded : (c : Shared) → NotForOrder (loaded_with Any c)
unfolding loaded_with
not_loaded c =
    not_bind (lifted (none_or c.open_fault)) _ (not_lifted (none_or c.open_fault)) λ _.
    not_bind (lifted (debug_information c)) _ (not_lifted (debug_information c)) λ dbi.
    not_bind (lifted (tables c dbi)) _ (not_lifted (tables c dbi)) λ read.
    not_bind (refuse (not (is_ordered read.map)) AddressTableDecreases) _ (not_refused (not (is_ordered read.map))) λ _.
    not_bind (lifted (listed dbi)) _ (not_lifted (listed dbi)) λ _.
    not_bind (parts_in Any c dbi read) _ (not_parts_in c dbi read) λ parts. tt

not_fault : {A : Type 0} (r : Result A LoadingFault) (e : LoadingFault) → NotForOrder r → fault_in r ≡ Some e → is_for_order e ≡ false
not_fault (Ok x) e h fault = absurd cc
not_fault (Err f) e h fault = let same : f ≡ e = cc in rw (← same) h

-- no file is refused for the order, where any is taken
pub none_for_order : (s : Streams) (e : LoadingFault) → load_fault_with Any s ≡ Some e → is_for_order e ≡ false
none_for_order s e fault = not_fault (loaded_with Any (shared s)) e (not_loaded (shared s)) fault
