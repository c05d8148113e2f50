-- Looking up in a list whose places ascend, by how many of its entries begin at a place or before
-- it.
use Rattle.std.proofs.Common.{◌≡◌, ℕ, ◌<◌, ◌≤◌, not, get_or, Bool, true, false, List, []}
use Rattle.std.proofs.Common.{◌∷◌, Option, None, Some, length, zero, suc, refl, sym, ap, ◌∙◌, arith}
use Rattle.std.proofs.Common.{inl, inr}
use Rattle.std.specs.Prelude.{slice_get, option_and_then, option_map, ◌==◌}
use Rattle.std.specs.List.{find}
use Rattle.std.specs.List.Sorted.{IsPartitionPoint, IsPartitionedBy}
use Rattle.std.proofs.lemmas.Bool.{cases_Bool, cases_lt}
use Rattle.std.proofs.lemmas.Bool.Decides.{nat_tests}
use Rattle.std.proofs.lemmas.List.{length-map}
use Rattle.std.proofs.lemmas.Option.{slice_get-get_or, slice_get-map, slice_get_within}
use Rattle.pdb_addresses.specs.declared.internal_section_offset.PdbInternalSectionOffset.{
  PdbInternalSectionOffset,
}
use Rattle.pdb_contributions.specs.Publics.{PublicFunction, is_before, is_at, is_at_or_before}
use Rattle.pdb_contributions.specs.Publics.{is_behind, last_at_or_before, public_exactly}
use Rattle.pdb_contributions.specs.Publics.{next_public, publics_among, Rises, IsSplit, last_of}
use Rattle.pdb_contributions.specs.Publics.{placeholder, placeholders, if_at, in_section}
use Rattle.pdb_contributions.proofs.OnePlace.{places_rise}

-- the places of a public list ascend
pub rises : (given : List PublicFunction) → Rises (publics_among given)
rises given = record { each = places_rise given }

-- ---- places

abbrev Place : Type 0
Place = PdbInternalSectionOffset

behind_not_before : (p : Place) (f : PublicFunction) → is_before p f.start_offset ≡ true
    → is_at_or_before p f ≡ false
behind_not_before p f h = grind (arith, nat_tests)

behind_not_at : (p : Place) (f : PublicFunction) → is_before p f.start_offset ≡ true
    → is_at p f ≡ false
behind_not_at p f h = grind (arith, nat_tests)

front_not_behind : (p : Place) (f : PublicFunction) → is_before p f.start_offset ≡ false
    → is_behind p f ≡ false
front_not_behind p f h = grind (arith, nat_tests)

front_here : (p : Place) (f : PublicFunction) → is_before p f.start_offset ≡ false
    → ((f.start_offset).section == p.section) ≡ true → is_at_or_before p f ≡ true
front_here p f h e = grind (arith, nat_tests)

back_here : (p : Place) (f : PublicFunction) → is_before p f.start_offset ≡ true
    → ((f.start_offset).section == p.section) ≡ true → is_behind p f ≡ true
back_here p f h e = grind (arith, nat_tests)

-- what comes before an entry in another section, or is it, isn't at the place or before it in its
-- section
front_other : (p : Place) (f g : PublicFunction) → is_before p f.start_offset ≡ false
    → ((f.start_offset).section == p.section) ≡ false
    → is_before g.start_offset f.start_offset ≡ true → is_at_or_before p g ≡ false
front_other p f g h e b = grind (arith, nat_tests)

other_here : (p : Place) (f : PublicFunction) → ((f.start_offset).section == p.section) ≡ false
    → is_at_or_before p f ≡ false
other_here p f e = grind (arith, nat_tests)

back_other : (p : Place) (f g : PublicFunction) → is_before p f.start_offset ≡ true
    → ((f.start_offset).section == p.section) ≡ false
    → is_before f.start_offset g.start_offset ≡ true → is_behind p g ≡ false
back_other p f g h e b = grind (arith, nat_tests)

other_behind : (p : Place) (f : PublicFunction) → ((f.start_offset).section == p.section) ≡ false
    → is_behind p f ≡ false
other_behind p f e = grind (arith, nat_tests)

-- what comes before an entry that doesn't begin after the place isn't at it
front_not_at : (p : Place) (f g : PublicFunction) → is_before p f.start_offset ≡ false
    → is_before g.start_offset f.start_offset ≡ true → is_at p g ≡ false
front_not_at p f g h b = grind (arith, nat_tests)

-- ---- the only entry that counts

pub find_none : (test : PublicFunction → Bool) (list : List PublicFunction)
    → ((i : ℕ) (f : PublicFunction) → slice_get list i ≡ Some f → test f ≡ false)
    → find test list ≡ None
find_none test [] h = refl
find_none test (f ∷ others) h = rw (h 0 f refl) (find_none test others (λ i g e. h (suc i) g e))

pub find_is : (test : PublicFunction → Bool) (list : List PublicFunction) (k : ℕ) (f : PublicFunction)
    → slice_get list k ≡ Some f → test f ≡ true
    → ((i : ℕ) (g : PublicFunction) → i < k → slice_get list i ≡ Some g → test g ≡ false)
    → find test list ≡ Some f
find_is test [] k f e h before = absurd (cc)
find_is test (g ∷ others) zero f e h before = let same : f ≡ g = cc in let here : test g ≡ true =
    ap test (sym same) ∙ h in rw here e
find_is test (g ∷ others) (suc k) f e h before =
    rw (before 0 g (omega arith) refl)
    (find_is test others k f e h (λ i x lt there. before (suc i) x (omega arith) there))

pub last_none : (list : List PublicFunction) (p : Place)
    → ((i : ℕ) (f : PublicFunction) → slice_get list i ≡ Some f → is_at_or_before p f ≡ false)
    → last_at_or_before list p ≡ None
last_none [] p h = refl
last_none (f ∷ others) p h = rw (last_none others p (λ i g e. h (suc i) g e), h 0 f refl) refl

pub last_is : (list : List PublicFunction) (p : Place) (k : ℕ) (f : PublicFunction)
    → slice_get list k ≡ Some f → is_at_or_before p f ≡ true
    → ((i : ℕ) (g : PublicFunction) → k < i → slice_get list i ≡ Some g
    → is_at_or_before p g ≡ false) → last_at_or_before list p ≡ Some f
last_is [] p k f e h after = absurd (cc)
last_is (g ∷ others) p zero f e h after =
    let same : f ≡ g = cc in
    let here : is_at_or_before p g ≡ true = ap (is_at_or_before p) (sym same) ∙ h in
    rw (last_none others p (λ i x there. after (suc i) x (omega arith) there), here) e
last_is (g ∷ others) p (suc k) f e h after =
    rw (last_is others p k f e h (λ i x lt there. after (suc i) x (omega arith) there)) refl

-- ---- lookups

no_entry : PublicFunction
no_entry = record { start_offset = record { offset = 0; section = 0 }; name = None }

-- all before the last entry of the prefix come before it
last_at_front : (list : List PublicFunction) (p : Place) (k : ℕ) (f : PublicFunction) → Rises list
    → IsSplit list p (suc k) → slice_get list k ≡ Some f → last_at_or_before list p ≡ in_section p f
last_at_front list p k f rise split e = elim (cases_Bool ((f.start_offset).section == p.section)) [
  | inl here ↦
      rw here (last_is list p k f e (front_here p f (split.front k f (omega arith) e) here)
      (λ i g lt x. behind_not_before p g (split.back i g (omega arith) x)))
  | inr other ↦ rw other (last_none list p (λ i g x. elim (cases_lt i k) [
    | inl lt ↦ front_other p f g (split.front k f (omega arith) e) other (rise.each i k g f lt x e)
    | inr le ↦ elim (cases_lt k i) [
      | inl lt ↦ behind_not_before p g (split.back i g (omega arith) x)
      | inr ge ↦ (let at : i ≡ k = omega arith in let same : g ≡ f = cc in
          ap (is_at_or_before p) same ∙ other_here p f other)
    ]
  ]))
]

pub last_by_split : (list : List PublicFunction) (p : Place) (n : ℕ) → Rises list → IsSplit list p n
    → last_at_or_before list p ≡ option_and_then (in_section p) (last_of list n)
last_by_split list p zero rise split =
    last_none list p (λ i f e. behind_not_before p f (split.back i f (omega arith) e))
last_by_split list p (suc k) rise split =
    let lt : k < length list = omega (arith, split.bound) in
    let e = slice_get-get_or list k no_entry lt in
    rw e (last_at_front list p k _ rise split e)

exactly_at_front : (list : List PublicFunction) (p : Place) (k : ℕ) (f : PublicFunction)
    → Rises list → IsSplit list p (suc k) → slice_get list k ≡ Some f
    → public_exactly list p ≡ if_at p f
exactly_at_front list p k f rise split e = elim (cases_Bool (is_at p f)) [
  | inl here ↦
      rw here (find_is (is_at p) list k f e here
      (λ i g lt x. front_not_at p f g (split.front k f (omega arith) e) (rise.each i k g f lt x e)))
  | inr other ↦ rw other (find_none (is_at p) list (λ i g x. elim (cases_lt i k) [
    | inl lt ↦ front_not_at p f g (split.front k f (omega arith) e) (rise.each i k g f lt x e)
    | inr le ↦ elim (cases_lt k i) [
      | inl lt ↦ behind_not_at p g (split.back i g (omega arith) x)
      | inr ge ↦
          (let at : i ≡ k = omega arith in let same : g ≡ f = cc in ap (is_at p) same ∙ other)
    ]
  ]))
]

pub exactly_by_split : (list : List PublicFunction) (p : Place) (n : ℕ) → Rises list
    → IsSplit list p n → public_exactly list p ≡ option_and_then (if_at p) (last_of list n)
exactly_by_split list p zero rise split =
    find_none (is_at p) list (λ i f e. behind_not_at p f (split.back i f (omega arith) e))
exactly_by_split list p (suc k) rise split =
    let lt : k < length list = omega (arith, split.bound) in
    let e = slice_get-get_or list k no_entry lt in
    rw e (exactly_at_front list p k _ rise split e)

next_at_back : (list : List PublicFunction) (p : Place) (n : ℕ) (f : PublicFunction) → Rises list
    → IsSplit list p n → slice_get list n ≡ Some f → next_public list p ≡ in_section p f
next_at_back list p n f rise split e = elim (cases_Bool ((f.start_offset).section == p.section)) [
  | inl here ↦
      rw here
      (find_is (is_behind p) list n f e (back_here p f (split.back n f (omega arith) e) here)
      (λ i g lt x. front_not_behind p g (split.front i g lt x)))
  | inr other ↦ rw other (find_none (is_behind p) list (λ i g x. elim (cases_lt i n) [
    | inl lt ↦ front_not_behind p g (split.front i g lt x)
    | inr le ↦ elim (cases_lt n i) [
      | inl lt ↦ back_other p f g (split.back n f (omega arith) e) other (rise.each n i f g lt e x)
      | inr ge ↦ (let at : i ≡ n = omega arith in let same : g ≡ f = cc in
          ap (is_behind p) same ∙ other_behind p f other)
    ]
  ]))
]

next_of : (list : List PublicFunction) (p : Place) (n : ℕ) → Rises list → IsSplit list p n
    → (o : Option PublicFunction) → slice_get list n ≡ o
    → next_public list p ≡ option_and_then (in_section p) o
next_of list p n rise split None e = find_none (is_behind p) list (λ i g x. elim (cases_lt i n) [
  | inl lt ↦ front_not_behind p g (split.front i g lt x)
  | inr le ↦ (let in_front : i < length list = slice_get_within list i g x in
      let here = slice_get-get_or list n no_entry (omega arith) in absurd cc)
])
next_of list p n rise split (Some f) e = next_at_back list p n f rise split e

pub next_by_split : (list : List PublicFunction) (p : Place) (n : ℕ) → Rises list → IsSplit list p n
    → next_public list p ≡ option_and_then (in_section p) (slice_get list n)
next_by_split list p n rise split = next_of list p n rise split (slice_get list n) refl

-- ---- where the list is split

before_all : (p : Place) (f g : PublicFunction) → is_before f.start_offset g.start_offset ≡ true
    → not (is_before p g.start_offset) ≡ true → not (is_before p f.start_offset) ≡ true
before_all p f g b h = grind (arith, nat_tests)

-- what doesn't begin after a place comes before what does
pub front_first : (list : List PublicFunction) (p : Place) → Rises list
    → IsPartitionedBy (λ f. not (is_before p f.start_offset)) list
front_first list p rise i j d le lt h = elim (cases_lt i j) [
  | inl before ↦ before_all p (get_or list i d) (get_or list j d)
      (rise.each i j (get_or list i d) (get_or list j d) before
      (slice_get-get_or list i d (omega arith)) (slice_get-get_or list j d lt)) h
  | inr past ↦ (let same : i ≡ j = omega arith in rw same h)
]

not_false : (b : Bool) → not b ≡ true → b ≡ false
not_false true h = absurd (cc)
not_false false h = refl

not_true : (b : Bool) → not b ≡ false → b ≡ true
not_true true h = refl
not_true false h = absurd (cc)

at_index : (list : List PublicFunction) (i : ℕ) (f : PublicFunction) → slice_get list i ≡ Some f
    → get_or list i no_entry ≡ f
at_index list i f e = let here = slice_get-get_or list i no_entry (slice_get_within list i f e) in
    cc

pub split_of : (list : List PublicFunction) (p : Place) (n : ℕ) → n ≤ length list
    → IsPartitionPoint (λ f. not (is_before p f.start_offset) ≡ true)
    (λ f. not (is_before p f.start_offset) ≡ false) list n → IsSplit list p n
split_of list p n bound at = record {
  bound = bound;
  front = λ i f lt e. not_false (is_before p f.start_offset)
      (ap (λ (g : PublicFunction). not (is_before p g.start_offset)) (sym (at_index list i f e))
      ∙ at.0 i no_entry (omega arith) lt);
  back = λ i f le e. not_true (is_before p f.start_offset)
      (ap (λ (g : PublicFunction). not (is_before p g.start_offset)) (sym (at_index list i f e))
      ∙ at.1 i no_entry le (slice_get_within list i f e));
}

-- ---- places in order

placed_at : (starts : List Place) (i : ℕ) (d : Place) → i < length starts
    → slice_get (placeholders starts) i ≡ Some (placeholder (get_or starts i d))
placed_at starts i d lt = slice_get-map placeholder starts i
    ∙ ap (option_map placeholder) (slice_get-get_or starts i d lt)

-- the placeholder at a place
pub start_there : (starts : List Place) (n : ℕ) (p : Place) → Some p ≡ slice_get starts n
    → Some (placeholder p) ≡ slice_get (placeholders starts) n
start_there starts n p e =
    ap (option_map placeholder) e ∙ sym (slice_get-map placeholder starts n)

-- past the last place there is none
pub start_missing : (starts : List Place) (n : ℕ) → None ≡ slice_get starts n
    → None ≡ slice_get (placeholders starts) n
start_missing starts n e =
    ap (option_map placeholder) e ∙ sym (slice_get-map placeholder starts n)

-- of places in order, those that aren't past a place come before the others
pub starts_first : (starts : List Place) (p : Place) → Rises (placeholders starts)
    → IsPartitionedBy (λ start. not (is_before p start)) starts
starts_first starts p rise i j d le lt h = elim (cases_lt i j) [
  | inl before ↦ before_all p (placeholder (get_or starts i d)) (placeholder (get_or starts j d))
      (rise.each i j (placeholder (get_or starts i d)) (placeholder (get_or starts j d)) before
      (placed_at starts i d (omega arith)) (placed_at starts j d lt)) h
  | inr past ↦ (let same : i ≡ j = omega arith in rw same h)
]

no_place : Place
no_place = record { offset = 0; section = 0 }

start_within : (starts : List Place) (i : ℕ) (f : PublicFunction)
    → slice_get (placeholders starts) i ≡ Some f → i < length starts
start_within starts i f e =
    let as_many : length (placeholders starts) ≡ length starts = length-map starts placeholder in
    omega (arith, slice_get_within (placeholders starts) i f e, as_many)

at_start : (starts : List Place) (i : ℕ) (f : PublicFunction)
    → slice_get (placeholders starts) i ≡ Some f → placeholder (get_or starts i no_place) ≡ f
at_start starts i f e =
    let here = placed_at starts i no_place (start_within starts i f e) in cc

pub starts_split : (starts : List Place) (p : Place) (n : ℕ) → n ≤ length starts
    → IsPartitionPoint (λ s. not (is_before p s) ≡ true) (λ s. not (is_before p s) ≡ false) starts n
    → IsSplit (placeholders starts) p n
starts_split starts p n bound at = record {
  bound =
      let as_many : length (placeholders starts) ≡ length starts = length-map starts placeholder in
      omega (arith, bound, as_many);
  front = λ i f lt e. not_false (is_before p f.start_offset)
      (ap (λ (g : PublicFunction). not (is_before p g.start_offset)) (sym (at_start starts i f e))
      ∙ at.0 i no_place (omega arith) lt);
  back = λ i f le e. not_true (is_before p f.start_offset)
      (ap (λ (g : PublicFunction). not (is_before p g.start_offset)) (sym (at_start starts i f e))
      ∙ at.1 i no_place le (start_within starts i f e));
}

-- ---- the two entries at a split decide all others

begun_first : (p : Place) (f g : PublicFunction) → is_before g.start_offset f.start_offset ≡ true
    → is_before p f.start_offset ≡ false → is_before p g.start_offset ≡ false
begun_first p f g b h = grind (arith, nat_tests)

further_back : (p : Place) (f g : PublicFunction) → is_before f.start_offset g.start_offset ≡ true
    → is_before p f.start_offset ≡ true → is_before p g.start_offset ≡ true
further_back p f g b h = grind (arith, nat_tests)

-- none up to an entry that doesn't begin after the place begins after it
pub front_up_to : (list : List PublicFunction) (p : Place) (n : ℕ) (f : PublicFunction) → Rises list
    → Some f ≡ last_of list n → is_before p f.start_offset ≡ false → (i : ℕ) (g : PublicFunction)
    → i < n → slice_get list i ≡ Some g → is_before p g.start_offset ≡ false
front_up_to list p zero f rise e h = absurd (cc)
front_up_to list p (suc k) f rise e h = λ i g lt x. elim (cases_lt i k) [
  | inl less ↦ begun_first p f g (rise.each i k g f less x (sym e)) h
  | inr le ↦ (let at : i ≡ k = omega arith in let same : g ≡ f = cc in
      ap (λ (o : PublicFunction). is_before p o.start_offset) same ∙ h)
]

-- where none of the first entries is the last one, there are none
pub front_none : (list : List PublicFunction) (p : Place) (n : ℕ) → n ≤ length list
    → None ≡ last_of list n → (i : ℕ) (g : PublicFunction) → i < n → slice_get list i ≡ Some g
    → is_before p g.start_offset ≡ false
front_none list p zero bound e = λ i g lt x. absurd (omega arith)
front_none list p (suc k) bound e =
    let here = slice_get-get_or list k no_entry (omega arith) in absurd cc

-- all from an entry that begins after the place begin after it
pub back_from : (list : List PublicFunction) (p : Place) (n : ℕ) (f : PublicFunction) → Rises list
    → Some f ≡ slice_get list n → is_before p f.start_offset ≡ true → (i : ℕ) (g : PublicFunction)
    → n ≤ i → slice_get list i ≡ Some g → is_before p g.start_offset ≡ true
back_from list p n f rise e h = λ i g le x. elim (cases_lt n i) [
  | inl less ↦ further_back p f g (rise.each n i f g less (sym e) x) h
  | inr ge ↦ (let at : i ≡ n = omega arith in let same : g ≡ f = cc in
      ap (λ (o : PublicFunction). is_before p o.start_offset) same ∙ h)
]

-- no entry is past the last one
pub back_none : (list : List PublicFunction) (p : Place) (n : ℕ) → None ≡ slice_get list n
    → (i : ℕ) (g : PublicFunction) → n ≤ i → slice_get list i ≡ Some g
    → is_before p g.start_offset ≡ true
back_none list p n e = λ i g le x.
    (let within : i < length list = slice_get_within list i g x in
    let here = slice_get-get_or list n no_entry (omega arith) in absurd cc)

-- the list is split where both hold
pub split_by : (list : List PublicFunction) (p : Place) (n : ℕ) → n ≤ length list
    → ((i : ℕ) (g : PublicFunction) → i < n → slice_get list i ≡ Some g
    → is_before p g.start_offset ≡ false)
    → ((i : ℕ) (g : PublicFunction) → n ≤ i → slice_get list i ≡ Some g
    → is_before p g.start_offset ≡ true) → IsSplit list p n
split_by list p n bound front back = record { bound = bound; front = front; back = back }
