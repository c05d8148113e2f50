-- A public list as it is held: functions, and other places at which functions may begin. An entry
-- of it is a function, or a placeholder at one of the places.
use Rattle.std.proofs.Common.{◌≡◌, ℕ, zero, suc, ◌+◌, ◌<◌, ◌⊎◌, inl, inr, Bool, true, false, List}
use Rattle.std.proofs.Common.{[], ◌∷◌, ◌++◌, Option, None, Some, length, refl, sym, ap, subst, ◌∙◌}
use Rattle.std.proofs.Common.{arith}
use Rattle.std.specs.Prelude.{slice_get, is_some, not, ◌&&◌, ◌||◌, nat_le, map, if◌then◌else◌}
use Rattle.std.specs.Option.{option_or}
use Rattle.std.specs.List.{find, list_any}
use Rattle.std.proofs.lemmas.Bool.{cases_Bool}
use Rattle.std.proofs.lemmas.Bool.Decides.{nat_tests}
use Rattle.std.proofs.lemmas.List.{length-map}
use Rattle.pdb_addresses.specs.declared.internal_section_offset.PdbInternalSectionOffset.{
  PdbInternalSectionOffset,
}
use Rattle.pdb_addresses.specs.declared.sections.ImageSectionHeader.{ImageSectionHeader}
use Rattle.pdb_addresses.specs.Sections.{may_execute}
use Rattle.pdb_contributions.specs.Publics.{PublicFunction, placeholder, placeholders, is_before}
use Rattle.pdb_contributions.specs.Publics.{is_named, is_at, is_at_or_before, is_behind, preferred}
use Rattle.pdb_contributions.specs.Publics.{with_entry, publics_among, public_exactly, missing}
use Rattle.pdb_contributions.specs.Publics.{last_at_or_before, next_public}
use Rattle.pdb_contributions.specs.Publics.{section_ends_from, section_ends, Rises, joined}
use Rattle.pdb_contributions.specs.Publics.{StandApart, better_of, begins_before, begins_after}
use Rattle.pdb_contributions.specs.Publics.{first_of_two, last_of_two}
use Rattle.pdb_contributions.proofs.Lookup.{rises, find_none, find_is, last_none, last_is}
use Rattle.pdb_contributions.proofs.Missing.{one_kept, one_passed, at_itself, neither_at, place_is}
use Rattle.pdb_contributions.proofs.Missing.{chosen, on, off, in_public_list, combined, both, join}
use Rattle.pdb_contributions.proofs.Missing.{or_preferred, keeps, Unnamed, unnamed, is_there}
use Rattle.pdb_contributions.proofs.Missing.{enough_by, tail, rest_gone, first_is, alike_same}

abbrev Place : Type 0
Place = PdbInternalSectionOffset

-- an entry stands in a list
abbrev Has : PublicFunction → List PublicFunction → Type 0
Has f xs = (i : ℕ) × (slice_get xs i ≡ Some f)

not_at_later : (x f : PublicFunction) → is_before x.start_offset f.start_offset ≡ true
    → is_at f.start_offset x ≡ false
not_at_later x f h = grind (arith, nat_tests)

never_itself : (f : PublicFunction) → is_before f.start_offset f.start_offset ≡ false
never_itself f = grind (arith, nat_tests)

not_turned : (f g : PublicFunction) → is_before f.start_offset g.start_offset ≡ true
    → is_before g.start_offset f.start_offset ≡ false
not_turned f g h = grind (arith, nat_tests)

both_ways : (b : Bool) → b ≡ true → b ≡ false → ⊥
both_ways b h h' = absurd (cc)

none_of : (o : Option PublicFunction) → is_some o ≡ false → o ≡ None
none_of None h = refl
none_of (Some f) h = absurd (cc)

-- ---- what counts at a place stands in a list in order

chosen_of : (xs : List PublicFunction) (i : ℕ) (f : PublicFunction) → Rises xs
    → slice_get xs i ≡ Some f → chosen f.start_offset xs ≡ Some f
chosen_of [] i f up e = absurd (cc)
chosen_of (x ∷ xs) zero f up e = let is : x ≡ f = cc in
    subst (λ (y : PublicFunction). chosen y.start_offset (x ∷ xs) ≡ Some y) is (first_is x xs up)
chosen_of (x ∷ xs) (suc i) f up e =
    off f.start_offset x xs (not_at_later x f (up.each 0 (suc i) x f (omega arith) refl e))
    ∙ chosen_of xs i f (tail x xs up) e

stands : (p : Place) (xs : List PublicFunction) (f : PublicFunction) → Rises xs
    → chosen p xs ≡ Some f → Has f xs
stands p [] f up e = absurd (cc)
stands p (x ∷ xs) f up e = elim (cases_Bool (is_at p x)) [
  | inl a ↦
      let is : chosen p (x ∷ xs) ≡ Some x = on p x xs a
      ∙ ap (λ (o : Option PublicFunction). Some (or_preferred x o)) (rest_gone p x xs up a) in
      (0, sym is ∙ e)
  | inr a ↦
      let one = stands p xs f (tail x xs up) (sym (off p x xs a) ∙ e) in (suc one.0, one.1)
]

-- ---- of the list as it is held

module _ (functions : List PublicFunction) (places : List Place)
    (held : StandApart functions places) where
  whole_chosen : (p : Place) → chosen p (joined functions places)
      ≡ combined (chosen p functions) (chosen p (placeholders places))
  whole_chosen p = in_public_list p (functions ++ placeholders places)
      ∙ both p functions (placeholders places)

  whole_rises : Rises (joined functions places)
  whole_rises = rises (functions ++ placeholders places)

  function_in : (f : PublicFunction) → Has f functions → Has f (joined functions places)
  function_in f has = stands f.start_offset (joined functions places) f whole_rises
      (whole_chosen f.start_offset
      ∙ ap (λ (o : Option PublicFunction). combined o (chosen f.start_offset (placeholders places)))
      (chosen_of functions has.0 f held.functions_rise has.1)
      ∙ ap (λ (x : PublicFunction). Some x)
      (keeps f (chosen f.start_offset (placeholders places)) (unnamed f.start_offset places)))

  no_function : (p : Place) (g : PublicFunction) → chosen p (placeholders places) ≡ Some g
      → chosen p functions ≡ None
  no_function p g e = elim (cases_Bool (is_some (chosen p functions))) [
    | inl some ↦
        let there : is_some (public_exactly (placeholders places) p) ≡ true =
        is_there p (placeholders places) ∙ ap (λ (o : Option PublicFunction). is_some o) e in
        absurd (both_ways (is_some (public_exactly (placeholders places) p)) there
        (held.apart p (is_there p functions ∙ some)))
    | inr none ↦ none_of (chosen p functions) none
  ]

  place_in : (g : PublicFunction) → Has g (placeholders places) → Has g (joined functions places)
  place_in g has =
      let here = chosen_of (placeholders places) has.0 g held.places_rise has.1 in
      stands g.start_offset (joined functions places) g whole_rises
      (whole_chosen g.start_offset
      ∙ ap (λ (o : Option PublicFunction). combined o (chosen g.start_offset (placeholders places)))
      (no_function g.start_offset g here) ∙ here)

  from_by : (f : PublicFunction) (o : Option PublicFunction)
      → chosen f.start_offset functions ≡ o
      → combined o (chosen f.start_offset (placeholders places)) ≡ Some f
      → Has f functions ⊎ Has f (placeholders places)
  from_by f None e k = inr (stands f.start_offset (placeholders places) f held.places_rise k)
  from_by f (Some a) e k =
      let is : Some a ≡ Some f = sym (ap (λ (x : PublicFunction). Some x)
      (keeps a (chosen f.start_offset (placeholders places)) (unnamed f.start_offset places))) ∙ k in
      inl (stands f.start_offset functions f held.functions_rise (e ∙ is))

  -- an entry is a function, or a placeholder at one of the places
  from_whole : (f : PublicFunction) → Has f (joined functions places)
      → Has f functions ⊎ Has f (placeholders places)
  from_whole f has = from_by f (chosen f.start_offset functions) refl
      (sym (whole_chosen f.start_offset)
      ∙ chosen_of (joined functions places) has.0 f whole_rises has.1)
  -- ---- the best of those that pass a test

module _ (better : PublicFunction → PublicFunction → Bool) (test : PublicFunction → Bool) where
  -- of the entries that pass a test, none is better
  abbrev Best : List PublicFunction → Option PublicFunction → Type 0
  Best xs None = (g : PublicFunction) → Has g xs → test g ≡ false
  Best xs (Some f) = Has f xs × (test f ≡ true)
      × ((g : PublicFunction) → Has g xs → test g ≡ true → better g f ≡ false)

  module _ (over : (x f g : PublicFunction) → better g f ≡ true → better x f ≡ false
      → better x g ≡ false)
      (under : (x f g : PublicFunction) → better g f ≡ false → better x g ≡ false
      → better x f ≡ false) where
    best_joined : (functions : List PublicFunction) (places : List Place)
        → StandApart functions places → (a b : Option PublicFunction) → Best functions a
        → Best (placeholders places) b → Best (joined functions places) (better_of better a b)
    best_joined functions places held None None u v =
        λ g has. elim (from_whole functions places held g has) [
          | inl there ↦ u g there
          | inr there ↦ v g there
        ]
    best_joined functions places held None (Some g) u v = (
      place_in functions places held g v.0,
      v.1,
      λ x has passes. elim (from_whole functions places held x has) [
        | inl there ↦ absurd (both_ways (test x) passes (u x there))
        | inr there ↦ v.2 x there passes
      ],
    )
    best_joined functions places held (Some f) None u v = (
      function_in functions places held f u.0,
      u.1,
      λ x has passes. elim (from_whole functions places held x has) [
        | inl there ↦ u.2 x there passes
        | inr there ↦ absurd (both_ways (test x) passes (v x there))
      ],
    )
    best_joined functions places held (Some f) (Some g) u v = elim (cases_Bool (better g f)) [
      | inl h ↦ rw h (
        place_in functions places held g v.0,
        v.1,
        λ x has passes. elim (from_whole functions places held x has) [
          | inl there ↦ over x f g h (u.2 x there passes)
          | inr there ↦ v.2 x there passes
        ],
      )
      | inr h ↦ rw h (
        function_in functions places held f u.0,
        u.1,
        λ x has passes. elim (from_whole functions places held x has) [
          | inl there ↦ u.2 x there passes
          | inr there ↦ under x f g h (v.2 x there passes)
        ],
      )
    ]

-- ---- the first that passes a test

module _ (test : PublicFunction → Bool) where
  first_more : (x : PublicFunction) (xs : List PublicFunction) (o : Option PublicFunction)
      → test x ≡ false → Best begins_before test xs o → Best begins_before test (x ∷ xs) o
  first_more x xs None h best = λ g has. (let P : ℕ → Type 0 =
      λ i. slice_get (x ∷ xs) i ≡ Some g → test g ≡ false in elim has.0 as P [
        | zero ↦ λ e. (let is : x ≡ g = cc in ap test (sym is) ∙ h)
        | suc i ↦ λ e. best g (i, e)
      ] has.1)
  first_more x xs (Some f) h best = (
    (suc best.0.0, best.0.1),
    best.1,
    λ g has passes. (let P : ℕ → Type 0 =
        λ i. slice_get (x ∷ xs) i ≡ Some g → begins_before g f ≡ false in elim has.0 as P [
          | zero ↦ λ e. (let is : x ≡ g = cc in
              absurd (both_ways (test g) passes (ap test (sym is) ∙ h)))
          | suc i ↦ λ e. best.2 g (i, e) passes
        ] has.1),
  )

  first_here : (x : PublicFunction) (xs : List PublicFunction) → Rises (x ∷ xs)
      → (g : PublicFunction) (i : ℕ) → slice_get (x ∷ xs) i ≡ Some g → begins_before g x ≡ false
  first_here x xs up g zero e = let is : x ≡ g = cc in
      ap (λ (y : PublicFunction). begins_before y x) (sym is) ∙ never_itself x
  first_here x xs up g (suc i) e = not_turned x g (up.each 0 (suc i) x g (omega arith) refl e)

  first_found : (xs : List PublicFunction) → Rises xs → Best begins_before test xs (find test xs)
  first_found [] up = λ g has. absurd (let e = has.1 in cc)
  first_found (x ∷ xs) up = elim (cases_Bool (test x)) [
    | inl h ↦ rw h ((0, refl), h, λ g has passes. first_here x xs up g has.0 has.1)
    | inr h ↦ rw h (first_more x xs (find test xs) h (first_found xs (tail x xs up)))
  ]

  before_first : (xs : List PublicFunction) (f : PublicFunction) → Rises xs
      → (best : Best begins_before test xs (Some f)) → (i : ℕ) (g : PublicFunction)
      → i < best.0.0 → slice_get xs i ≡ Some g → test g ≡ false
  before_first xs f up best i g lt e = elim (cases_Bool (test g)) [
    | inl h ↦ absurd (both_ways (begins_before g f) (up.each i best.0.0 g f lt e best.0.1)
        (best.2 g (i, e) h))
    | inr h ↦ h
  ]

  first_only : (xs : List PublicFunction) (o : Option PublicFunction) → Rises xs
      → Best begins_before test xs o → find test xs ≡ o
  first_only xs None up best = find_none test xs (λ i g e. best g (i, e))
  first_only xs (Some f) up best =
      find_is test xs best.0.0 f best.0.1 best.1 (before_first xs f up best)

  before_over : (x f g : PublicFunction) → begins_before g f ≡ true → begins_before x f ≡ false
      → begins_before x g ≡ false
  before_over x f g h h' = grind (arith, nat_tests)

  before_under : (x f g : PublicFunction) → begins_before g f ≡ false → begins_before x g ≡ false
      → begins_before x f ≡ false
  before_under x f g h h' = grind (arith, nat_tests)

  find_joined : (functions : List PublicFunction) (places : List Place)
      → StandApart functions places → find test (joined functions places)
      ≡ first_of_two (find test functions) (find test (placeholders places))
  find_joined functions places held =
      first_only (joined functions places)
      (first_of_two (find test functions) (find test (placeholders places)))
      (rises (functions ++ placeholders places))
      (best_joined begins_before test before_over before_under functions places held
      (find test functions) (find test (placeholders places))
      (first_found functions held.functions_rise)
      (first_found (placeholders places) held.places_rise))

-- ---- the last at a place or before it

after_over : (x f g : PublicFunction) → begins_after g f ≡ true → begins_after x f ≡ false
    → begins_after x g ≡ false
after_over x f g h h' = grind (arith, nat_tests)

after_under : (x f g : PublicFunction) → begins_after g f ≡ false → begins_after x g ≡ false
    → begins_after x f ≡ false
after_under x f g h h' = grind (arith, nat_tests)

module _ (p : Place) where
  abbrev Last : List PublicFunction → Option PublicFunction → Type 0
  Last = Best begins_after (is_at_or_before p)

  last_more : (x : PublicFunction) (xs : List PublicFunction) (o : Option PublicFunction)
      → Rises (x ∷ xs) → Last xs o
      → Last (x ∷ xs) (option_or o (if is_at_or_before p x then Some x else None))
  last_more x xs None up best = elim (cases_Bool (is_at_or_before p x)) [
    | inl h ↦ rw h (
      (0, refl),
      h,
      λ g has passes. (let P : ℕ → Type 0 =
          λ i. slice_get (x ∷ xs) i ≡ Some g → begins_after g x ≡ false in elim has.0 as P [
            | zero ↦ λ e. (let is : x ≡ g = cc in
                ap (λ (y : PublicFunction). begins_after y x) (sym is) ∙ never_itself x)
            | suc i ↦ λ e. absurd (both_ways (is_at_or_before p g) passes (best g (i, e)))
          ] has.1),
    )
    | inr h ↦ rw h (λ g has. (let P : ℕ → Type 0 =
        λ i. slice_get (x ∷ xs) i ≡ Some g → is_at_or_before p g ≡ false in elim has.0 as P [
          | zero ↦ λ e. (let is : x ≡ g = cc in ap (is_at_or_before p) (sym is) ∙ h)
          | suc i ↦ λ e. best g (i, e)
        ] has.1))
  ]
  last_more x xs (Some f) up best = (
    (suc best.0.0, best.0.1),
    best.1,
    λ g has passes. (let P : ℕ → Type 0 =
        λ i. slice_get (x ∷ xs) i ≡ Some g → begins_after g f ≡ false in elim has.0 as P [
          | zero ↦ λ e. (let is : x ≡ g = cc in
              ap (λ (y : PublicFunction). begins_after y f) (sym is)
              ∙ not_turned x f (up.each 0 (suc best.0.0) x f (omega arith) refl best.0.1))
          | suc i ↦ λ e. best.2 g (i, e) passes
        ] has.1),
  )

  last_found : (xs : List PublicFunction) → Rises xs → Last xs (last_at_or_before xs p)
  last_found [] up = λ g has. absurd (let e = has.1 in cc)
  last_found (x ∷ xs) up =
      last_more x xs (last_at_or_before xs p) up (last_found xs (tail x xs up))

  after_last : (xs : List PublicFunction) (f : PublicFunction) → Rises xs
      → (best : Last xs (Some f)) → (i : ℕ) (g : PublicFunction) → best.0.0 < i
      → slice_get xs i ≡ Some g → is_at_or_before p g ≡ false
  after_last xs f up best i g lt e = elim (cases_Bool (is_at_or_before p g)) [
    | inl h ↦ absurd (both_ways (begins_after g f) (up.each best.0.0 i f g lt best.0.1 e)
        (best.2 g (i, e) h))
    | inr h ↦ h
  ]

  last_only : (xs : List PublicFunction) (o : Option PublicFunction) → Rises xs → Last xs o
      → last_at_or_before xs p ≡ o
  last_only xs None up best = last_none xs p (λ i g e. best g (i, e))
  last_only xs (Some f) up best =
      last_is xs p best.0.0 f best.0.1 best.1 (after_last xs f up best)

-- ---- lookups

pub exactly_joined : (functions : List PublicFunction) (places : List Place) (p : Place)
    → StandApart functions places → public_exactly (joined functions places) p
    ≡ first_of_two (public_exactly functions p) (public_exactly (placeholders places) p)
exactly_joined functions places p held = find_joined (is_at p) functions places held

pub next_joined : (functions : List PublicFunction) (places : List Place) (p : Place)
    → StandApart functions places → next_public (joined functions places) p
    ≡ first_of_two (next_public functions p) (next_public (placeholders places) p)
next_joined functions places p held = find_joined (is_behind p) functions places held

pub last_joined : (functions : List PublicFunction) (places : List Place) (p : Place)
    → StandApart functions places → last_at_or_before (joined functions places) p
    ≡ last_of_two (last_at_or_before functions p) (last_at_or_before (placeholders places) p)
last_joined functions places p held =
    last_only p (joined functions places)
    (last_of_two (last_at_or_before functions p) (last_at_or_before (placeholders places) p))
    (rises (functions ++ placeholders places))
    (best_joined begins_after (is_at_or_before p) after_over after_under functions places held
    (last_at_or_before functions p) (last_at_or_before (placeholders places) p)
    (last_found p functions held.functions_rise)
    (last_found p (placeholders places) held.places_rise))

-- ---- the number of entries

one_more : (f : PublicFunction) (xs : List PublicFunction) → chosen f.start_offset xs ≡ None
    → length (with_entry f xs) ≡ suc (length xs)
one_more f [] none = refl
one_more f (x ∷ xs) none = elim (cases_Bool (is_before f.start_offset x.start_offset)) [
  | inl h ↦ rw h refl
  | inr h ↦ elim (cases_Bool (is_before x.start_offset f.start_offset)) [
    | inl h' ↦ rw (h, h') (ap (λ n. suc n)
        (one_more f xs (sym (off f.start_offset x xs (not_at_later x f h')) ∙ none)))
    | inr h' ↦
        let here = on f.start_offset x xs (neither_at f.start_offset x h h') in
        absurd (let e = sym here ∙ none in cc)
  ]
]

in_order_already : (xs : List PublicFunction) → Rises xs → publics_among xs ≡ xs
in_order_already xs up =
    alike_same (publics_among xs) xs (rises xs) up (λ p. in_public_list p xs)

others_apart : (f : PublicFunction) (functions : List PublicFunction) (places : List Place)
    → StandApart (f ∷ functions) places → StandApart functions places
others_apart f functions places held = record {
  functions_rise = tail f functions held.functions_rise;
  places_rise = held.places_rise;
  apart = λ p some. held.apart p (elim (cases_Bool (is_at p f)) [
    | inl a ↦ rw a refl
    | inr a ↦ rw a some
  ]);
}

none_at_first : (f : PublicFunction) (functions : List PublicFunction) (places : List Place)
    → StandApart (f ∷ functions) places
    → chosen f.start_offset (publics_among (functions ++ placeholders places)) ≡ None
none_at_first f functions places held =
    let p = f.start_offset in
    let here : is_some (public_exactly (f ∷ functions) p) ≡ true = rw (at_itself f) refl in
    let none = none_of (chosen p (placeholders places))
    (sym (is_there p (placeholders places)) ∙ held.apart p here) in
    in_public_list p (functions ++ placeholders places) ∙ both p functions (placeholders places)
    ∙ ap (λ (o : Option PublicFunction). combined o (chosen p (placeholders places)))
    (rest_gone p f functions held.functions_rise (at_itself f)) ∙ none

pub joined_length : (functions : List PublicFunction) (places : List Place)
    → StandApart functions places
    → length (joined functions places) ≡ length functions + length places
joined_length [] places held =
    ap (λ (xs : List PublicFunction). length xs)
    (in_order_already (placeholders places) held.places_rise) ∙ length-map places placeholder
    ∙ omega arith
joined_length (f ∷ functions) places held =
    one_more f (publics_among (functions ++ placeholders places))
    (none_at_first f functions places held)
    ∙ ap (λ n. suc n) (joined_length functions places (others_apart f functions places held))
    ∙ omega arith

-- ---- the places of all entries

either_way : (a b c : Bool) → (a || (b || c)) ≡ (b || (a || c))
either_way true true c = refl
either_way true false c = refl
either_way false b c = refl

once_more : (a c : Bool) → (a || (a || c)) ≡ (a || c)
once_more true c = refl
once_more false c = refl

grouped : (a b c : Bool) → (a || (b || c)) ≡ ((a || b) || c)
grouped true b c = refl
grouped false b c = refl

-- the places at which entries begin
abbrev places_of : List PublicFunction → List Place
places_of xs = map (λ f. f.start_offset) xs

module _ (test : Place → Bool) where
  any_preferred : (f x : PublicFunction) → x.start_offset ≡ f.start_offset
      → test (preferred f x).start_offset ≡ test f.start_offset
  any_preferred f x same = elim (cases_Bool (not (is_named f) && is_named x)) [
    | inl h ↦ rw h (ap test same)
    | inr h ↦ rw h refl
  ]

  any_entry : (f : PublicFunction) (xs : List PublicFunction)
      → list_any test (places_of (with_entry f xs))
      ≡ (test f.start_offset || list_any test (places_of xs))
  any_entry f [] = refl
  any_entry f (x ∷ xs) = elim (cases_Bool (is_before f.start_offset x.start_offset)) [
    | inl h ↦ rw h refl
    | inr h ↦ elim (cases_Bool (is_before x.start_offset f.start_offset)) [
      | inl h' ↦
          rw (h, h') (ap (λ b. test x.start_offset || b) (any_entry f xs)
          ∙ either_way (test x.start_offset) (test f.start_offset) (list_any test (places_of xs)))
      | inr h' ↦
          let same = place_is f.start_offset x (neither_at f.start_offset x h h') in
          rw (h, h') (ap (λ b. b || list_any test (places_of xs)) (any_preferred f x same)
          ∙ sym (once_more (test f.start_offset) (list_any test (places_of xs)))
          ∙ ap (λ (p : Place). test f.start_offset || (test p || list_any test (places_of xs)))
          (sym same))
    ]
  ]

  any_among : (xs : List PublicFunction)
      → list_any test (places_of (publics_among xs)) ≡ list_any test (places_of xs)
  any_among [] = refl
  any_among (f ∷ xs) = any_entry f (publics_among xs)
      ∙ ap (λ b. test f.start_offset || b) (any_among xs)

  any_placed : (places : List Place)
      → list_any test (places_of (placeholders places)) ≡ list_any test places
  any_placed [] = refl
  any_placed (p ∷ places) = ap (λ b. test p || b) (any_placed places)

  any_both : (functions : List PublicFunction) (places : List Place)
      → list_any test (places_of (functions ++ placeholders places))
      ≡ (list_any test (places_of functions) || list_any test places)
  any_both [] places = any_placed places
  any_both (f ∷ functions) places =
      ap (λ b. test f.start_offset || b) (any_both functions places)
      ∙ grouped (test f.start_offset) (list_any test (places_of functions)) (list_any test places)

  -- an entry's place passes a test if that of a function does, or one of the places
  pub any_joined : (functions : List PublicFunction) (places : List Place)
      → list_any test (places_of (joined functions places))
      ≡ (list_any test (places_of functions) || list_any test places)
  any_joined functions places =
      any_among (functions ++ placeholders places) ∙ any_both functions places

-- ---- placeholders are alike

-- at a place a placeholder counts, if anything does
abbrev Plain : Place → Option PublicFunction → Type 0
Plain p None = Unit {0}
Plain p (Some f) = f ≡ placeholder p

plain_unnamed : (p : Place) (o : Option PublicFunction) → Plain p o → Unnamed o
plain_unnamed p None plain = tt
plain_unnamed p (Some f) plain = ap (λ (x : PublicFunction). is_named x) plain

plain_more : (p q : Place) (xs : List PublicFunction) → Plain p (chosen p xs)
    → Plain p (chosen p (placeholder q ∷ xs))
plain_more p q xs plain = elim (cases_Bool (is_at p (placeholder q))) [
  | inl a ↦
      let is = on p (placeholder q) xs a ∙ ap (λ (x : PublicFunction). Some x)
      (keeps (placeholder q) (chosen p xs) (plain_unnamed p (chosen p xs) plain)) in
      subst (Plain p) (sym is) (ap placeholder (place_is p (placeholder q) a))
  | inr a ↦ subst (Plain p) (sym (off p (placeholder q) xs a)) plain
]

plain_places : (p : Place) (places : List Place) → Plain p (chosen p (placeholders places))
plain_places p [] = tt
plain_places p (s ∷ places) = plain_more p s (placeholders places) (plain_places p places)

plain_ends : (p : Place) (number : ℕ) (sections : List ImageSectionHeader)
    → Plain p (chosen p (section_ends_from number sections))
plain_ends p number [] = tt
plain_ends p number (s ∷ sections) =
    elim (cases_Bool (may_execute s.characteristics && nat_le number 65535)) [
      | inl h ↦
          rw h (plain_more p (record { section = number; offset = s.virtual_size })
          (section_ends_from (number + 1) sections) (plain_ends p (number + 1) sections))
      | inr h ↦ rw h (plain_ends p (number + 1) sections)
    ]

swapped : (p : Place) (a b : Option PublicFunction) → Plain p a → Plain p b
    → combined a b ≡ combined b a
swapped p None None u v = refl
swapped p None (Some g) u v = refl
swapped p (Some f) None u v = refl
swapped p (Some f) (Some g) u v = let is : f ≡ g = u ∙ sym v in
    ap (λ (x : PublicFunction). Some (preferred x g)) is
    ∙ ap (λ (x : PublicFunction). Some (preferred g x)) (sym is)

regrouped : (a b c : Option PublicFunction)
    → combined a (combined b c) ≡ combined (combined a b) c
regrouped None b c = refl
regrouped (Some f) b c = join f b c

-- ---- how a list is made

none_missing : (p : Place) (list : List PublicFunction) (starts : List Place)
    → is_some (public_exactly list p) ≡ true
    → is_some (chosen p (placeholders (missing list starts))) ≡ false
none_missing p list [] some = refl
none_missing p list (s ∷ starts) some = elim (cases_Bool (is_some (public_exactly list s))) [
  | inl there ↦
      ap (λ (ps : List Place). is_some (chosen p (placeholders ps)))
      (one_passed list s starts there) ∙ none_missing p list starts some
  | inr none ↦ elim (cases_Bool (is_at p (placeholder s))) [
    | inl a ↦
        absurd (both_ways (is_some (public_exactly list s))
        (ap (λ (q : Place). is_some (public_exactly list q)) (place_is p (placeholder s) a) ∙ some)
        none)
    | inr a ↦
        ap (λ (ps : List Place). is_some (chosen p (placeholders ps)))
        (one_kept list s starts none)
        ∙ ap (λ (o : Option PublicFunction). is_some o)
        (off p (placeholder s) (placeholders (missing list starts)) a)
        ∙ none_missing p list starts some
  ]
]

pub all_apart : (whole functions : List PublicFunction) (starts few places : List Place)
    → functions ≡ publics_among whole → few ≡ missing functions starts
    → placeholders places ≡ publics_among (placeholders few) → StandApart functions places
all_apart whole functions starts few places e f g = record {
  functions_rise = subst Rises (sym e) (rises whole);
  places_rise = subst Rises (sym g) (rises (placeholders few));
  apart = λ p some. is_there p (placeholders places)
      ∙ ap (λ (xs : List PublicFunction). is_some (chosen p xs)) g
      ∙ ap (λ (o : Option PublicFunction). is_some o) (in_public_list p (placeholders few))
      ∙ ap (λ (ps : List Place). is_some (chosen p (placeholders ps))) f
      ∙ none_missing p functions starts some;
}

stand_at : (given : List PublicFunction) (sections : List ImageSectionHeader)
    (starts places : List Place) (p : Place)
    → placeholders places
    ≡ publics_among (placeholders (missing (publics_among (given ++ section_ends sections)) starts))
    → chosen p (publics_among (given ++ section_ends sections) ++ placeholders places)
    ≡ chosen p (given ++ placeholders starts ++ section_ends sections)
stand_at given sections starts places p g =
    let ends = section_ends sections in
    let list = publics_among (given ++ ends) in
    let few = missing list starts in
    let all = placeholders starts in
    both p list (placeholders places)
    ∙ ap (λ (xs : List PublicFunction). combined (chosen p list) (chosen p xs)) g
    ∙ ap (λ (o : Option PublicFunction). combined (chosen p list) o)
    (in_public_list p (placeholders few))
    ∙ enough_by p list starts (chosen p list) refl
    ∙ ap (λ (o : Option PublicFunction). combined o (chosen p all))
    (in_public_list p (given ++ ends) ∙ both p given ends)
    ∙ sym (regrouped (chosen p given) (chosen p ends) (chosen p all))
    ∙ ap (λ (o : Option PublicFunction). combined (chosen p given) o)
    (swapped p (chosen p ends) (chosen p all) (plain_ends p 1 sections) (plain_places p starts))
    ∙ regrouped (chosen p given) (chosen p all) (chosen p ends)
    ∙ ap (λ (o : Option PublicFunction). combined o (chosen p ends)) (sym (both p given all))
    ∙ sym (both p (given ++ all) ends)

-- the public list, with placeholders only where no public symbol begins
pub all_stand : (given whole functions : List PublicFunction) (sections : List ImageSectionHeader)
    (starts few places : List Place) → whole ≡ given ++ section_ends sections
    → functions ≡ publics_among whole → few ≡ missing functions starts
    → placeholders places ≡ publics_among (placeholders few)
    → joined functions places
    ≡ publics_among (given ++ placeholders starts ++ section_ends sections)
all_stand given whole functions sections starts few places w e f g =
    let ends = section_ends sections in
    let list = publics_among (given ++ ends) in
    let made : functions ≡ list = e ∙ ap publics_among w in
    let ordered : placeholders places ≡ publics_among (placeholders (missing list starts)) =
    g ∙ ap (λ (ps : List Place). publics_among (placeholders ps))
    (f ∙ ap (λ (xs : List PublicFunction). missing xs starts) made) in
    ap (λ (xs : List PublicFunction). joined xs places) made
    ∙ alike_same (joined list places) (publics_among (given ++ placeholders starts ++ ends))
    (rises (list ++ placeholders places)) (rises (given ++ placeholders starts ++ ends))
    (λ p. in_public_list p (list ++ placeholders places)
    ∙ stand_at given sections starts places p ordered
    ∙ sym (in_public_list p (given ++ placeholders starts ++ ends)))
