-- The entry that counts at a place, in a list and in two after each other. Placeholders where no
-- other entry begins are enough: of the entries at one place the others don't count.
use Rattle.std.proofs.Common.{◌≡◌, ℕ, suc, ◌+◌, ◌<◌, ◌≤◌, Bool, true, false, inl, inr, List}
use Rattle.std.proofs.Common.{[], ◌∷◌, ◌++◌, Option, None, Some, length, take, drop, get_or, set}
use Rattle.std.proofs.Common.{refl, sym, ap}
use Rattle.std.proofs.Common.{subst, ◌∙◌, append_assoc, arith}
use Rattle.std.specs.Prelude.{slice_get, is_some, not, ◌&&◌, if◌then◌else◌}
use Rattle.std.proofs.lemmas.Bool.{cases_Bool}
use Rattle.std.proofs.lemmas.Bool.Decides.{nat_tests}
use Rattle.std.proofs.lemmas.List.{append-nil, drop_all, drop_more, drop-set-lt, length-set}
use Rattle.std.proofs.lemmas.List.{take_more_set}
use Rattle.pdb_addresses.specs.declared.internal_section_offset.PdbInternalSectionOffset.{
  PdbInternalSectionOffset,
}
use Rattle.pdb_contributions.specs.Publics.{PublicFunction, placeholder, placeholders, is_before}
use Rattle.pdb_contributions.specs.Publics.{is_named, is_at, preferred, with_entry, publics_among}
use Rattle.pdb_contributions.specs.Publics.{public_exactly, missing, Rises}

abbrev Place : Type 0
Place = PdbInternalSectionOffset

-- ---- going over the places

pub one_kept : (list : List PublicFunction) (p : Place) (places : List Place)
    → is_some (public_exactly list p) ≡ false → missing list (p ∷ places) ≡ p ∷ missing list places
one_kept list p places none = rw none refl

pub one_passed : (list : List PublicFunction) (p : Place) (places : List Place)
    → is_some (public_exactly list p) ≡ true → missing list (p ∷ places) ≡ missing list places
one_passed list p places some = rw some refl

-- of places, so many stand at the beginning that were kept, and those from an index on are left
pub record AreKept (list : List PublicFunction) (given places : List Place) (kept index : ℕ) :
    Type 0 where
  pub as_many : length places ≡ length given
  pub bound : kept ≤ index
  pub so_far : take kept places ++ missing list (drop index places) ≡ missing list given

-- no place was gone over
pub kept_start : (list : List PublicFunction) (given : List Place) → AreKept list given given 0 0
kept_start list given = record { as_many = refl; bound = omega arith; so_far = refl }

-- one more place, at which something begins
pub kept_passed : (list : List PublicFunction) (given places : List Place) (kept index : ℕ)
    (d : Place) → index < length given
    → is_some (public_exactly list (get_or places index d)) ≡ true
    → AreKept list given places kept index → AreKept list given places kept (index + 1)
kept_passed list given places kept index d lt some so = record {
  as_many = so.as_many;
  bound = omega (arith, so.bound);
  so_far = ap (λ (ps : List Place). take kept places ++ ps)
      (sym (one_passed list (get_or places index d) (drop (index + 1) places) some))
      ∙ ap (λ (ps : List Place). take kept places ++ missing list ps)
      (sym (drop_more places index d (omega (arith, lt, so.as_many)))) ∙ so.so_far;
}

-- one more place, at which nothing begins
pub kept_more : (list : List PublicFunction) (given places : List Place) (kept index : ℕ)
    (d : Place) → index < length given
    → is_some (public_exactly list (get_or places index d)) ≡ false
    → AreKept list given places kept index
    → AreKept list given (set places kept (get_or places index d)) (kept + 1) (index + 1)
kept_more list given places kept index d lt none so =
    let start = get_or places index d in
    let within : kept < length places = omega (arith, lt, so.as_many, so.bound) in
    record {
      as_many = length-set places kept start ∙ so.as_many;
      bound = omega (arith, so.bound);
      so_far = ap (λ (ps : List Place). ps ++ missing list (drop (index + 1) (set places kept start)))
          (take_more_set places kept start within)
          ∙ ap (λ (ps : List Place). (take kept places ++ start ∷ []) ++ missing list ps)
          (drop-set-lt (index + 1) places kept start (omega (arith, so.bound)))
          ∙ append_assoc (take kept places) (start ∷ []) (missing list (drop (index + 1) places))
          ∙ ap (λ (ps : List Place). take kept places ++ ps)
          (sym (one_kept list start (drop (index + 1) places) none))
          ∙ ap (λ (ps : List Place). take kept places ++ missing list ps)
          (sym (drop_more places index d (omega (arith, lt, so.as_many)))) ∙ so.so_far;
    }

-- none is left
pub kept_end : (list : List PublicFunction) (given places : List Place) (kept index : ℕ)
    → length given ≤ index → AreKept list given places kept index
    → take kept places ≡ missing list given
kept_end list given places kept index past so =
    sym (append-nil (take kept places))
    ∙ ap (λ (ps : List Place). take kept places ++ missing list ps)
    (sym (drop_all index places (omega (arith, past, so.as_many)))) ∙ so.so_far

-- ---- places

pub at_itself : (f : PublicFunction) → is_at f.start_offset f ≡ true
at_itself f = grind (arith, nat_tests)

before_apart : (p : Place) (f : PublicFunction) → is_before p f.start_offset ≡ true
    → is_at p f ≡ false
before_apart p f h = grind (arith, nat_tests)

further_apart : (p q : Place) (f : PublicFunction) → is_before p q ≡ true
    → is_before q f.start_offset ≡ true → is_at p f ≡ false
further_apart p q f h h' = grind (arith, nat_tests)

pub neither_at : (p : Place) (f : PublicFunction) → is_before p f.start_offset ≡ false
    → is_before f.start_offset p ≡ false → is_at p f ≡ true
neither_at p f h h' = grind (arith, nat_tests)

after_apart : (p : Place) (x f : PublicFunction) → is_at p x ≡ true
    → is_before x.start_offset f.start_offset ≡ true → is_at p f ≡ false
after_apart p x f a h = grind (arith, nat_tests)

also_at : (p : Place) (f x : PublicFunction) → is_before f.start_offset x.start_offset ≡ false
    → is_before x.start_offset f.start_offset ≡ false → is_at p f ≡ true → is_at p x ≡ true
also_at p f x h h' a = grind (arith, nat_tests)

nor_at : (p : Place) (f x : PublicFunction) → is_before f.start_offset x.start_offset ≡ false
    → is_before x.start_offset f.start_offset ≡ false → is_at p f ≡ false → is_at p x ≡ false
nor_at p f x h h' a = grind (arith, nat_tests)

section_is : (p : Place) (f : PublicFunction) → is_at p f ≡ true
    → (f.start_offset).section ≡ p.section
section_is p f a = grind (arith, nat_tests)

offset_is : (p : Place) (f : PublicFunction) → is_at p f ≡ true
    → (f.start_offset).offset ≡ p.offset
offset_is p f a = grind (arith, nat_tests)

pub place_is : (p : Place) (f : PublicFunction) → is_at p f ≡ true → f.start_offset ≡ p
place_is p f a = let s = section_is p f a in let o = offset_is p f a in
    λ i. record { offset = o i; section = s i }

-- ---- of two entries

named_first : (a b : PublicFunction) → is_named a ≡ true → preferred a b ≡ a
named_first a b h = rw h refl

plain_second : (a b : PublicFunction) → is_named b ≡ false → preferred a b ≡ a
plain_second a b h = elim (cases_Bool (is_named a)) [
  | inl g ↦ named_first a b g
  | inr g ↦ rw (g, h) refl
]

taken : (a b : PublicFunction) → is_named a ≡ false → is_named b ≡ true → preferred a b ≡ b
taken a b h g = rw (h, g) refl

-- of three it doesn't matter which two are compared first
of_three : (a b c : PublicFunction) → preferred (preferred a b) c ≡ preferred a (preferred b c)
of_three a b c = elim (cases_Bool (is_named a)) [
  | inl h ↦ ap (λ (x : PublicFunction). preferred x c) (named_first a b h) ∙ named_first a c h
      ∙ sym (named_first a (preferred b c) h)
  | inr h ↦ elim (cases_Bool (is_named b)) [
    | inl g ↦ ap (λ (x : PublicFunction). preferred x c) (taken a b h g) ∙ named_first b c g
        ∙ sym (taken a b h g) ∙ sym (ap (λ (x : PublicFunction). preferred a x) (named_first b c g))
    | inr g ↦ elim (cases_Bool (is_named c)) [
      | inl k ↦ ap (λ (x : PublicFunction). preferred x c) (plain_second a b g)
          ∙ sym (ap (λ (x : PublicFunction). preferred a x) (taken b c g k))
      | inr k ↦ ap (λ (x : PublicFunction). preferred x c) (plain_second a b g)
          ∙ plain_second a c k ∙ sym (plain_second a b g)
          ∙ sym (ap (λ (x : PublicFunction). preferred a x) (plain_second b c k))
    ]
  ]
]

abbrev pub or_preferred : PublicFunction → Option PublicFunction → PublicFunction
or_preferred f None = f
or_preferred f (Some other) = preferred f other

or_of_three : (f x : PublicFunction) (o : Option PublicFunction)
    → or_preferred (preferred f x) o ≡ or_preferred f (Some (or_preferred x o))
or_of_three f x None = refl
or_of_three f x (Some other) = of_three f x other

-- ---- the entry that counts at a place

abbrev pub chosen : Place → List PublicFunction → Option PublicFunction
chosen p [] = None
chosen p (f ∷ fs) = if is_at p f then Some (or_preferred f (chosen p fs)) else chosen p fs

pub on : (p : Place) (f : PublicFunction) (fs : List PublicFunction) → is_at p f ≡ true
    → chosen p (f ∷ fs) ≡ Some (or_preferred f (chosen p fs))
on p f fs a = rw a refl

pub off : (p : Place) (f : PublicFunction) (fs : List PublicFunction) → is_at p f ≡ false
    → chosen p (f ∷ fs) ≡ chosen p fs
off p f fs a = rw a refl

more : (p : Place) (f : PublicFunction) (xs ys : List PublicFunction) → chosen p xs ≡ chosen p ys
    → chosen p (f ∷ xs) ≡ chosen p (f ∷ ys)
more p f xs ys e =
    ap (λ (o : Option PublicFunction). if is_at p f then Some (or_preferred f o) else o) e

at_preferred : (p : Place) (f x : PublicFunction) (b : Bool) → is_at p f ≡ b → is_at p x ≡ b
    → is_at p (preferred f x) ≡ b
at_preferred p f x b h g = elim (cases_Bool (not (is_named f) && is_named x)) [
  | inl e ↦ rw e g
  | inr e ↦ rw e h
]

of_one_place : (p : Place) (f x : PublicFunction) (xs : List PublicFunction)
    → is_before f.start_offset x.start_offset ≡ false
    → is_before x.start_offset f.start_offset ≡ false
    → chosen p (preferred f x ∷ xs) ≡ chosen p (f ∷ x ∷ xs)
of_one_place p f x xs h h' = elim (cases_Bool (is_at p f)) [
  | inl a ↦
      let b = also_at p f x h h' a in
      on p (preferred f x) xs (at_preferred p f x true a b)
      ∙ ap (λ (o : PublicFunction). Some o) (or_of_three f x (chosen p xs))
      ∙ ap (λ (o : Option PublicFunction). Some (or_preferred f o)) (sym (on p x xs b))
      ∙ sym (on p f (x ∷ xs) a)
  | inr a ↦
      let b = nor_at p f x h h' a in
      off p (preferred f x) xs (at_preferred p f x false a b) ∙ sym (off p x xs b)
      ∙ sym (off p f (x ∷ xs) a)
]

put_further : (p : Place) (f x : PublicFunction) (xs : List PublicFunction)
    → is_before x.start_offset f.start_offset ≡ true
    → chosen p (with_entry f xs) ≡ chosen p (f ∷ xs)
    → chosen p (x ∷ with_entry f xs) ≡ chosen p (f ∷ x ∷ xs)
put_further p f x xs h e = elim (cases_Bool (is_at p x)) [
  | inl a ↦
      let apart = after_apart p x f a h in
      on p x (with_entry f xs) a
      ∙ ap (λ (o : Option PublicFunction). Some (or_preferred x o)) (e ∙ off p f xs apart)
      ∙ sym (on p x xs a) ∙ sym (off p f (x ∷ xs) apart)
  | inr a ↦ off p x (with_entry f xs) a ∙ e ∙ more p f xs (x ∷ xs) (sym (off p x xs a))
]

-- an entry among others counts as before them
put : (p : Place) (f : PublicFunction) (xs : List PublicFunction)
    → chosen p (with_entry f xs) ≡ chosen p (f ∷ xs)
put p f [] = refl
put p f (x ∷ xs) = elim (cases_Bool (is_before f.start_offset x.start_offset)) [
  | inl h ↦ rw h refl
  | inr h ↦ elim (cases_Bool (is_before x.start_offset f.start_offset)) [
    | inl h' ↦ rw (h, h') (put_further p f x xs h' (put p f xs))
    | inr h' ↦ rw (h, h') (of_one_place p f x xs h h')
  ]
]

-- what counts in the public list counts in the list of all
pub in_public_list : (p : Place) (xs : List PublicFunction) → chosen p (publics_among xs) ≡ chosen p xs
in_public_list p [] = refl
in_public_list p (f ∷ xs) = put p f (publics_among xs)
    ∙ more p f (publics_among xs) xs (in_public_list p xs)

-- ---- one list after another

abbrev pub combined : Option PublicFunction → Option PublicFunction → Option PublicFunction
combined None o = o
combined (Some f) o = Some (or_preferred f o)

pub join : (f : PublicFunction) (c d : Option PublicFunction)
    → Some (or_preferred f (combined c d)) ≡ combined (Some (or_preferred f c)) d
join f None d = refl
join f (Some a) None = refl
join f (Some a) (Some b) = ap (λ (o : PublicFunction). Some o) (sym (of_three f a b))

pub both : (p : Place) (xs ys : List PublicFunction)
    → chosen p (xs ++ ys) ≡ combined (chosen p xs) (chosen p ys)
both p [] ys = refl
both p (x ∷ xs) ys = elim (cases_Bool (is_at p x)) [
  | inl a ↦ on p x (xs ++ ys) a
      ∙ ap (λ (o : Option PublicFunction). Some (or_preferred x o)) (both p xs ys)
      ∙ join x (chosen p xs) (chosen p ys)
      ∙ ap (λ (o : Option PublicFunction). combined o (chosen p ys)) (sym (on p x xs a))
  | inr a ↦ off p x (xs ++ ys) a ∙ both p xs ys
      ∙ ap (λ (o : Option PublicFunction). combined o (chosen p ys)) (sym (off p x xs a))
]

-- ---- placeholders

abbrev pub Unnamed : Option PublicFunction → Type 0
Unnamed None = Unit {0}
Unnamed (Some f) = is_named f ≡ false

pub keeps : (f : PublicFunction) (o : Option PublicFunction) → Unnamed o → or_preferred f o ≡ f
keeps f None u = refl
keeps f (Some other) u = plain_second f other u

pub unnamed : (p : Place) (places : List Place) → Unnamed (chosen p (placeholders places))
unnamed p [] = tt
unnamed p (s ∷ places) = elim (cases_Bool (is_at p (placeholder s))) [
  | inl a ↦ subst Unnamed
      (sym (on p (placeholder s) (placeholders places) a ∙ ap (λ (o : PublicFunction). Some o)
      (keeps (placeholder s) (chosen p (placeholders places)) (unnamed p places)))) refl
  | inr a ↦ subst Unnamed (sym (off p (placeholder s) (placeholders places) a)) (unnamed p places)
]

pub is_there : (p : Place) (list : List PublicFunction)
    → is_some (public_exactly list p) ≡ is_some (chosen p list)
is_there p [] = refl
is_there p (f ∷ list) = elim (cases_Bool (is_at p f)) [
  | inl a ↦ rw a refl
  | inr a ↦ rw a (is_there p list)
]

not_there : (p s : Place) (list : List PublicFunction) → chosen p list ≡ None
    → is_some (public_exactly list s) ≡ true → is_at p (placeholder s) ≡ true → ⊥
not_there p s list none some a =
    let one : is_some (public_exactly list p) ≡ true =
    ap (λ (q : Place). is_some (public_exactly list q)) (sym (place_is p (placeholder s) a)) ∙ some in
    let other : is_some (public_exactly list p) ≡ false =
    is_there p list ∙ ap (λ (o : Option PublicFunction). is_some o) none in
    absurd (cc)

where_none : (p : Place) (list : List PublicFunction) (places : List Place) → chosen p list ≡ None
    → chosen p (placeholders (missing list places)) ≡ chosen p (placeholders places)
where_none p list [] none = refl
where_none p list (s ∷ places) none = elim (cases_Bool (is_some (public_exactly list s))) [
  | inl some ↦ elim (cases_Bool (is_at p (placeholder s))) [
    | inl a ↦ absurd (not_there p s list none some a)
    | inr a ↦ ap (λ (ps : List Place). chosen p (placeholders ps)) (one_passed list s places some)
        ∙ where_none p list places none ∙ sym (off p (placeholder s) (placeholders places) a)
  ]
  | inr some ↦ ap (λ (ps : List Place). chosen p (placeholders ps)) (one_kept list s places some)
      ∙ more p (placeholder s) (placeholders (missing list places)) (placeholders places)
      (where_none p list places none)
]

pub enough_by : (p : Place) (list : List PublicFunction) (places : List Place)
    (o : Option PublicFunction) → chosen p list ≡ o
    → combined o (chosen p (placeholders (missing list places)))
    ≡ combined o (chosen p (placeholders places))
enough_by p list places None e = where_none p list places e
enough_by p list places (Some f) e = ap (λ (x : PublicFunction). Some x)
    (keeps f (chosen p (placeholders (missing list places))) (unnamed p (missing list places))
    ∙ sym (keeps f (chosen p (placeholders places)) (unnamed p places)))

-- ---- lists in order

pub tail : (x : PublicFunction) (xs : List PublicFunction) → Rises (x ∷ xs) → Rises xs
tail x xs up = record {
  each = λ i j a b lt at at'. up.each (suc i) (suc j) a b (omega arith) at at';
}

gone : (p : Place) (xs : List PublicFunction)
    → ((j : ℕ) (b : PublicFunction) → slice_get xs j ≡ Some b → is_at p b ≡ false)
    → chosen p xs ≡ None
gone p [] apart = refl
gone p (x ∷ xs) apart = off p x xs (apart 0 x refl)
    ∙ gone p xs (λ j b e. apart (suc j) b e)

-- nothing after the first entry is at its place
pub rest_gone : (p : Place) (x : PublicFunction) (xs : List PublicFunction) → Rises (x ∷ xs)
    → is_at p x ≡ true → chosen p xs ≡ None
rest_gone p x xs up a = gone p xs
    (λ j b e. after_apart p x b a (up.each 0 (suc j) x b (omega arith) refl e))

pub first_is : (x : PublicFunction) (xs : List PublicFunction) → Rises (x ∷ xs)
    → chosen x.start_offset (x ∷ xs) ≡ Some x
first_is x xs up = on x.start_offset x xs (at_itself x)
    ∙ ap (λ (o : Option PublicFunction). Some (or_preferred x o))
    (rest_gone x.start_offset x xs up (at_itself x))

-- nothing is at a place before the first entry
before_gone : (p : Place) (y : PublicFunction) (ys : List PublicFunction) → Rises (y ∷ ys)
    → is_before p y.start_offset ≡ true → chosen p (y ∷ ys) ≡ None
before_gone p y ys up h = off p y ys (before_apart p y h)
    ∙ gone p ys (λ j b e.
    further_apart p y.start_offset b h (up.each 0 (suc j) y b (omega arith) refl e))

none_or_some : (x : PublicFunction) (o : Option PublicFunction) → o ≡ None → o ≡ Some x → ⊥
none_or_some x o e f = absurd (cc)

some_same : (x y : PublicFunction) (o : Option PublicFunction) → o ≡ Some x → o ≡ Some y → x ≡ y
some_same x y o e f = cc

abbrev Alike : List PublicFunction → List PublicFunction → Type 0
Alike xs ys = (p : Place) → chosen p xs ≡ chosen p ys

first_same : (x : PublicFunction) (xs : List PublicFunction) (y : PublicFunction)
    (ys : List PublicFunction) → Rises (x ∷ xs) → Rises (y ∷ ys) → Alike (x ∷ xs) (y ∷ ys) → x ≡ y
first_same x xs y ys up up' same =
    elim (cases_Bool (is_before x.start_offset y.start_offset)) [
      | inl h ↦ absurd (none_or_some x (chosen x.start_offset (y ∷ ys))
          (before_gone x.start_offset y ys up' h) (sym (same x.start_offset) ∙ first_is x xs up))
      | inr h ↦ elim (cases_Bool (is_before y.start_offset x.start_offset)) [
        | inl h' ↦ absurd (none_or_some y (chosen y.start_offset (x ∷ xs))
            (before_gone y.start_offset x xs up h') (same y.start_offset ∙ first_is y ys up'))
        | inr h' ↦
            let place = place_is x.start_offset y (neither_at x.start_offset y h h') in
            some_same x y (chosen x.start_offset (x ∷ xs)) (first_is x xs up)
            (same x.start_offset
            ∙ ap (λ (q : Place). chosen q (y ∷ ys)) (sym place) ∙ first_is y ys up')
      ]
    ]

rest_same : (x : PublicFunction) (xs : List PublicFunction) (y : PublicFunction)
    (ys : List PublicFunction) → Rises (x ∷ xs) → Rises (y ∷ ys) → Alike (x ∷ xs) (y ∷ ys) → x ≡ y
    → Alike xs ys
rest_same x xs y ys up up' same is p = elim (cases_Bool (is_at p x)) [
  | inl a ↦
      let b : is_at p y ≡ true = ap (λ (f : PublicFunction). is_at p f) (sym is) ∙ a in
      rest_gone p x xs up a ∙ sym (rest_gone p y ys up' b)
  | inr a ↦
      let b : is_at p y ≡ false = ap (λ (f : PublicFunction). is_at p f) (sym is) ∙ a in
      sym (off p x xs a) ∙ same p ∙ off p y ys b
]

-- lists in order are the same where the same counts at each place
pub alike_same : (xs ys : List PublicFunction) → Rises xs → Rises ys → Alike xs ys → xs ≡ ys
alike_same [] [] up up' same = refl
alike_same [] (y ∷ ys) up up' same =
    absurd (none_or_some y (chosen y.start_offset (y ∷ ys)) (sym (same y.start_offset))
    (first_is y ys up'))
alike_same (x ∷ xs) [] up up' same =
    absurd (none_or_some x (chosen x.start_offset (x ∷ xs)) (same x.start_offset)
    (first_is x xs up))
alike_same (x ∷ xs) (y ∷ ys) up up' same =
    let is = first_same x xs y ys up up' same in
    ap (λ (f : PublicFunction). f ∷ xs) is
    ∙ ap (λ (fs : List PublicFunction). y ∷ fs)
    (alike_same xs ys (tail x xs up) (tail y ys up') (rest_same x xs y ys up up' same is))
