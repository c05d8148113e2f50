-- Entries by their places, of one place a named one before a placeholder.
use Rattle.std.proofs.Common.{◌≡◌, ℕ, inl, inr, Bool, not, ◌&&◌, ◌||◌, List, [], ◌∷◌, Option, None}
use Rattle.std.proofs.Common.{Some, refl, sym, ap, ◌∙◌}
use Rattle.std.specs.Prelude.{nat_lt, ◌==◌, is_none, is_some, IsSorted}
use Rattle.std.specs.Cmp.{IsTotalOrder, bool_cmp_total}
use Rattle.std.specs.declared.cmp.Ordering.{Ordering}
use Rattle.std.specs.Ordering.{nat_cmp, bool_cmp, is_lt, is_gt, ordering_then, then_cmp}
use Rattle.std.specs.List.{dedup}
use Rattle.std.specs.List.Sorted.{IsStable}
use Rattle.std.proofs.lemmas.Bool.{cases_Bool}
use Rattle.std.proofs.lemmas.Cmp.{nat_cmp_total, on_total, then_total}
use Rattle.pdb_contributions.specs.Publics.{PublicFunction, is_before, with_entry, publics_among}
use Rattle.pdb_addresses.proofs.Stable.{is_in_order}
use Rattle.pdb_contributions.proofs.Firsts.{same, entered, firsts, firsts_are}

-- by the section's number, and then by the offset
abbrev pub place_cmp : PublicFunction → PublicFunction → Ordering
place_cmp a b = ordering_then (nat_cmp (a.start_offset).section (b.start_offset).section)
    (nat_cmp (a.start_offset).offset (b.start_offset).offset)

-- a named one before a placeholder
abbrev pub name_cmp : PublicFunction → PublicFunction → Ordering
name_cmp a b = bool_cmp (is_none a.name) (is_none b.name)

-- what entries are sorted by
abbrev pub key : PublicFunction → ℕ × ℕ × Bool
key f = ((f.start_offset).section, (f.start_offset).offset, is_none f.name)

-- by the place, and then by whether there is a name
abbrev pub public_cmp : PublicFunction → PublicFunction → Ordering
public_cmp = then_cmp place_cmp name_cmp

-- the order of places is total
pub place_total : IsTotalOrder place_cmp
place_total = then_total (on_total (λ (f : PublicFunction). (f.start_offset).section) nat_cmp_total)
    (on_total (λ (f : PublicFunction). (f.start_offset).offset) nat_cmp_total)

-- the order of names and placeholders is total
pub name_total : IsTotalOrder name_cmp
name_total = on_total (λ (f : PublicFunction). is_none f.name) bool_cmp_total

less_is : (s s' n n' : ℕ) → (nat_lt s s' || ((s == s') && nat_lt n n'))
    ≡ is_lt (ordering_then (nat_cmp s s') (nat_cmp n n'))
less_is s s' n n' = elim (cases_Bool (nat_lt s s')) [
  | inl h ↦ rw h refl
  | inr h ↦ elim (cases_Bool (s == s')) [
    | inl e ↦ elim (cases_Bool (nat_lt n n')) [
      | inl l ↦ rw (h, e, l) refl
      | inr l ↦ elim (cases_Bool (n == n')) [
        | inl m ↦ rw (h, e, l, m) refl
        | inr m ↦ rw (h, e, l, m) refl
      ]
    ]
    | inr e ↦ rw (h, e) refl
  ]
]

-- a place is before another one if the order says so
pub before_is : (a b : PublicFunction) → is_before a.start_offset b.start_offset
    ≡ is_lt (place_cmp a b)
before_is a b = less_is (a.start_offset).section (b.start_offset).section (a.start_offset).offset
    (b.start_offset).offset

unless_named : (n m : Option (List ℕ)) → (not (is_some n) && is_some m)
    ≡ is_gt (bool_cmp (is_none n) (is_none m))
unless_named None None = refl
unless_named None (Some y) = refl
unless_named (Some x) None = refl
unless_named (Some x) (Some y) = refl

with_is : (f : PublicFunction) (xs : List PublicFunction)
    → with_entry f xs ≡ entered place_cmp name_cmp f xs
with_is f [] = refl
with_is f (x ∷ xs) =
    rw (before_is f x, before_is x f, unless_named f.name x.name, with_is f xs) refl

-- the public list is the first of each place
pub among_is : (xs : List PublicFunction) → publics_among xs ≡ firsts place_cmp name_cmp xs
among_is [] = refl
among_is (x ∷ xs) = with_is x (publics_among xs) ∙ ap (entered place_cmp name_cmp x) (among_is xs)

-- sorted stably, and then the first of each place
pub sorted_firsts : (xs ys zs : List PublicFunction) → IsSorted public_cmp ys
    → IsStable public_cmp xs ys → zs ≡ dedup (same place_cmp name_cmp) ys → zs ≡ publics_among xs
sorted_firsts xs ys zs sorted stable is =
    is ∙ ap (dedup (same place_cmp name_cmp))
    (is_in_order public_cmp (then_total place_total name_total) xs ys sorted stable)
    ∙ firsts_are place_cmp name_cmp place_total name_total xs ∙ sym (among_is xs)
