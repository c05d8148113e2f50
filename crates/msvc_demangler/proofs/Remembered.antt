-- Names and types that are remembered, one after another.
use Rattle.std.proofs.Common.{◌≡◌, ℕ, zero, suc, ◌+◌, ◌<◌, ◌≤◌, List, [], ◌∷◌, ◌++◌, length, take, drop, get_or, map, Bool, true, false, ◌||◌, Some, refl, sym, ap, ◌∙◌, append_assoc, append-nil, arith, length-append, inl, inr}
use Rattle.std.specs.Prelude.{if◌then◌else◌, nat_le, option_map}
use Rattle.std.specs.List.{fold, slice_get}
use Rattle.std.specs.Str.{bytes_eq}
use Rattle.std.proofs.lemmas.List.{at_drop_more, drop_all, take_all, take-append-le}
use Rattle.std.proofs.lemmas.Option.{slice_get-map}
use Rattle.std.proofs.lemmas.Bool.{cases_lt, le-leb, lt-leb}
use Rattle.msvc_demangler.specs.Words.{Text}
use Rattle.msvc_demangler.specs.References.{is_among, remember, remember_type, new_among, remembered_names}

module _ {X : Type 0} (f : X → Text) (name : Text) where
  -- one name more that is another
  pub one_known : (known : List X) (i : ℕ) (d : X) (whole : Bool) → i < length known
      → bytes_eq (f (get_or known i d)) name ≡ false
      → whole ≡ is_among name (map f (drop i known))
      → whole ≡ is_among name (map f (drop (i + 1) known))
  one_known known i d whole within other so_far =
      so_far ∙ at_drop_more (λ ns. is_among name (map f ns)) known i d within
      ∙ ap (λ b. b || is_among name (map f (drop (i + 1) known))) other

  -- a name that is the one
  pub one_found : (known : List X) (i : ℕ) (d : X) (whole : Bool) → i < length known
      → bytes_eq (f (get_or known i d)) name ≡ true
      → whole ≡ is_among name (map f (drop i known)) → true ≡ whole
  one_found known i d whole within same so_far =
      sym (so_far ∙ at_drop_more (λ ns. is_among name (map f ns)) known i d within
      ∙ ap (λ b. b || is_among name (map f (drop (i + 1) known))) same)

  -- no name that is the one
  pub none_found : (known : List X) (i : ℕ) (whole : Bool) → length known ≤ i
      → whole ≡ is_among name (map f (drop i known)) → false ≡ whole
  none_found known i whole past so_far =
      sym (so_far ∙ ap (λ ns. is_among name (map f ns)) (drop_all i known past))

-- a name that is looked for among others
pub ruleset looking = (one_known, one_found, none_found)

remember_full : (known : List Text) (name : Text) → 10 ≤ length known
    → remember known name ≡ known
unfolding remember
remember_full known name h = rw (le-leb 10 (length known) h) refl

either_true : (b : Bool) → (b || true) ≡ true
either_true true = refl
either_true false = refl

remember_known : (known : List Text) (name : Text) → is_among name known ≡ true
    → remember known name ≡ known
unfolding remember
remember_known known name e =
    ap (λ b. if b then known else known ++ name ∷ [])
    (ap (λ b. nat_le 10 (length known) || b) e ∙ either_true (nat_le 10 (length known)))

remember_new : (known : List Text) (name : Text) → length known < 10
    → is_among name known ≡ false → remember known name ≡ known ++ name ∷ []
unfolding remember
remember_new known name h e = rw (lt-leb 10 (length known) h) (rw e refl)

-- where ten are remembered, it stays so
full : (names known : List Text) → 10 ≤ length known → fold remember known names ≡ known
full [] known h = refl
full (name ∷ names) known h =
    ap (λ k. fold remember k names) (remember_full known name h) ∙ full names known h

abbrev Remembers : List Text → List Text → Type 0
Remembers names known = fold remember known names ≡ take 10 (known ++ new_among known names)

at_full : (name : Text) (names known : List Text) → length known ≤ 10 → 10 ≤ length known
    → Remembers (name ∷ names) known
at_full name names known few h =
    full (name ∷ names) known h
    ∙ sym (take-append-le 10 known (new_among known (name ∷ names)) h ∙ take_all 10 known few)

at_known : (name : Text) (names known : List Text) → is_among name known ≡ true
    → Remembers names known → Remembers (name ∷ names) known
at_known name names known e ih =
    ap (λ k. fold remember k names) (remember_known known name e) ∙ ih
    ∙ ap (λ b. take 10 (known ++ (if b then new_among known names
    else name ∷ new_among (known ++ name ∷ []) names))) (sym e)

at_new : (name : Text) (names known : List Text) → length known < 10
    → is_among name known ≡ false → Remembers names (known ++ name ∷ [])
    → Remembers (name ∷ names) known
at_new name names known h e ih =
    ap (λ k. fold remember k names) (remember_new known name h e) ∙ ih
    ∙ ap (take 10) (append_assoc known (name ∷ []) (new_among (known ++ name ∷ []) names))
    ∙ ap (λ b. take 10 (known ++ (if b then new_among known names
    else name ∷ new_among (known ++ name ∷ []) names))) (sym e)

one_more : (name : Text) (names known : List Text) (b : Bool) → is_among name known ≡ b
    → length known ≤ 10 → ((k : List Text) → length k ≤ 10 → Remembers names k)
    → Remembers (name ∷ names) known
one_more name names known true e few ih = at_known name names known e (ih known few)
one_more name names known false e few ih = elim (cases_lt (length known) 10) [
  | inl h ↦ at_new name names known h e
      (ih (known ++ name ∷ []) (simp length-append (omega arith)))
  | inr h ↦ at_full name names known few h
]

-- the names that are remembered, after those that were
from_known : (names known : List Text) → length known ≤ 10 → Remembers names known
from_known [] known few = sym (ap (take 10) (append-nil known) ∙ take_all 10 known few)
from_known (name ∷ names) known few =
    one_more name names known (is_among name known) refl few (λ k h. from_known names k h)

type_full : (known : List ℕ) (node : ℕ) → 10 ≤ length known → remember_type known node ≡ known
unfolding remember_type
type_full known node h = rw (le-leb 10 (length known) h) refl

type_new : (known : List ℕ) (node : ℕ) → length known < 10
    → remember_type known node ≡ known ++ node ∷ []
unfolding remember_type
type_new known node h = rw (lt-leb 10 (length known) h) refl

types_full : (nodes known : List ℕ) → 10 ≤ length known → fold remember_type known nodes ≡ known
types_full [] known h = refl
types_full (node ∷ nodes) known h =
    ap (λ k. fold remember_type k nodes) (type_full known node h) ∙ types_full nodes known h

-- the types that are remembered, after those that were
types_after : (nodes known : List ℕ) → length known ≤ 10
    → fold remember_type known nodes ≡ take 10 (known ++ nodes)
types_after [] known few = sym (ap (take 10) (append-nil known) ∙ take_all 10 known few)
types_after (node ∷ nodes) known few = elim (cases_lt (length known) 10) [
  | inl h ↦ ap (λ k. fold remember_type k nodes) (type_new known node h)
      ∙ types_after nodes (known ++ node ∷ []) (simp length-append (omega arith))
      ∙ ap (take 10) (append_assoc known (node ∷ []) nodes)
  | inr h ↦ types_full (node ∷ nodes) known h
      ∙ sym (take-append-le 10 known (node ∷ nodes) h ∙ take_all 10 known few)
]

-- the law of back references to types
pub remember_all_types : (nodes : List ℕ) → fold remember_type [] nodes ≡ take 10 nodes
remember_all_types nodes = types_after nodes [] (omega arith)

-- the law of back references
pub remember_all : (names : List Text) → fold remember [] names ≡ remembered_names names
remember_all names = from_known names [] (omega arith)

-- the laws of back references
pub ruleset laws = (remember_all, remember_all_types)

-- an item of a list, by what it maps to
pub mapped_at : {X Y : Type 0} (f : X → Y) (xs : List X) (place : ℕ)
    → option_map f (slice_get xs place) ≡ slice_get (map f xs) place
mapped_at f xs place = sym (slice_get-map f xs place)

-- the last of a list
pub get_last : {X : Type 0} (xs : List X) (x : X) (i : ℕ) → i ≡ length xs
    → slice_get (xs ++ x ∷ []) i ≡ Some x
get_last [] x zero e = refl
get_last [] x (suc i) e = absurd (omega arith)
get_last (y ∷ ys) x zero e = absurd (omega arith)
get_last (y ∷ ys) x (suc i) e = get_last ys x i (omega arith)
