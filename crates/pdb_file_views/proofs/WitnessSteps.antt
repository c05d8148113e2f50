-- Some list of bytes agrees with what was read, since no block was read twice.
use Rattle.std.proofs.Common.{◌≡◌, ◌≢◌, ℕ, ◌/◌, ◌<◌, Bool, true, false, cond, nat_eq, ltb, List, [], ◌∷◌, ◌++◌, length, get_or, replicate, Result, Ok, Err, refl, sym, ap, subst, ◌∙◌, arith}
use Rattle.std.specs.Prelude.{map}
use Rattle.std.specs.List.{All, list_all}
use Rattle.std.proofs.lemmas.Bool.{and_from, and_parts, eq-eqb, lt-ltb, ltb-true, ne_eqb}
use Rattle.std.proofs.lemmas.List.{length-replicate}
use Rattle.std.proofs.lemmas.List.Elements.{All-cons, All-head, All-nil, All-push, All-tail, All-weaker}
use Rattle.std.proofs.lemmas.List.FromFn.{get_or-map-range_with_len, length-map-range_with_len}
use Rattle.std.proofs.lemmas.Slice.Eq.{bytes_eq-Decides}
use Rattle.std.specs.Result.{is_ok}
use Rattle.std.proofs.lemmas.List.Folds.{list_all-append}
use Rattle.pdb_container.specs.Fault.{Fault}
use Rattle.pdb_container.specs.Places.{places_of, bytes_at}
use Rattle.pdb_file_views.specs.Blocks.{AreDistinct, AreFree, AreMarked, StayMarked}
use Rattle.pdb_file_views.specs.Views.{HasViews, Views, IsRead, IsWitness, agrees, byte_with, gave, has_view, with_bytes}
use Rattle.pdb_file_views.specs.declared.file_views.FileView.{FileView}
use Rattle.pdb_file_views.proofs.BlockSteps.{apart, stay_all}

abbrev below : List ℕ → ℕ → Bool
below file at = ltb at (length file)

abbrev byte : List ℕ → ℕ → ℕ
byte file at = get_or file at 0

-- ---- bytes at places

parts_of_ok : (b : Bool) (x v : List ℕ) (e : Fault) → cond b (Ok x) (Err e) ≡ Ok v → (b ≡ true) × (x ≡ v)
parts_of_ok true x v e h = (refl, cc)
parts_of_ok false x v e h = absurd cc

-- bytes that were read are there, and are these
there : (file places v : List ℕ) → bytes_at file places ≡ Ok v → (list_all (below file) places ≡ true) × (map (byte file) places ≡ v)
unfolding bytes_at
there file places v h = parts_of_ok (list_all (below file) places) (map (byte file) places) v _ h

read : (file places v : List ℕ) → list_all (below file) places ≡ true → map (byte file) places ≡ v → bytes_at file places ≡ Ok v
unfolding bytes_at
read file places v all is = rw (all, is) refl

map_same : (f g : ℕ → ℕ) (xs : List ℕ) → All (λ x. f x ≡ g x) xs → map f xs ≡ map g xs
map_same f g [] h = refl
map_same f g (x ∷ xs) h = rw (All-head (λ x. f x ≡ g x) x xs h, map_same f g xs (All-tail (λ x. f x ≡ g x) x xs h)) refl

all_below : (file : List ℕ) (places : List ℕ) → All (λ at. at < length file) places → list_all (below file) places ≡ true
all_below file [] h = refl
all_below file (at ∷ places) h = and_from _ _ (lt-ltb at (length file) (All-head (λ at. at < length file) at places h)) (all_below file places (All-tail (λ at. at < length file) at places h))

are_below : (file : List ℕ) (places : List ℕ) → list_all (below file) places ≡ true → All (λ at. at < length file) places
are_below file [] h = All-nil (λ at. at < length file)
are_below file (at ∷ places) h = All-cons (λ at. at < length file) at places (ltb-true at (length file) (and_parts _ _ h).0) (are_below file places (and_parts _ _ h).1)

-- ---- bytes that are replaced

length_with : (file places bytes : List ℕ) → length (with_bytes file places bytes) ≡ length file
length_with file places bytes = length-map-range_with_len (λ at. byte_with places bytes (byte file at) at) 0 (length file)

byte_is : (file places bytes : List ℕ) (at : ℕ) → at < length file → byte (with_bytes file places bytes) at ≡ byte_with places bytes (byte file at) at
byte_is file places bytes at lt = get_or-map-range_with_len (λ at. byte_with places bytes (byte file at) at) 0 (length file) at at 0 lt (omega arith)

byte_apart : (places bytes : List ℕ) (before at : ℕ) → All (λ place. at ≢ place) places → byte_with places bytes before at ≡ before
byte_apart [] bytes before at h = refl
byte_apart (place ∷ places) [] before at h = refl
byte_apart (place ∷ places) (b ∷ bytes) before at h =
    rw (ne_eqb at place (All-head (λ place. at ≢ place) place places h)) (byte_apart places bytes before at (All-tail (λ place. at ≢ place) place places h))

same_eq : (n : ℕ) → nat_eq n n ≡ true
same_eq n = eq-eqb n n refl

byte_later : (place b : ℕ) (places bytes : List ℕ) (f : ℕ → ℕ) (others : List ℕ) → All (λ other. place ≢ other) others
    → map (λ at. byte_with (place ∷ places) (b ∷ bytes) (f at) at) others ≡ map (λ at. byte_with places bytes (f at) at) others
byte_later place b places bytes f others h =
    map_same (λ at. byte_with (place ∷ places) (b ∷ bytes) (f at) at) (λ at. byte_with places bytes (f at) at) others
    (All-weaker (λ other. place ≢ other) (λ at. byte_with (place ∷ places) (b ∷ bytes) (f at) at ≡ byte_with places bytes (f at) at) (λ at ne. rw (ne_eqb at place (λ e. ne (sym e))) refl) others h)

-- at distinct places stand the bytes that were put there
bytes_back : (places bytes : List ℕ) (f : ℕ → ℕ) → length bytes ≡ length places → AreDistinct places → map (λ at. byte_with places bytes (f at) at) places ≡ bytes
bytes_back [] [] f long d = refl
bytes_back [] (b ∷ bytes) f long d = absurd (omega (arith, long))
bytes_back (place ∷ places) [] f long d = absurd (omega (arith, long))
bytes_back (place ∷ places) (b ∷ bytes) f long d =
    rw (same_eq place, byte_later place b places bytes f places d.0, bytes_back places bytes f (omega (arith, long)) d.1) refl

-- ---- views

new_view : (file places bytes : List ℕ) → length bytes ≡ length places → AreDistinct places → All (λ at. at < length file) places → bytes_at (with_bytes file places bytes) places ≡ Ok bytes
new_view file places bytes long d within =
    let w : List ℕ = with_bytes file places bytes in
    read w places bytes
    (all_below w places (All-weaker (λ at. at < length file) (λ at. at < length w) (λ at lt. subst (λ (n : ℕ). at < n) (sym (length_with file places bytes)) lt) places within))
    (map_same (byte w) (λ at. byte_with places bytes (byte file at) at) places (All-weaker (λ at. at < length file) (λ at. byte w at ≡ byte_with places bytes (byte file at) at) (λ at lt. byte_is file places bytes at lt) places within)
    ∙ bytes_back places bytes (byte file) long d)

all_apart : (marks : List Bool) (at : ℕ) (places : List ℕ) → get_or marks (at / 512) false ≡ true → AreFree marks places → All (λ place. at ≢ place) places
all_apart marks at places marked free = All-weaker (λ place. get_or marks (place / 512) true ≡ false) (λ place. at ≢ place) (λ place f. apart marks at place marked f) places free

same_bytes : (marks : List Bool) (file places bytes : List ℕ) → AreFree marks places → (others : List ℕ) → AreMarked marks others → All (λ at. at < length file) others
    → map (byte (with_bytes file places bytes)) others ≡ map (byte file) others
same_bytes marks file places bytes free [] marked within = refl
same_bytes marks file places bytes free (at ∷ others) marked within =
    let first : byte (with_bytes file places bytes) at ≡ byte file at = byte_is file places bytes at (All-head (λ at. at < length file) at others within) ∙ byte_apart places bytes (byte file at) at (all_apart marks at places (All-head (λ at. get_or marks (at / 512) false ≡ true) at others marked) free) in
    rw (first, same_bytes marks file places bytes free others (All-tail (λ at. get_or marks (at / 512) false ≡ true) at others marked) (All-tail (λ at. at < length file) at others within)) refl

old_view : (marks : List Bool) (file places bytes others v : List ℕ) → AreFree marks places → AreMarked marks others → bytes_at file others ≡ Ok v → bytes_at (with_bytes file places bytes) others ≡ Ok v
old_view marks file places bytes others v free marked h =
    let w : List ℕ = with_bytes file places bytes in
    let was = there file others v h in
    let within : All (λ at. at < length file) others = are_below file others was.0 in
    read w others v
    (all_below w others (All-weaker (λ at. at < length file) (λ at. at < length w) (λ at lt. subst (λ (n : ℕ). at < n) (sym (length_with file places bytes)) lt) others within))
    (same_bytes marks file places bytes free others marked within ∙ was.1)

-- a view that was read before is one of the bytes that another one is put into
still_read : (marks new : List Bool) (file places bytes : List ℕ) → StayMarked marks new → AreFree marks places → (view : FileView) → IsRead marks file view → IsRead new (with_bytes file places bytes) view
still_read marks new file places bytes stay free view r = record {
  bytes_are = old_view marks file places bytes (places_of view.slices.items) view.bytes free r.marked r.bytes_are;
  marked = stay_all marks new (places_of view.slices.items) stay r.marked;
}

abbrev is_read : List Bool → List ℕ → FileView → Type 0
is_read marks file view = IsRead marks file view

-- one view more
pub witness_more : (size : ℕ) (views : List FileView) (marks new : List Bool) (file : List ℕ) (view : FileView) → IsWitness size views marks file
    → StayMarked marks new → AreFree marks (places_of view.slices.items) → AreMarked new (places_of view.slices.items) → AreDistinct (places_of view.slices.items)
    → All (λ at. at < size) (places_of view.slices.items) → length view.bytes ≡ length (places_of view.slices.items)
    → IsWitness size (views ++ view ∷ []) new (with_bytes file (places_of view.slices.items) view.bytes)
witness_more size views marks new file view w stay free marked distinct within long =
    let places : List ℕ = places_of view.slices.items in
    record {
      size_is = length_with file places view.bytes ∙ w.size_is;
      each = All-push (IsRead new (with_bytes file places view.bytes)) views view
          (All-weaker (IsRead marks file) (IsRead new (with_bytes file places view.bytes)) (still_read marks new file places view.bytes stay free) views w.each)
          record {
            bytes_are = new_view file places view.bytes long distinct (subst (λ (n : ℕ). All (λ at. at < n) places) (sym w.size_is) within);
            marked = marked;
          };
    }

-- marks alone
pub witness_marked : (size : ℕ) (views : List FileView) (marks new : List Bool) (file : List ℕ) → IsWitness size views marks file → StayMarked marks new → IsWitness size views new file
witness_marked size views marks new file w stay = record {
  size_is = w.size_is;
  each = All-weaker (IsRead marks file) (IsRead new file) (λ view r. record { bytes_are = r.bytes_are; marked = stay_all marks new (places_of view.slices.items) stay r.marked }) views w.each;
}

-- zeros, of a file of which nothing was read
pub witness_first : (size : ℕ) (marks : List Bool) → IsWitness size [] marks (replicate size 0)
witness_first size marks = record { size_is = length-replicate {A = ℕ} size 0; each = All-nil (IsRead marks (replicate size 0)) }

-- ---- agreeing

gave_same : (r : Result (List ℕ) Fault) (bytes : List ℕ) → gave r bytes ≡ true → r ≡ Ok bytes
gave_same (Ok x) bytes h = ap (λ (y : List ℕ). Ok y) ((bytes_eq-Decides x bytes).0 h)
gave_same (Err e) bytes h = absurd cc

-- a view of bytes that agree
pub view_agrees : (contents : List ℕ) (view : FileView) → has_view contents view ≡ true → bytes_at contents (places_of view.slices.items) ≡ Ok view.bytes
view_agrees contents view h = gave_same (bytes_at contents (places_of view.slices.items)) view.bytes h

all_of : (P : FileView → Bool) (views : List FileView) → list_all P views ≡ true → All (λ view. P view ≡ true) views
all_of P [] h = All-nil (λ view. P view ≡ true)
all_of P (view ∷ views) h = All-cons (λ view. P view ≡ true) view views (and_parts _ _ h).0 (all_of P views (and_parts _ _ h).1)

pub views_agree : (read : Views) (contents : List ℕ) → agrees read contents ≡ true → HasViews contents read.views
views_agree read contents h =
    All-weaker (λ view. has_view contents view ≡ true) (λ view. bytes_at contents (places_of view.slices.items) ≡ Ok view.bytes) (view_agrees contents) read.views (all_of (has_view contents) read.views (and_parts _ _ (and_parts _ _ h).0).1)

pub witness_has : (size : ℕ) (views : List FileView) (marks : List Bool) (file : List ℕ) → IsWitness size views marks file → HasViews file views
witness_has size views marks file w = All-weaker (IsRead marks file) (λ view. bytes_at file (places_of view.slices.items) ≡ Ok view.bytes) (λ view r. r.bytes_are) views w.each

of_ok : (b : Bool) (x : List ℕ) (e : Fault) → is_ok (cond b (Ok x) (Err e)) ≡ true → b ≡ true
of_ok true x e h = refl
of_ok false x e h = absurd cc

is_ok_there : (file places : List ℕ) → is_ok (bytes_at file places) ≡ true → list_all (below file) places ≡ true
unfolding bytes_at
is_ok_there file places h = of_ok (list_all (below file) places) (map (byte file) places) _ h

-- places that are there lie within the file
pub places_within : (size : ℕ) (places : List ℕ) → ((file : List ℕ) → length file ≡ size → is_ok (bytes_at file places) ≡ true) → All (λ at. at < size) places
places_within size places h =
    let zeros : List ℕ = replicate size 0 in
    let long : length zeros ≡ size = length-replicate {A = ℕ} size 0 in
    subst (λ (n : ℕ). All (λ at. at < n) places) long (are_below zeros places (is_ok_there zeros places (h zeros long)))

-- what agrees with one view more agreed before
pub agreed_before : (read : Views) (view : FileView) (witness contents : List ℕ) → agrees (record { size = read.size; views = read.views ++ view ∷ []; whole = read.whole; witness = witness }) contents ≡ true → agrees read contents ≡ true
agreed_before read view witness contents h =
    let parts = and_parts _ _ h in
    let both = and_parts _ _ parts.0 in
    let views = and_parts _ _ (sym (list_all-append (has_view contents) read.views (view ∷ [])) ∙ both.1) in
    and_from _ _ (and_from _ _ both.0 views.0) parts.1
