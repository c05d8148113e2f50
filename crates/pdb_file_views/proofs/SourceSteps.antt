-- Sources over what was read of a file.
use Rattle.std.proofs.Common.{◌≡◌, ℕ, Bool, true, false, cond, eqb, List, length, ap, get_or, [], ◌∷◌, ◌++◌, ◌<◌, Ok, refl, ◌∙◌}
use Rattle.std.specs.Prelude.{IsPermutation}
use Rattle.std.proofs.lemmas.Bool.{and_parts, eqb-true}
use Rattle.std.proofs.lemmas.List.Elements.{All-get_or, All-nil, All-push}
use Rattle.std.proofs.lemmas.List.Sorted.{All-permutation}
use Rattle.std.specs.Cmp.Lexicographic.{pointwise}
use Rattle.pdb_container.specs.contracts.source.SourceSlicePartialEq.TheImpl.{eq-value}
use Rattle.pdb_container.specs.declared.source.SourceSlice.{SourceSlice}
use Rattle.pdb_container.specs.Places.{places_of, bytes_at}
use Rattle.pdb_file_views.specs.Views.{HasViews, IsWitness, Views, agreeing, agrees}
use Rattle.pdb_file_views.specs.declared.file_views.FileView.{FileView}
use Rattle.pdb_file_views.proofs.WitnessSteps.{views_agree, witness_has}

chosen : (P : List ℕ → Type 0) (b : Bool) (x y : List ℕ) → (b ≡ true → P x) → P y → P (cond b x y)
chosen P true x y px py = px refl
chosen P false x y px py = py

-- bytes that agree are as long as the file
pub agreeing_long : (read : Views) (marks : List Bool) (contents : List ℕ) → IsWitness read.size read.views marks read.witness → length (agreeing read contents) ≡ read.size
agreeing_long read marks contents w =
    chosen (λ bytes. length bytes ≡ read.size) (agrees read contents) contents read.witness (λ h. eqb-true (length contents) read.size (and_parts _ _ (and_parts _ _ h).0).0) w.size_is

-- and have the views
pub agreeing_has : (read : Views) (marks : List Bool) (contents : List ℕ) → IsWitness read.size read.views marks read.witness → HasViews (agreeing read contents) read.views
agreeing_has read marks contents w =
    chosen (λ bytes. HasViews bytes read.views) (agrees read contents) contents read.witness (views_agree read contents) (witness_has read.size read.views marks read.witness w)

-- views in another order
pub views_sorted : (contents : List ℕ) (views sorted : List FileView) → IsPermutation views sorted → HasViews contents views → HasViews contents sorted
views_sorted contents views sorted p h = All-permutation (λ view. bytes_at contents (places_of view.slices.items) ≡ Ok view.bytes) views sorted p h

-- views that a list of bytes has wherever it has others
abbrev pub Follow : List FileView → List FileView → Type 0
Follow views shares = (contents : List ℕ) → HasViews contents views → HasViews contents shares

pub views_none : (views : List FileView) → Follow views []
views_none views contents h = All-nil (λ view. bytes_at contents (places_of view.slices.items) ≡ Ok view.bytes)

-- one view more, which is one of the others
pub views_more : (views shares : List FileView) (i : ℕ) (d share : FileView) → i < length views → share.slices.items ≡ (get_or views i d).slices.items → share.bytes ≡ (get_or views i d).bytes
    → Follow views shares → Follow views (shares ++ share ∷ [])
views_more views shares i d share lt slices bytes so_far contents h =
    All-push (λ view. bytes_at contents (places_of view.slices.items) ≡ Ok view.bytes) shares share (so_far contents h)
    (rw (slices, bytes) (All-get_or (λ view. bytes_at contents (places_of view.slices.items) ≡ Ok view.bytes) views i d lt h))

-- a source's bytes, over other owners of the views
pub made : (now read : Views) (marks : List Bool) (contents numbers : List ℕ) (shares stored : List FileView) → now ≡ read → IsWitness read.size read.views marks read.witness
    → numbers ≡ agreeing now contents → Follow read.views shares → stored ≡ shares → (length numbers ≡ read.size) × HasViews numbers stored
made now read marks contents numbers shares stored is w chosen_is follow same =
    let by : numbers ≡ agreeing read contents = chosen_is ∙ ap (λ (v : Views). agreeing v contents) is in
    rw (by, same) (agreeing_long read marks contents w, follow (agreeing read contents) (agreeing_has read marks contents w))

abbrev slice_eq : SourceSlice → SourceSlice → Bool
slice_eq a b = eq-value.it a b

abbrev slice_of : ℕ → ℕ → SourceSlice
slice_of offset size = record { offset = offset; size = size }

one_same : (a b : SourceSlice) → slice_eq a b ≡ true → a ≡ b
one_same a b h =
    let parts = and_parts (eqb a.offset b.offset) (eqb a.size b.size) h in
    ap (λ (o : ℕ). slice_of o a.size) (eqb-true a.offset b.offset parts.0) ∙ ap (slice_of b.offset) (eqb-true a.size b.size parts.1)

-- slices that compare equal are the same
pub all_same : (xs ys : List SourceSlice) → pointwise slice_eq xs ys ≡ true → xs ≡ ys
all_same [] [] h = refl
all_same [] (y ∷ ys) h = absurd cc
all_same (x ∷ xs) [] h = absurd cc
all_same (x ∷ xs) (y ∷ ys) h =
    let parts = and_parts (slice_eq x y) (pointwise slice_eq xs ys) h in
    rw (one_same x y parts.0, all_same xs ys parts.1) refl
