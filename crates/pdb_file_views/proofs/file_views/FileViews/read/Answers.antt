use Rattle.std.specs.Result.{is_ok}
use Rattle.std.proofs.Common.{sym, true, ap, ◌≡◌, ℕ, List, length, refl, subst, ◌∙◌}
use Rattle.pdb_container.specs.declared.source.SourceSlice.{SourceSlice}
use Rattle.pdb_container.specs.Places.{places_of, bytes_at}
use Rattle.pdb_file_views.specs.Blocks.{AreDistinct, AreFree, AreMarked}
use Rattle.pdb_file_views.specs.declared.file_views.FileView.{FileView}
use Rattle.pdb_file_views.proofs.WitnessSteps.{witness_more, places_within}
use Rattle.pdb_file_views.proofs.file_views.FileViews.read.Goals as goal

pub invariant_of-self-2 : goal.invariant_of-self-2
invariant_of-self-2 g c =
    let view : FileView = c.new-view.result in
    let marks = c.self.inside.marks.items in
    let new = c.mark_slices.new.marks.items in
    let now = c.if-not-mark_slices.ensures in
    let is = c.new-view.ensures.slices in
    let marked = c.as_slice-2.ensures.value ∙ sym is in
    let sized = c.as_slice.ensures.value ∙ sym is in
    rw (c.in_ok-push.ensures.items, c.of-witness.ensures)
    (witness_more c.self.inside.size c.self.inside.views.items marks new c.self.inside.witness.numbers view c.self.invariant now.stay
    (subst (λ (xs : List SourceSlice). AreFree marks (places_of xs)) marked (now.free refl))
    (subst (λ (xs : List SourceSlice). AreMarked new (places_of xs)) marked (now.marked refl))
    (subst (λ (xs : List SourceSlice). AreDistinct (places_of xs)) marked (now.distinct refl))
    (places_within c.self.inside.size (places_of view.slices.items)
    (λ file long. subst (λ (xs : List SourceSlice). is_ok (bytes_at file (places_of xs)) ≡ true) sized (c.in-Some.ensures.within file long)))
    (ap (λ (xs : List ℕ). length xs) (c.new-view.ensures.bytes ∙ c.in_ok-bytes.ensures) ∙ c.in_ok-read_bytes.ensures ∙ c.in-Some.ensures.size ∙ ap (λ (xs : List SourceSlice). length (places_of xs)) sized))
