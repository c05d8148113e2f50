-- What is written piece by piece.
use Rattle.std.proofs.Common.{◌≡◌, inl, inr, Result, Ok, Err, ℕ, ◌+◌, ◌<◌, ◌≤◌, List, [], ◌∷◌, ◌++◌, length, get_or, take, drop, sym, ap, subst, ◌∙◌, append_assoc, append-nil, take-append-drop}
use Rattle.std.specs.Prelude.{Option}
use Rattle.std.specs.List.{flat_map}
use Rattle.std.specs.Io.KnownBytes.{Appends}
use Rattle.std.proofs.KnownBytes.{Appends-trans}
use Rattle.std.proofs.lemmas.List.{take_more, take_all, drop_more}
use Rattle.std.proofs.lemmas.List.Concat.{flat_map-append}
use Rattle.std.specs.declared.io.ErrorKind.{ErrorKind}
use Rattle.pdb_engine.specs.Puts.{Count, HasFailed, PutsAll, PutsFront, Puts}
use Rattle.pdb_report.specs.ToldFault.{Tells}

module _ {X : Type 0} (text : X → List ℕ) where
  one_more : (pieces : List X) (i : ℕ) (d : X) → i < length pieces → flat_map text (take (i + 1) pieces) ≡ flat_map text (take i pieces) ++ text (get_or pieces i d)
  one_more pieces i d lt =
      ap (flat_map text) (take_more pieces i d lt) ∙ flat_map-append text (take i pieces) (get_or pieces i d ∷ []) ∙ ap (λ l. flat_map text (take i pieces) ++ l) (append-nil (text (get_or pieces i d)))

  module _ {T : Type 0} (contents : T → Option (List ℕ)) (failures : T → Count) (has_failed : T → ErrorKind → Type 0) (start before now : T) (pieces : List X) (i : ℕ) (d : X) (lt : i < length pieces) (so_far : PutsAll contents failures start before (flat_map text (take i pieces))) where
    pub pieces_more : PutsAll contents failures before now (text (get_or pieces i d)) → PutsAll contents failures start now (flat_map text (take (i + 1) pieces))
    pieces_more (quiet, written) = (
      quiet ∙ so_far.0,
      subst (λ (l : List ℕ). Appends (contents start) (contents now) l) (sym (one_more pieces i d lt)) (Appends-trans (contents start) (contents before) (contents now) (flat_map text (take i pieces)) (text (get_or pieces i d)) so_far.1 written),
    )

    pub pieces_part : (kind : ErrorKind) → PutsFront contents failures has_failed before now kind (text (get_or pieces i d)) → PutsFront contents failures has_failed start now kind (flat_map text pieces)
    pieces_part kind (failed, so, (out, written, (more, begins))) =
        let front = flat_map text (take i pieces) in
        let rest = flat_map text (drop (i + 1) pieces) in
        let split : flat_map text pieces ≡ front ++ (text (get_or pieces i d) ++ rest) =
        ap (flat_map text) (sym (take-append-drop i pieces) ∙ ap (λ xs. take i pieces ++ xs) (drop_more pieces i d lt)) ∙ flat_map-append text (take i pieces) (get_or pieces i d ∷ drop (i + 1) pieces) in (
          subst (λ (c : Count). HasFailed c (failures now)) so_far.0 failed,
          so,
          (
            front ++ out,
            Appends-trans (contents start) (contents before) (contents now) front out so_far.1 written,
            (more ++ rest, split ∙ ap (λ l. front ++ (l ++ rest)) begins ∙ ap (λ l. front ++ l) (append_assoc out more rest) ∙ sym (append_assoc front out (more ++ rest))),
          ),
        )

  pub pieces_all : {T : Type 0} (contents : T → Option (List ℕ)) (failures : T → Count) (start now : T) (pieces : List X) (i : ℕ) → length pieces ≤ i
      → PutsAll contents failures start now (flat_map text (take i pieces)) → PutsAll contents failures start now (flat_map text pieces)
  pieces_all contents failures start now pieces i past (quiet, written) = (quiet, subst (λ (l : List ℕ). Appends (contents start) (contents now) l) (ap (flat_map text) (take_all i pieces past)) written)

-- a text that was written is reported: whole, or a prefix of it
pub told_either : {T : Type 0} (contents : T → Option (List ℕ)) (failures : T → Count) (has_failed : T → ErrorKind → Type 0) (old new : T) (result : Result (Unit {0}) ErrorKind) (line : List ℕ) → Puts contents failures has_failed old new result line → Tells contents failures has_failed old new line
told_either contents failures has_failed old new (Ok done) line h = inl h
told_either contents failures has_failed old new (Err kind) line h = inr (kind, h)
