-- One more copy of an argument.
use Rattle.std.proofs.Common.{◌≡◌, ℕ, ◌+◌, [], ◌∷◌, ◌++◌, replicate, sym, ap, ◌∙◌, append_assoc}
use Rattle.std.proofs.lemmas.Grind.{replicate_next}
use Rattle.std.proofs.lemmas.List.{append-nil}
use Rattle.std.proofs.lemmas.List.Folds.{concat-append}
use Rattle.std.specs.List.{concat}
use Rattle.pdb_type_printing.specs.Arguments.{comma, copies}
use Rattle.pdb_type_printing.specs.Printed.{Text, Done, say}

more : (n : ℕ) (x : Text) → concat (replicate (n + 1) x) ≡ concat (replicate n x) ++ x
more n x = rw (replicate_next n x, concat-append (replicate n x) (x ∷ []), append-nil x)

-- one more copy
pub one_copy : (start w w' w'' argument : Text) (flags n : ℕ)
    → w ≡ start ++ copies flags argument n → say (comma flags) w ≡ Done w'
    → say argument w' ≡ Done w'' → w'' ≡ start ++ copies flags argument (n + 1)
one_copy start w w' w'' argument flags n so_far first second =
    let e : w ++ comma flags ≡ w' = cc in
    let e' : w' ++ argument ≡ w'' = cc in
    sym e' ∙ ap (λ (x : Text). x ++ argument) (sym e)
    ∙ ap (λ (x : Text). (x ++ comma flags) ++ argument) so_far
    ∙ rw (more n (comma flags ++ argument)) (simp append_assoc)
