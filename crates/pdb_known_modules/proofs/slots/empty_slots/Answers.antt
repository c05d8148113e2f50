use Rattle.std.proofs.Common.{[], ◌∷◌, ◌++◌, ◌∙◌, None, ap}
use Rattle.std.proofs.lemmas.List.{replicate-append-replicate}
use Rattle.pdb_known_modules.proofs.slots.empty_slots.Goals as goal

pub loop-preserved : goal.loop-preserved
loop-preserved g c =
    c.in_ok-push.ensures.items ∙ ap (λ xs. xs ++ None ∷ []) c.loop.invariant
    ∙ replicate-append-replicate c.loop.counter 1 None
