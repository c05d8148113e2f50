use Rattle.std.proofs.Common.{ℕ, ◌+◌, ◌-◌, ◌∷◌, sym, ap, ◌∙◌}
use Rattle.pdb_image.specs.Entries.{UnwoundFunction, entries_from, functions_of, taken}
use Rattle.pdb_image.proofs.Entries.{entry_taken}
use Rattle.pdb_image.proofs.functions.UnwoundFunctions.next.Goals as goal

pub returns-in-Some-2-clause-ok : goal.returns-in-Some-2-clause-ok
returns-in-Some-2-clause-ok c = let image = c.self.inside.image.now in
    let f = c.in-Some-2.function in
    entry_taken image c.loop-left.left c.loop-left.address c.self.inside.last c.in-Some.bytes.now f
    c.args.self.now c.loop-left-test.true c.in-Some.ensures.bytes
    (sym c.in-Some-2.is ∙ c.in_ok-function.ensures ∙ ap (taken image c.self.inside.last) c.from_bytes.ensures)
    c.loop-left.invariant.same
    ∙ ap (λ (n : ℕ). f ∷ functions_of image (entries_from image (c.loop-left.left - 1) (c.loop-left.address + 12)) n)
    (ap (λ (x : UnwoundFunction). x.end) (sym c.function.view_is))
