use Rattle.std.proofs.Common.{sym, subst, ◌∙◌}
use Rattle.std.specs.List.Sorted.{IsNonDecreasingBy}
use Rattle.pdb_symbols_modules.proofs.NulPlaces.{places_rise}
use Rattle.pdb_symbols_modules.proofs.name_block.NameBlock.name_at.Goals as goal

pub next_place-requires : goal.next_place-requires
next_place-requires c = subst (λ xs. IsNonDecreasingBy (λ place. place) xs)
    (sym (c.as_slice.ensures.value ∙ c.self.invariant)) (places_rise 0 c.self.inside.bytes.now)
