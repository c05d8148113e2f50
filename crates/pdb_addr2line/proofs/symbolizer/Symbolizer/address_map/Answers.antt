use Rattle.std.proofs.Common.{Some, sym, ap, subst, ◌∙◌, ◌≡◌}
use Rattle.pdb_addresses.specs.Addresses.{Map, IsOrdered}
use Rattle.pdb_symbols_modules.specs.Streams.{streams}
use Rattle.pdb_loading.specs.LoadedFile.{FileBytes}
use Rattle.pdb_addr2line.specs.Answer.{map_with}
use Rattle.pdb_addr2line.proofs.OpeningSteps.{map_kept, map_ordered}
use Rattle.pdb_addr2line.proofs.symbolizer.Symbolizer.address_map.Goals as goal

pub returns-clause-map : goal.returns-clause-map
returns-clause-map c =
    subst (λ (f : FileBytes). map_with f.order (streams f.bytes) ≡ Some c.address_map.result.now) c.self.view_is
    (map_kept c.self.inside.order c.self.inside.file c.self.inside.held c.self.invariant ∙ ap (λ (m : Map). Some m) (sym c.address_map.ensures))

pub returns-clause-ordered : goal.returns-clause-ordered
returns-clause-ordered c =
    subst (λ (m : Map). IsOrdered m) (sym c.address_map.ensures) (map_ordered c.self.inside.order c.self.inside.file c.self.inside.held c.self.invariant)
