use Rattle.pdb_module_data.proofs.NestedSites.{forest_nested}
use Rattle.pdb_module_data.proofs.inline_sites.InlineSites.read_by.Goals as goal

pub invariant_of-result : goal.invariant_of-result
invariant_of-result c =
    forest_nested c.skip_to.new.self.bytes c.procedure.inside.end_symbol_index.0
    c.skip_to.new.self.place c.in_ok-sites.sites.items c.in_ok-sites.ensures.sites
