use Rattle.std.proofs.Common.{◌≡◌}
use Rattle.pdb_file_views.specs.Views.{Grows}
use Rattle.pdb_addr2line.proofs.file_on_demand.FileOnDemand.identity.Given as goal

-- so far only the file was read
abbrev pub invariant-loop : goal.invariant-loop
invariant-loop g l = record {
  contents : l.self.contents ≡ l.fn.self.contents;
  order : l.self.order ≡ l.fn.self.order;
  grows : Grows l.fn.self.views l.self.views;
}
