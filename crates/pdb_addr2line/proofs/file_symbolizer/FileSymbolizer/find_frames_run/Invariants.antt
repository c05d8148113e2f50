use Rattle.std.proofs.Common.{◌≡◌}
use Rattle.pdb_file_views.specs.Views.{Grows}
use Rattle.pdb_addr2line.proofs.file_symbolizer.FileSymbolizer.find_frames_run.Given as goal

-- so far only the file was read
abbrev pub invariant-loop : goal.invariant-loop
invariant-loop g l = record {
  contents : l.self.contents ≡ l.fn.self.contents;
  order : l.self.order ≡ l.fn.self.order;
  flags : l.self.flags ≡ l.fn.self.flags;
  held : l.self.held ≡ l.fn.self.held;
  grows : Grows l.fn.self.views l.self.views;
}
