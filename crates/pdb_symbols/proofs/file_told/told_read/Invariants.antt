use Rattle.std.proofs.Common.{◌≡◌}
use Rattle.pdb_file_views.specs.Views.{Grows}
use Rattle.pdb_symbols.proofs.file_told.told_read.Given as goal

-- so far only the file was read
abbrev pub invariant-loop : goal.invariant-loop
invariant-loop g l = record {
  contents : l.symbolizer.contents ≡ l.fn.symbolizer.contents;
  order : l.symbolizer.order ≡ l.fn.symbolizer.order;
  flags : l.symbolizer.flags ≡ l.fn.symbolizer.flags;
  held : l.symbolizer.held ≡ l.fn.symbolizer.held;
  grows : Grows l.fn.symbolizer.views l.symbolizer.views;
  lookups : l.lookups ≡ l.fn.lookups;
}
