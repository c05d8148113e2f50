use Rattle.std.proofs.Common.{◌≡◌}
use Rattle.pdb_file_views.specs.Views.{Grows}
use Rattle.pdb_report.specs.FileAnswers.{IsUnasked}
use Rattle.pdb_report.proofs.file_sizes.count_file.Given as goal

-- so far only the file was read
abbrev pub invariant-loop : goal.invariant-loop
invariant-loop g l = record {
  contents : l.symbolizer.contents ≡ l.fn.symbolizer.contents;
  order : l.symbolizer.order ≡ l.fn.symbolizer.order;
  flags : l.symbolizer.flags ≡ l.fn.symbolizer.flags;
  grows : Grows l.fn.symbolizer.views l.symbolizer.views;
  unasked : IsUnasked l.symbolizer;
}
