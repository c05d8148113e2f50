use Rattle.std.proofs.Common.{◌≡◌, ◌-◌, length}
use Rattle.pdb_records.specs.Shapes.{array_form}
use Rattle.pdb_type_printing.specs.Arrays.{elements_from, elements_of}
use Rattle.pdb_type_printing.specs.Printing.{env_of}
use Rattle.pdb_type_printing.proofs.printer.TypePrinter.elements_of.Given as goal

abbrev pub invariant-loop : goal.invariant-loop
invariant-loop g l = record {
  same : l.self ≡ l.fn.self;
  many : length l.passed.items ≡ l.counter;
  value : elements_from (env_of g.P.ModuleProvider.provided l.fn.self l.asker.module_index)
      (1024 - l.counter) l.passed.items l.dimensions.items l.index.0
      ≡ elements_of (env_of g.P.ModuleProvider.provided l.fn.self l.asker.module_index)
      (array_form l.array);
}
