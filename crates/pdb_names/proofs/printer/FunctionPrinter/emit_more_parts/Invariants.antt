use Rattle.std.proofs.Common.{◌≡◌, drop, string_bytes}
use Rattle.pdb_names.specs.Ids.{more_parts}
use Rattle.pdb_type_printing.specs.Printing.{env_of}
use Rattle.pdb_names.proofs.printer.FunctionPrinter.emit_more_parts.Given as goal

abbrev pub invariant-loop-index : goal.invariant-loop-index
invariant-loop-index g l = record {
  same : l.self ≡ l.fn.self;
  text : more_parts (env_of g.P.ModuleProvider.provided l.fn.self l.asker.module_index)
      (drop l.index-index l.list) (string_bytes l.w)
      ≡ more_parts (env_of g.P.ModuleProvider.provided l.fn.self l.asker.module_index) l.list
      (string_bytes l.fn.w);
}
