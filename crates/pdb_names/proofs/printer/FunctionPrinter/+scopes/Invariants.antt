use Rattle.std.proofs.Common.{◌+◌, ◌*◌}
use Rattle.pdb_type_printing.specs.Paths.{room}
use Rattle.pdb_names.proofs.printer.FunctionPrinter.+scopes.Given as goal

abbrev pub decreases-emit_entered_id : goal.decreases-emit_entered_id
decreases-emit_entered_id g l = 8 * room l.ids.now.path.now.items + 1

abbrev pub decreases-emit_id_index : goal.decreases-emit_id_index
decreases-emit_id_index g l = 8 * room l.ids.now.path.now.items + 2

abbrev pub decreases-emit_scope : goal.decreases-emit_scope
decreases-emit_scope g l = 8 * room l.ids.now.path.now.items + 3

abbrev pub decreases-emit_function_id : goal.decreases-emit_function_id
decreases-emit_function_id g l = 8 * room l.ids.now.path.now.items + 5

abbrev pub decreases-emit_id_form : goal.decreases-emit_id_form
decreases-emit_id_form g l = 8 * room l.ids.now.path.now.items + 6

abbrev pub decreases-emit_scoped : goal.decreases-emit_scoped
decreases-emit_scoped g l = 8 * room l.ids.now.path.now.items + 4
