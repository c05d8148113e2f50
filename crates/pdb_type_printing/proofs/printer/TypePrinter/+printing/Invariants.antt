use Rattle.std.proofs.Common.{◌≡◌, ◌+◌, ◌*◌, length, string_bytes}
use Rattle.pdb_type_printing.specs.Level.{KeepsLevel}
use Rattle.pdb_type_printing.specs.Paths.{room}
use Rattle.pdb_type_printing.specs.Types.{visiting, more_arguments}
use Rattle.pdb_type_printing.specs.Printing.{env_of}
use Rattle.pdb_type_printing.proofs.printer.TypePrinter.+printing.Given as goal

abbrev pub decreases-emit_entered : goal.decreases-emit_entered
decreases-emit_entered g l = 16 * room l.seen.now.path.now.items + 1

abbrev pub decreases-emit_type_index : goal.decreases-emit_type_index
decreases-emit_type_index g l = 16 * room l.seen.now.path.now.items + 2

abbrev pub decreases-emit_return_type : goal.decreases-emit_return_type
decreases-emit_return_type g l = 16 * room l.seen.now.path.now.items + 4

abbrev pub decreases-emit_shown_return : goal.decreases-emit_shown_return
decreases-emit_shown_return g l = 16 * room l.seen.now.path.now.items + 3

abbrev pub decreases-maybe_emit_return_type : goal.decreases-maybe_emit_return_type
decreases-maybe_emit_return_type g l = 16 * room l.seen.now.path.now.items + 4

abbrev pub decreases-emit_copied : goal.decreases-emit_copied
decreases-emit_copied g l = 16 * room l.seen.now.path.now.items + 3

abbrev pub decreases-emit_repeated : goal.decreases-emit_repeated
decreases-emit_repeated g l = 16 * room l.seen.now.path.now.items + 4

abbrev pub decreases-emit_more_arguments : goal.decreases-emit_more_arguments
decreases-emit_more_arguments g l = 16 * room l.seen.now.path.now.items + 5

abbrev pub decreases-emit_first_and_more : goal.decreases-emit_first_and_more
decreases-emit_first_and_more g l = 16 * room l.seen.now.path.now.items + 6

abbrev pub decreases-emit_arguments : goal.decreases-emit_arguments
decreases-emit_arguments g l = 16 * room l.seen.now.path.now.items + 7

abbrev pub decreases-emit_extra_and_arguments : goal.decreases-emit_extra_and_arguments
decreases-emit_extra_and_arguments g l = 16 * room l.seen.now.path.now.items + 8

abbrev pub decreases-emit_procedure : goal.decreases-emit_procedure
decreases-emit_procedure g l = 16 * room l.seen.now.path.now.items + 6

abbrev pub decreases-emit_method_arguments : goal.decreases-emit_method_arguments
decreases-emit_method_arguments g l = 16 * room l.seen.now.path.now.items + 5

abbrev pub decreases-emit_member_function : goal.decreases-emit_member_function
decreases-emit_member_function g l = 16 * room l.seen.now.path.now.items + 6

abbrev pub decreases-emit_modified : goal.decreases-emit_modified
decreases-emit_modified g l = 16 * room l.seen.now.path.now.items + 4

abbrev pub decreases-emit_pointee : goal.decreases-emit_pointee
decreases-emit_pointee g l = 16 * room l.seen.now.path.now.items + 4

abbrev pub decreases-emit_pointer : goal.decreases-emit_pointer
decreases-emit_pointer g l = 16 * room l.seen.now.path.now.items + 5

abbrev pub decreases-emit_pointee_modified : goal.decreases-emit_pointee_modified
decreases-emit_pointee_modified g l = 16 * room l.seen.now.path.now.items + 4

abbrev pub decreases-emit_plain : goal.decreases-emit_plain
decreases-emit_plain g l = 16 * room l.seen.now.path.now.items + 8

abbrev pub decreases-emit_plain_caught : goal.decreases-emit_plain_caught
decreases-emit_plain_caught g l = 16 * room l.seen.now.path.now.items + 9

abbrev pub decreases-emit_array : goal.decreases-emit_array
decreases-emit_array g l = 16 * room l.seen.now.path.now.items + 10

abbrev pub decreases-emit_type_inner : goal.decreases-emit_type_inner
decreases-emit_type_inner g l = 16 * room l.seen.now.path.now.items + 11

abbrev pub decreases-emit_type : goal.decreases-emit_type
decreases-emit_type g l = 16 * room l.seen.now.path.now.items + 12

abbrev pub decreases-emit_member_pointer : goal.decreases-emit_member_pointer
decreases-emit_member_pointer g l = 16 * room l.seen.now.path.now.items + 6

abbrev pub decreases-emit_procedure_pointer : goal.decreases-emit_procedure_pointer
decreases-emit_procedure_pointer g l = 16 * room l.seen.now.path.now.items + 6

abbrev pub decreases-emit_pointed : goal.decreases-emit_pointed
decreases-emit_pointed g l = 16 * room l.seen.now.path.now.items + 13

abbrev pub decreases-emit_modified_inside : goal.decreases-emit_modified_inside
decreases-emit_modified_inside g l = 16 * room l.seen.now.path.now.items + 14

abbrev pub decreases-emit_pointee_inside : goal.decreases-emit_pointee_inside
decreases-emit_pointee_inside g l = 16 * room l.seen.now.path.now.items + 14

abbrev pub decreases-emit_pointee_modified_inside : goal.decreases-emit_pointee_modified_inside
decreases-emit_pointee_modified_inside g l = 16 * room l.seen.now.path.now.items + 14

abbrev pub decreases-emit_argument_list_inside : goal.decreases-emit_argument_list_inside
decreases-emit_argument_list_inside g l = 16 * room l.seen.now.path.now.items + 14

abbrev pub decreases-emit_argument_list : goal.decreases-emit_argument_list
decreases-emit_argument_list g l = 16 * room l.seen.now.path.now.items + 4

abbrev pub decreases-emit_in_brackets : goal.decreases-emit_in_brackets
decreases-emit_in_brackets g l = 16 * room l.seen.now.path.now.items + 9

abbrev pub decreases-emit_modified_other : goal.decreases-emit_modified_other
decreases-emit_modified_other g l = 16 * room l.seen.now.path.now.items + 13

abbrev pub decreases-emit_more_arguments-loop-run : goal.decreases-emit_more_arguments-loop-run
decreases-emit_more_arguments-loop-run g l = length l.rest

abbrev pub invariant-emit_more_arguments-loop-run : goal.invariant-emit_more_arguments-loop-run
invariant-emit_more_arguments-loop-run g l = record {
  same : l.self ≡ l.fn.self;
  level : KeepsLevel l.fn.seen l.seen;
  text : more_arguments l.rest (env_of g.P.ModuleProvider.provided l.fn.self l.asker.module_index)
      (visiting (env_of g.P.ModuleProvider.provided l.fn.self l.asker.module_index)
      l.fn.seen.path.now.items) l.fn.seen.path.now.items (string_bytes l.w)
      ≡ more_arguments l.list (env_of g.P.ModuleProvider.provided l.fn.self l.asker.module_index)
      (visiting (env_of g.P.ModuleProvider.provided l.fn.self l.asker.module_index)
      l.fn.seen.path.now.items) l.fn.seen.path.now.items (string_bytes l.fn.w);
}
