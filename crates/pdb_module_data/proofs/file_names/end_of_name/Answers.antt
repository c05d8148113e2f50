use Rattle.std.proofs.Common.{sym, arith}
use Rattle.pdb_module_data.proofs.NameEnds.{starts_ascend, name_ends, name_endless}
use Rattle.pdb_module_data.proofs.file_names.end_of_name.Goals as goal

pub count_begun-number-requires : goal.count_begun-number-requires
count_begun-number-requires c = starts_ascend c.requires.0 c.args.next_names.now c.requires.1

pub returns-in-None : goal.returns-in-None
returns-in-None c = λ names are.
    let begun = rw c.from.ensures at c.count_begun-number.ensures.begun in
    name_endless names c.args.next_names.now c.args.offset c.count_begun-number.result.0 are begun (sym c.in-None.ensures)

pub returns-in-Some : goal.returns-in-Some
returns-in-Some c = λ names are.
    let begun = rw c.from.ensures at c.count_begun-number.ensures.begun in
    let ends = name_ends names c.args.next_names.now c.args.offset c.count_begun-number.result.0 c.in-Some.next are begun (sym c.in-Some.ensures) in
    record { from = omega (arith, ends.from); within = omega (arith, ends.from, ends.within); name = ends.name }
