use Rattle.pdb_symbols.proofs.NamedSteps.{all_written, first_early, last_part_early, said, said_early}
use Rattle.pdb_symbols.proofs.NamedSteps.{second_early}
use Rattle.pdb_symbols.proofs.writing.write_symbols_text.Goals as goal

pub returns-in_err-write_records-clause-part : goal.returns-in_err-write_records-clause-part
returns-in_err-write_records-clause-part g c =
    first_early c.from_residual.result c.args.demangle _ _ _ _ _
    (said_early _ _ _ _ _ c.as_str.ensures.value c.in_err-write_records.ensures.part)

pub returns-in_err-write_records-2-clause-part : goal.returns-in_err-write_records-2-clause-part
returns-in_err-write_records-2-clause-part g c =
    second_early c.from_residual-in_err-write_records-2.result c.args.demangle _ _ _ _ _ _
    (said _ _ _ _ _ c.as_str.ensures.value c.in_ok-write_records.ensures.ok)
    (said_early _ _ _ _ _ c.as_str-2.ensures.value c.in_err-write_records-2.ensures.part)

pub returns-clause-ok : goal.returns-clause-ok
returns-clause-ok g c =
    all_written c.write_image.result c.args.demangle _ _ _ _ _ _ _
    (said _ _ _ _ _ c.as_str.ensures.value c.in_ok-write_records.ensures.ok)
    (said _ _ _ _ _ c.as_str-2.ensures.value c.in_ok-write_records-2.ensures.ok)
    c.write_image.ensures.ok

pub returns-clause-part : goal.returns-clause-part
returns-clause-part g c =
    last_part_early c.write_image.result c.args.demangle _ _ _ _ _ _ _
    (said _ _ _ _ _ c.as_str.ensures.value c.in_ok-write_records.ensures.ok)
    (said _ _ _ _ _ c.as_str-2.ensures.value c.in_ok-write_records-2.ensures.ok)
    c.write_image.ensures.part
