use Rattle.pdb_image.proofs.Tables.{table_told}
use Rattle.pdb_image.proofs.table.push_table_of.Goals as goal

pub returns-clause-table : goal.returns-clause-table
returns-clause-table c = table_told c.args.image.now c.args.of_parent c.args.info c.in_ok-header.header.now
    c.in_ok-bytes.bytes.now c.args.codes.now.items c.push_codes.new.codes.items c.parent_of.result
    c.in_ok-header.ensures.header c.in_ok-bytes.ensures.bytes c.in_ok-push_codes.ensures.codes
    c.parent_of.ensures
