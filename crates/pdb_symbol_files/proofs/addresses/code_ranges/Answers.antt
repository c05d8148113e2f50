use Rattle.pdb_owners.specs.Counts.{is_section_bound}
use Rattle.pdb_symbol_files.proofs.RangeBounds.{if_begin}
use Rattle.pdb_symbol_files.proofs.addresses.code_ranges.Goals as goal

pub returns-clause-bounds : goal.returns-clause-bounds
returns-clause-bounds c =
    if_begin (λ made. made.items) (is_section_bound c.args.sections.now) c.as_slice.result.now
    c.in_order-ranges.result.items c.disjoint.result c.as_slice.ensures.value
    (c.in_order-ranges.ensures.bounds (is_section_bound c.args.sections.now)
    c.in_ok-executable_ranges.ensures.bounds) c.disjoint.ensures.bounds
