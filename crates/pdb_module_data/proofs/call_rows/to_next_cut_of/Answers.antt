use Rattle.std.proofs.Common.{◌+◌, drop, get_or, ap, sym, ◌∙◌}
use Rattle.std.proofs.lemmas.List.{at_drop_more}
use Rattle.pdb_addresses.specs.SectionRun.{up_to_next}
use Rattle.pdb_module_data.specs.InlinePieces.{cuts_of}
use Rattle.pdb_module_data.specs.declared.call_rows.CallRow.{CallRow}
use Rattle.pdb_module_data.proofs.CutSteps.{next_row}
use Rattle.pdb_module_data.proofs.call_rows.to_next_cut_of.Goals as goal

-- the row's cuts are taken before those of the rows left
pub loop-row-preserved : goal.loop-row-preserved
loop-row-preserved c =
    let rows = c.args.rows.now in
    let i = c.loop-row.row-index in
    let origin : CallRow =
    record { offset = record { offset = 0; section = 0 }; length = 0; file_index = record { 0 = 0 }; line_start = 0 } in
    ap (λ n. up_to_next (cuts_of (drop (i + 1) rows)) c.args.offset n) c.to_cut-nearest.ensures
    ∙ sym (next_row (get_or rows i origin) (drop (i + 1) rows) c.args.offset c.loop-row.nearest)
    ∙ sym (at_drop_more (λ left. up_to_next (cuts_of left) c.args.offset c.loop-row.nearest) rows i origin c.loop-row-test.true)
    ∙ c.loop-row.invariant
