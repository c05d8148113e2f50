use Rattle.std.proofs.Common.{◌≡◌, sym, ap, ◌∙◌}
use Rattle.pdb_module_data.specs.InlinedCalls.{given_by, call_rows}
use Rattle.pdb_module_data.specs.InlinePieces.{rows_of_sites, starts_of_sites, StandForDeepest}
use Rattle.pdb_module_data.specs.Procedures.{Procedure}
use Rattle.pdb_module_data.proofs.BriefSteps.{kept_read}
use Rattle.pdb_module_data.proofs.InlineSteps.{stand_as_read}
use Rattle.pdb_module_data.proofs.KeptRows.{are_cut}
use Rattle.pdb_module_data.proofs.inline_ranges.InlineRanges.read.Goals as goal

pub pieces_unless_few-requires : goal.pieces_unless_few-requires
pieces_unless_few-requires c =
    let read = c.in_ok-read.ensures in
    let same : c.as_slice-2.result.now ≡ c.as_slice.result.now = c.as_slice-2.ensures.sites ∙ sym c.as_slice.ensures.sites in
    rw (same, c.as_slice-rows.ensures.value, c.as_slice-starts.ensures.value) (are_cut _ _ c.as_slice.result.now (call_rows (given_by c.args.inlinees.now) c.procedure.inside.offset) read.rows read.starts)

pub site_pieces-requires : goal.site_pieces-requires
site_pieces-requires c =
    let read = c.in_ok-read.ensures in
    let same : c.as_slice-3.result.now ≡ c.as_slice.result.now = c.as_slice-3.ensures.sites ∙ sym c.as_slice.ensures.sites in
    rw (same, c.as_slice-rows.ensures.value, c.as_slice-starts.ensures.value) (are_cut _ _ c.as_slice.result.now (call_rows (given_by c.args.inlinees.now) c.procedure.inside.offset) read.rows read.starts)

pub returns-clause-stand : goal.returns-clause-stand
returns-clause-stand c =
    let read = c.in_ok-read.ensures in
    let lines = call_rows (given_by c.args.inlinees.now) c.procedure.inside.offset in
    let sites = c.as_slice-2.result.now in
    let same : c.as_slice.result.now ≡ sites = c.as_slice.ensures.sites ∙ sym c.as_slice-2.ensures.sites in
    let rows : c.in_ok-read.read.rows.items ≡ rows_of_sites lines sites = read.rows ∙ ap (rows_of_sites lines) same in
    let starts : c.in_ok-read.read.starts.items ≡ starts_of_sites lines 0 sites = read.starts ∙ ap (starts_of_sites lines 0) same in
    let stand : StandForDeepest lines sites c.in_ok-pieces.pieces = c.in_ok-pieces.ensures lines (c.as_slice-rows.ensures.value ∙ rows) (c.as_slice-starts.ensures.value ∙ starts) in
    let is = c.as_slice-2.ensures.sites ∙ kept_read _ _ _ c.procedure.inside.symbol_index.0 _ c.procedure.inside.end_symbol_index.0 _ c.in_ok-sites.ensures.sites c.in_ok-sites.ensures.bytes
    (ap (λ (q : Procedure). (q.symbol_index).0) c.procedure.view_is) (ap (λ (q : Procedure). (q.end_symbol_index).0) c.procedure.view_is) in
    rw (← c.procedure.view_is) (stand_as_read lines _ sites _ _ _ is rows starts stand)
