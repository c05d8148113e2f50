use Rattle.pdb_symbols.proofs.NamedSteps.{all_out, kept_out, last_early, line_kept, out_early}
use Rattle.pdb_symbols.proofs.NamedSteps.{written_early}
use Rattle.pdb_symbols.proofs.renaming.write_renamed.Goals as goal

pub returns-in_err-append_line-clause-part : goal.returns-in_err-append_line-clause-part
returns-in_err-append_line-clause-part g c =
    out_early c.from_residual.result _ _ _ _ _ c.loop-line.invariant

pub returns-in_err-write_if_long-clause-part : goal.returns-in_err-write_if_long-clause-part
returns-in_err-write_if_long-clause-part g c =
    written_early c.from_residual-in_err-write_if_long.result _ _ _ _ _ _ _ _ _
    c.in_err-write_if_long.was
    (line_kept _ _ _ _ _ _ _ _ c.loop-line.invariant c.in-Some.ensures
    c.in_ok-append_line.ensures) c.write_if_long.ensures.out

pub loop-line-preserved : goal.loop-line-preserved
loop-line-preserved g c =
    kept_out _ _ _ _ _ _ _ _ _ c.in_ok-write_if_long.was
    (line_kept _ _ _ _ _ _ _ _ c.loop-line.invariant c.in-Some.ensures
    c.in_ok-append_line.ensures) c.write_if_long.ensures.out

pub returns-in_err-extend_from_slice-clause-part :
    goal.returns-in_err-extend_from_slice-clause-part
returns-in_err-extend_from_slice-clause-part g c =
    out_early c.from_residual-in_err-extend_from_slice.result _ _ _ _ _ c.loop-line.invariant

pub returns-clause-ok : goal.returns-clause-ok
returns-clause-ok g c =
    all_out c.write_part.result _ _ _ _ _ _ _ c.loop-line.invariant
    c.in_ok-extend_from_slice.ensures.items c.write_part.ensures.ok

pub returns-clause-part : goal.returns-clause-part
returns-clause-part g c =
    last_early c.write_part.result _ _ _ _ _ _ _ c.loop-line.invariant
    c.in_ok-extend_from_slice.ensures.items c.write_part.ensures.part
