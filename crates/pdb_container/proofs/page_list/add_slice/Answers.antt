use Rattle.std.proofs.Common.{◌-◌, arith, ap}
use Rattle.pdb_container.proofs.Slices.{apart_push, apart_one}
use Rattle.pdb_container.proofs.page_list.add_slice.Goals as goal
use Rattle.pdb_container.proofs.page_list.add_slice.Goals.{then-count-gt0+else-last-slice, else-last-slice-via-then-last-slice+else-slice-last, else-last-slice-via-else-last-slice, else-count-gt0}

pub returns-clause-apart : goal.returns-clause-apart
returns-clause-apart c =
    λ h. rw c.in_ok-push.ensures.items (elim c.if-count-gt0.branch [
      | then-count-gt0+else-last-slice w ↦
          let offsets = ap (λ s. s.offset) w.index-last.ensures in
          let sizes = ap (λ s. s.size) w.index-last.ensures in
          elim w.else-last-slice.branch [
            | else-last-slice-via-then-last-slice+else-slice-last w' ↦ apart_push c.args.slices.now.items (c.len-count.result - 1) w.index-last.result.now c.args.slice (omega arith) (λ e. omega arith) c.requires.full h
            | else-last-slice-via-else-last-slice w' ↦ apart_push c.args.slices.now.items (c.len-count.result - 1) w.index-last.result.now c.args.slice (omega arith) (λ e. omega arith) c.requires.full h
          ]
      | else-count-gt0 w ↦ apart_one _ _ (omega arith) c.requires.full
    ])
