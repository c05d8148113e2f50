use Rattle.std.proofs.Common.{◌≡◌, ◌+◌, ◌*◌, min, sym, ap, ◌∙◌, arith}
use Rattle.pdb_container.proofs.Starts.{starts_more, few_more}
use Rattle.pdb_container.proofs.directory.starts_of.Goals as goal

pub loop-group-preserved : goal.loop-group-preserved
loop-group-preserved c =
    let group = c.loop-group.group in
    let count = c.counted-count.result in
    let so_far = c.loop-group.invariant in
    let whole : min (256 * group) count ≡ 256 * group = omega (arith, c.div_ceil-groups.ensures) in
    let first : group * 256 ≡ min (256 * group) count = omega arith in
    let end : c.min.result ≡ min (256 * (group + 1)) count = omega arith in
    let sum = rw (first, end) at c.pages_between-before.ensures.sum in (
      rw (c.in_ok-push.ensures.items, so_far.0, so_far.1, whole) (sym (starts_more c.args.page_size _ group)),
      ap (λ n. n + c.pages_between-before.result) so_far.1 ∙ sum,
      omega (arith, so_far.2, c.pages_between-before.ensures.bound),
      λ k. rw c.in_ok-push.ensures.items (few_more c.loop-group.starts.items c.loop-group.before _ k so_far.3 (omega (arith, so_far.2))),
    )
