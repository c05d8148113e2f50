use Rattle.std.proofs.Common.{◌≡◌, ◌+◌, ◌-◌, ◌^◌, ap, ◌∙◌, min, take, arith}
use Rattle.pdb_listings.specs.Sizes.{bytes_of}
use Rattle.pdb_listings.specs.declared.sizes.Size.{Size}
use Rattle.pdb_listings.proofs.Sums.{all_taken, item_more}
use Rattle.pdb_listings.proofs.sizes.total_of.Goals as goal

pub loop-size-preserved : goal.loop-size-preserved
loop-size-preserved c =
    let i = c.loop-size.size-index in
    let more : bytes_of (take (i + 1) c.args.sizes.now) ≡ bytes_of (take i c.args.sizes.now) + c.size-item.result.bytes =
    item_more (λ (s : Size). s.bytes) c.args.sizes.now i c.size-item.result c.loop-size-test.true c.size-item.is in
    let so_far : c.loop-size.total ≡ min (bytes_of (take i c.args.sizes.now)) (2 ^ 64 - 1) =
    c.loop-size.invariant in
    omega (arith, more, so_far, c.saturating_add-total.ensures)

pub returns : goal.returns
returns c = c.loop-size.invariant
    ∙ ap (λ n. min n (2 ^ 64 - 1)) (all_taken (λ (s : Size). s.bytes) c.args.sizes.now c.loop-size.size-index c.loop-size-test.false)
