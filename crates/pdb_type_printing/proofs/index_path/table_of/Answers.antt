use Rattle.std.proofs.Common.{◌≡◌, length, arith, subst}
use Rattle.pdb_type_printing.specs.PathPlaces.{ArePlaced}
use Rattle.pdb_type_printing.proofs.index_path.table_of.Goals as goal

pub returns : goal.returns
returns c =
    let all : c.loop-count.count ≡ length c.args.path.now =
    omega (arith, c.loop-count.auto.count-end) in
    subst (λ n. ArePlaced c.loop-count.table.items c.args.path.now n) all c.loop-count.invariant
