use Rattle.std.proofs.Common.{◌<◌, length, arith}
use Rattle.pdb_pieces.proofs.Covers.{stands_before_first, stands_in_first, first_reaches}
use Rattle.pdb_pieces.proofs.Covers.{first_reaches_end, first_starts}
use Rattle.pdb_pieces.proofs.cut.look_ahead.Goals as goal

pub returns-then-from-span-clause-stands : goal.returns-then-from-span-clause-stands
returns-then-from-span-clause-stands c =
    let lt : c.args.i < length c.args.spans.now = omega arith in
    stands_before_first _ _ _ _ _ c.requires lt

pub returns-then-from-span-clause-first : goal.returns-then-from-span-clause-first
returns-then-from-span-clause-first c =
    let lt : c.args.i < length c.args.spans.now = omega arith in
    first_reaches _ _ _ _ lt (first_starts _ _ _ _ _ c.requires lt)

pub returns-else-from-span-clause-stands : goal.returns-else-from-span-clause-stands
returns-else-from-span-clause-stands c =
    let lt : c.args.i < length c.args.spans.now = omega arith in
    stands_in_first _ _ _ _ _ c.requires lt (omega arith)

pub returns-else-from-span-clause-first : goal.returns-else-from-span-clause-first
returns-else-from-span-clause-first c =
    let lt : c.args.i < length c.args.spans.now = omega arith in
    first_reaches_end _ _ _ lt
