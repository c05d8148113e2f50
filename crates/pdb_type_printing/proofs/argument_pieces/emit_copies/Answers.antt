use Rattle.std.proofs.Common.{string_bytes}
use Rattle.pdb_type_printing.proofs.OneMoreCopy.{one_copy}
use Rattle.pdb_type_printing.proofs.argument_pieces.emit_copies.Goals as goal

pub loop-preserved : goal.loop-preserved
loop-preserved c =
    one_copy (string_bytes c.args.w.now) (string_bytes c.loop.w) (string_bytes c.emit_comma.new.w)
    (string_bytes c.emit.new.w) c.args.argument.now c.args.flags.bits c.loop.counter c.loop.invariant
    c.in_ok-emit_comma.ensures c.in_ok-emit.ensures
