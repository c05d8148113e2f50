use Rattle.std.proofs.Common.{string_bytes}
use Rattle.pdb_type_printing.proofs.PointerSteps.{pointers_on}
use Rattle.pdb_type_printing.proofs.pointers.emit_pointers.Goals as goal

pub loop-k-preserved : goal.loop-k-preserved
loop-k-preserved c =
    pointers_on c.args.flags.bits c.loop-k.may_space c.loop-k.is_behind_sigil c.args.pointers.now
    c.loop-k.k _ (string_bytes c.loop-k.w) (string_bytes c.emit_pointer.new.w) _
    c.loop-k-test.true c.in_ok-emit_pointer.ensures c.loop-k.invariant
