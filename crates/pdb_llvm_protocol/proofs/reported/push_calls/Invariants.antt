use Rattle.std.proofs.Common.{◌≡◌, ◌++◌, take}
use Rattle.pdb_llvm_protocol.specs.Reported.{calls_at}
use Rattle.pdb_llvm_protocol.proofs.reported.push_calls.Given as goal

-- the calls so far stand after what was reported
abbrev pub invariant-loop-call : goal.invariant-loop-call
invariant-loop-call l = l.frames.items ≡ l.fn.frames.items
    ++ calls_at l.base_names l.start_rva l.address (take l.call-index l.calls)
