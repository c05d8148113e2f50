use Rattle.std.proofs.Common.{◌≡◌, ◌+◌, ◌≤◌, ◌==◌, length, not, take}
use Rattle.std.specs.List.{suffix_len}
use Rattle.pdb_llvm_protocol.proofs.module_names.after_colon.Given as goal

abbrev pub invariant-loop-end : goal.invariant-loop-end
invariant-loop-end l = record {
  within : l.end ≤ length l.name;
  others : suffix_len (λ b. not (b == 58)) (take l.end l.name) + length l.name ≡ l.end + suffix_len (λ b. not (b == 58)) l.name;
}

abbrev pub decreases-loop-end : goal.decreases-loop-end
decreases-loop-end l = l.end
