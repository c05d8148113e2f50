use Rattle.std.proofs.Common.{◌≡◌, ◌+◌, ◌≤◌, length, take}
use Rattle.std.specs.List.{suffix_len}
use Rattle.pdb_llvm_protocol.specs.Words.{is_blank}
use Rattle.pdb_llvm_protocol.proofs.words.trim.Given as goal

abbrev pub invariant-loop-end : goal.invariant-loop-end
invariant-loop-end l = record {
  within : l.end ≤ length l.rest;
  blanks : suffix_len is_blank (take l.end l.rest) + length l.rest ≡ l.end + suffix_len is_blank l.rest;
}

abbrev pub decreases-loop-end : goal.decreases-loop-end
decreases-loop-end l = l.end
