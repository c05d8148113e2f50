use Rattle.std.proofs.Common.{◌-◌, ◌≡◌, ◌≤◌, drop, length}
use Rattle.std.specs.List.{AllByRecursion}
use Rattle.pdb_symbol_files.specs.PlainAnswers.{IsPlainCall}
use Rattle.pdb_symbol_files.specs.Frames.{calls_of}
use Rattle.pdb_symbol_files.proofs.told.calls_of.Given as goal

abbrev pub invariant-loop-left : goal.invariant-loop-left
invariant-loop-left l = record {
  within : l.left ≤ length l.frames;
  so_far : (l.calls).items ≡ calls_of (drop (l.left - 1) l.frames);
  plain : AllByRecursion IsPlainCall (l.calls).items;
}

-- each step takes one of the frames left
abbrev pub decreases-loop-left : goal.decreases-loop-left
decreases-loop-left l = l.left
