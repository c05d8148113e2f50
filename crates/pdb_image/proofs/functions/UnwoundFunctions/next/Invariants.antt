use Rattle.std.proofs.Common.{◌≡◌, ◌+◌, ◌*◌, ◌<◌, ◌^◌}
use Rattle.pdb_image.specs.Entries.{functions_of, entries_from}
use Rattle.pdb_image.proofs.functions.UnwoundFunctions.next.Given as goal

-- no entry that was passed over is taken
abbrev pub invariant-loop-left : goal.invariant-loop-left
invariant-loop-left l = record {
  same : functions_of l.image (entries_from l.image l.left l.address) l.last ≡ l.fn.self;
  fits : l.address + 12 * l.left < 2 ^ 40;
  kept : functions_of l.self-inside.image.now
      (entries_from l.self-inside.image.now l.self-inside.left l.self-inside.address)
      l.self-inside.last ≡ l.fn.self;
  kept_fits : l.self-inside.address + 12 * l.self-inside.left < 2 ^ 40;
}

abbrev pub decreases-loop-left : goal.decreases-loop-left
decreases-loop-left l = l.left
