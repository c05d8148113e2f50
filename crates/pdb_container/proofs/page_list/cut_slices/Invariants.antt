use Rattle.std.proofs.Common.{◌≡◌, ◌+◌, length, take}
use Rattle.pdb_container.specs.Places.{places_of}
use Rattle.pdb_container.proofs.page_list.cut_slices.Given as goal

abbrev pub invariant-loop-i : goal.invariant-loop-i
invariant-loop-i l = (l.slices.items ≡ l.initial.slices.items) × (length (places_of (take l.i l.initial.slices.items)) + l.left ≡ l.bytes)
