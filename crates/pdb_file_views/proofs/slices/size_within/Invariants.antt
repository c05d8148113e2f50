use Rattle.std.proofs.Common.{◌≡◌, ◌-◌, ◌^◌, length, take, min}
use Rattle.pdb_container.specs.Places.{places_of}
use Rattle.pdb_file_views.proofs.SliceSteps.{SoFar}
use Rattle.pdb_file_views.proofs.slices.size_within.Given as goal

abbrev pub invariant-loop-slice : goal.invariant-loop-slice
invariant-loop-slice l = record {
  within : SoFar l.file_size l.slices l.slice-index;
  size : l.size ≡ min (length (places_of (take l.slice-index l.slices))) (2 ^ 64 - 1);
}
