use Rattle.std.proofs.Common.{◌≡◌, ◌-◌, ◌^◌, length, take, drop, min}
use Rattle.std.specs.Result.{is_ok}
use Rattle.pdb_container.specs.Places.{places_of, bytes_at}
use Rattle.pdb_container.proofs.source.size_within.Given as goal

abbrev pub invariant-loop-slice : goal.invariant-loop-slice
invariant-loop-slice l =
    (is_ok (bytes_at l.file (places_of (drop l.slice-index l.slices))) ≡ is_ok (bytes_at l.file (places_of l.slices))) × (l.size ≡ min (length (places_of (take l.slice-index l.slices))) (2 ^ 64 - 1))
