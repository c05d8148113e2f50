use Rattle.std.proofs.Common.{◌≡◌, drop}
use Rattle.pdb_container.specs.Places.{places_of, bytes_at}
use Rattle.pdb_container.proofs.Bytes.{with_front}
use Rattle.pdb_container.proofs.source.copy_slices.Given as goal

abbrev pub invariant-loop-slice : goal.invariant-loop-slice
invariant-loop-slice l = with_front l.bytes.items (bytes_at l.file (places_of (drop l.slice-index l.slices))) ≡ bytes_at l.file (places_of l.slices)
