use Rattle.std.proofs.Common.{◌≡◌, ◌*◌, length}
use Rattle.pdb_reader_tests.proofs.container.calls.six_pages.Given as goal

-- the pages so far
abbrev pub invariant-loop-number : goal.invariant-loop-number
invariant-loop-number l = (l.list.page_size ≡ 4096) × (length l.list.places ≡ 4096 * l.number-index)
