use Rattle.std.proofs.Common.{◌≡◌, ◌-◌, drop, vec_len}
use Rattle.pdb_container.specs.Container.{pages_in}
use Rattle.pdb_container.proofs.Bytes.{with_front}
use Rattle.pdb_container.proofs.directory.pages_of.Given as goal

abbrev pub invariant-loop-i : goal.invariant-loop-i
invariant-loop-i l = (with_front l.pages.items (pages_in l.used (l.count - l.i) (drop l.i l.numbers)) ≡ pages_in l.used l.count l.numbers) × (vec_len l.pages ≡ l.i)
