use Rattle.std.proofs.Common.{take}
use Rattle.pdb_container.specs.PagedNumbers.{AreDistinct, AreKnown}
use Rattle.pdb_container.proofs.distinct_pages.distinct_pages.Given as goal

abbrev pub invariant-loop-page : goal.invariant-loop-page
invariant-loop-page l = AreDistinct (take l.page-index l.list) l.pages.items l.places.items × AreKnown l.pages.items l.known
