use Rattle.std.proofs.Common.{◌≡◌, take}
use Rattle.std.specs.List.{flat_map}
use Rattle.pdb_container.specs.Pages.{page}
use Rattle.pdb_container.proofs.msf.list_of.Given as goal

abbrev pub invariant-loop-page : goal.invariant-loop-page
invariant-loop-page l = l.list ≡ record { page_size = l.page_size; places = flat_map (page l.page_size) (take l.page-index l.pages) }
