use Rattle.std.proofs.Common.{◌≡◌, length, refl, arith}
use Rattle.pdb_container.proofs.DistinctPages.{stand_in}
use Rattle.pdb_container.proofs.distinct_pages.pages_to_read.Goals as goal

pub returns-clause-pages : goal.returns-clause-pages
returns-clause-pages c =
    let count : c.len-distinct.result ≡ length c.in_ok-pages.pages.items = omega arith in
    rw (c.in_ok-push-2.ensures.items, c.in_ok-push.ensures.items, count) (stand_in c.args.page_size c.args.size c.args.list.now c.in-Some.others.now c.in_ok-pages.pages.items c.in_ok-pages.places.items c.in-Some.last.now _
    c.in-Some.ensures.cases.0 c.requires.page_size.0 c.requires.enough c.requires.full c.in_ok-pages.ensures.distinct refl)
