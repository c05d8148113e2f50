use Rattle.std.proofs.Common.{arith}
use Rattle.pdb_container.proofs.DistinctPages.{known_more}
use Rattle.pdb_container.proofs.distinct_pages.place_among.Goals as goal

pub returns-in-Some-clause-there : goal.returns-in-Some-clause-there
returns-in-Some-clause-there c = c.requires.known.each c.args.page c.in-Some.place (cc (c.get.ensures.value, c.copied.ensures, c.in-Some.is))

pub returns-clause-known : goal.returns-clause-known
returns-clause-known c =
    rw c.in_ok-push.ensures.items (known_more c.args.pages.now.items c.args.known.now c.insert.new.self c.args.page c.len-place.result c.in_ok-insert.ensures.updates (omega arith) c.requires.known)
