use Rattle.std.proofs.Common.{◌≡◌, ◌∙◌, ◌+◌, take, drop, refl, arith}
use Rattle.pdb_container.proofs.Starts.{place_read}
use Rattle.pdb_container.proofs.Outside.{refused}
use Rattle.pdb_container.proofs.directory.Directory.place_of.Goals as goal

pub returns-in-Ok-pages_of-clause-exact : goal.returns-in-Ok-pages_of-clause-exact
returns-in-Ok-pages_of-clause-exact c =
    let from = 1 + c.at-count.result + c.pages_before.result in
    let own : c.in_ok-own.own.items ≡ take c.pages_for-pages.result (drop from c.args.self.now.numbers) = cc (c.in_ok-own.ensures) in
    let found = place_read c.args.page_size c.args.used c.args.number c.in-Ok.size from c.pages_for-pages.result c.args.self.now.numbers c.in_ok-own.own.items (omega (arith, c.in-Ok.ensures.whole)) c.in-Ok.ensures.counted (omega (arith, c.in-Ok.ensures.whole)) c.in-Ok.ensures.size c.in-Ok.ensures.there c.pages_for-pages.ensures (omega arith) own in
    found ∙ rw (rw c.as_slice.ensures.value at c.in-Ok-pages_of.ensures.exact) refl

pub returns-clause-exact : goal.returns-clause-exact
returns-clause-exact c =
    let from = 1 + c.at-count.result + c.pages_before.result in
    let own : c.in_ok-own.own.items ≡ take c.pages_for-pages.result (drop from c.args.self.now.numbers) = cc (c.in_ok-own.ensures) in
    let found = place_read c.args.page_size c.args.used c.args.number c.in-Ok.size from c.pages_for-pages.result c.args.self.now.numbers c.in_ok-own.own.items (omega (arith, c.in-Ok.ensures.whole)) c.in-Ok.ensures.counted (omega (arith, c.in-Ok.ensures.whole)) c.in-Ok.ensures.size c.in-Ok.ensures.there c.pages_for-pages.ensures (omega arith) own in
    rw found (refused _ _ _ _ (rw c.as_slice.ensures.value at c.in-Err-pages_of.ensures.exact))
