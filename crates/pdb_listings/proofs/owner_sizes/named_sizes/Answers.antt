use Rattle.pdb_listings.proofs.KeySums.{all_counted, named_counted}
use Rattle.pdb_listings.proofs.owner_sizes.named_sizes.Goals as goal

pub returns-clause-each : goal.returns-clause-each
returns-clause-each g c said =
    let keyed = g.R.Runs.keyed in
    named_counted (keyed c.args.runs.now) (keyed c.count_keys.new.runs) (g.N.Naming.name c.args.naming.now) c.args.map.now c.args.start c.args.end
    c.in_ok-keys.keys c.name_answers.result c.count_keys.ensures.same c.in_ok-keys.ensures.counted (c.name_answers.ensures.each said)

pub returns-clause-total : goal.returns-clause-total
returns-clause-total g c =
    let keyed = g.R.Runs.keyed in
    all_counted (keyed c.args.runs.now) (keyed c.count_keys.new.runs) c.args.map.now c.args.start c.args.end
    c.in_ok-keys.keys c.name_answers.result c.count_keys.ensures.same c.in_ok-keys.ensures.counted c.name_answers.ensures.total
