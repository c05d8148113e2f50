use Rattle.std.proofs.Common.{arith}
use Rattle.pdb_owners.proofs.RangeLemmas.{each_counted, most_counted, none_counted}
use Rattle.pdb_owners.proofs.ResolveLemmas.{resolved_same}
use Rattle.pdb_owners.proofs.sizes.count_runs.Goals as goal

pub resolve-requires : goal.resolve-requires
resolve-requires g c =
    let most = c.in_ok-keys.ensures.counted.room in
    record { room = omega (arith, most) }

pub overflow_sub-none : goal.overflow_sub-none
overflow_sub-none g c =
    let keyed = g.R.Runs.keyed c.args.runs.now in
    let resolved = resolved_same keyed (g.R.Runs.keyed c.count_keys.new.runs) c.in_ok-keys.keys c.in_ok-counts.counts c.count_keys.ensures.same c.in_ok-counts.ensures.resolved in
    let most = most_counted g.R.Found.Ord.cmp g.met.R.Found.Ord.total g.met.R.Found.Countable.exact keyed.answer_of c.args.map.now keyed.places c.args.start c.args.end c.in_ok-keys.keys c.in_ok-counts.counts
    c.in_ok-keys.ensures.counted resolved in
    let total = c.total.ensures.total in
    omega (arith, most, total)

pub returns-clause-each : goal.returns-clause-each
returns-clause-each g c =
    let keyed = g.R.Runs.keyed c.args.runs.now in
    let resolved = resolved_same keyed (g.R.Runs.keyed c.count_keys.new.runs) c.in_ok-keys.keys c.in_ok-counts.counts c.count_keys.ensures.same c.in_ok-counts.ensures.resolved in
    each_counted g.R.Found.Ord.cmp g.met.R.Found.Ord.total g.met.R.Found.Countable.exact keyed.answer_of c.args.map.now keyed.places c.args.start c.args.end c.in_ok-keys.keys c.in_ok-counts.counts
    c.in_ok-keys.ensures.counted resolved c.total.ensures.table

pub returns-clause-none : goal.returns-clause-none
returns-clause-none g c =
    let keyed = g.R.Runs.keyed c.args.runs.now in
    let resolved = resolved_same keyed (g.R.Runs.keyed c.count_keys.new.runs) c.in_ok-keys.keys c.in_ok-counts.counts c.count_keys.ensures.same c.in_ok-counts.ensures.resolved in
    let none = none_counted g.R.Found.Ord.cmp g.met.R.Found.Ord.total g.met.R.Found.Countable.exact keyed.answer_of c.args.map.now keyed.places c.args.start c.args.end c.in_ok-keys.keys c.in_ok-counts.counts
    c.in_ok-keys.ensures.counted resolved in
    let total = c.total.ensures.total in
    omega (arith, none, total)

pub returns-clause-all : goal.returns-clause-all
returns-clause-all g c =
    let keyed = g.R.Runs.keyed c.args.runs.now in
    let resolved = resolved_same keyed (g.R.Runs.keyed c.count_keys.new.runs) c.in_ok-keys.keys c.in_ok-counts.counts c.count_keys.ensures.same c.in_ok-counts.ensures.resolved in
    let most = most_counted g.R.Found.Ord.cmp g.met.R.Found.Ord.total g.met.R.Found.Countable.exact keyed.answer_of c.args.map.now keyed.places c.args.start c.args.end c.in_ok-keys.keys c.in_ok-counts.counts
    c.in_ok-keys.ensures.counted resolved in
    let total = c.total.ensures.total in
    omega (arith, most, total)

-- the keys are no more than the pieces, and each is asked for once
pub returns-clause-answered : goal.returns-clause-answered
returns-clause-answered g c =
    let most = c.in_ok-keys.ensures.keys in
    let asked = c.in_ok-counts.ensures.answered in
    let before = c.in_ok-keys.ensures.answered in
    omega (arith, most, asked, before)
