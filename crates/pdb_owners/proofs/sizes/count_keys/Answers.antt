use Rattle.std.proofs.Common.{◌-◌, length, ◌∙◌, arith}
use Rattle.pdb_addresses.specs.Ranges.{internal_ranges}
use Rattle.pdb_owners.proofs.PlaceLemmas.{counted_same, within_same}
use Rattle.pdb_owners.proofs.RangeLemmas.{so_far_more, so_far_most, so_far_end, so_far_asked}
use Rattle.pdb_owners.proofs.sizes.count_keys.Goals as goal

pub count_range-requires : goal.count_range-requires
count_range-requires g c =
    let keyed = g.R.Runs.keyed c.args.runs.now in
    let most = so_far_most keyed.answer_of c.ranges_laid_end_to_end.ensures.one_by_one c.args.map.now keyed.places c.args.start c.args.end c.loop-range.ranges c.loop-range.keys
    (g.R.Runs.lookups c.args.runs.now) (g.R.Runs.lookups c.loop-range.runs) c.loop-range.invariant.so_far in
    record { room = omega (arith, most) }

pub loop-range-preserved : goal.loop-range-preserved
loop-range-preserved g c =
    let keyed = g.R.Runs.keyed c.args.runs.now in
    let now = g.R.Runs.keyed c.loop-range.runs in
    let lookups = g.R.Runs.lookups in
    let sections = c.args.map.now.internal in
    let r = c.in-Some.range in
    let i = c.loop-range.invariant in
    let e = c.in_ok-count_range.ensures in
    let counted = counted_same keyed now sections r.start.0 (r.end.0 - r.start.0) c.loop-range.keys c.count_range.new.keys i.same e.counted in
    let within = within_same keyed now sections r.start.0 r.start.0 (r.end.0 - r.start.0) (lookups c.loop-range.runs) (lookups c.count_range.new.runs) i.same e.lookups in
    let kept = within_same keyed now sections r.start.0 r.start.0 (r.end.0 - r.start.0) (length c.loop-range.keys) (length c.count_range.new.keys) i.same e.keys in
    record {
      so_far = so_far_more keyed.answer_of sections keyed.places (internal_ranges c.args.map.now.to_internal c.args.start c.args.end) c.next.new.self c.loop-range.ranges r c.loop-range.keys c.count_range.new.keys
          (lookups c.args.runs.now) (lookups c.loop-range.runs) (lookups c.count_range.new.runs) c.in-Some.ensures.steps i.so_far counted within;
      kept = so_far_more keyed.answer_of sections keyed.places (internal_ranges c.args.map.now.to_internal c.args.start c.args.end) c.next.new.self c.loop-range.ranges r c.loop-range.keys c.count_range.new.keys
          0 (length c.loop-range.keys) (length c.count_range.new.keys) c.in-Some.ensures.steps i.kept counted kept;
      answered = e.answered ∙ i.answered;
      same = c.count_range.ensures.same ∙ i.same;
    }

pub returns-clause-counted : goal.returns-clause-counted
returns-clause-counted g c =
    let keyed = g.R.Runs.keyed c.args.runs.now in
    so_far_end keyed.answer_of c.ranges_laid_end_to_end.ensures.one_by_one c.args.map.now keyed.places c.args.start c.args.end c.loop-range.ranges c.loop-range.keys
    (g.R.Runs.lookups c.args.runs.now) (g.R.Runs.lookups c.loop-range.runs) (omega arith) c.in_default.ensures.steps.0 c.loop-range.invariant.so_far

pub returns-clause-lookups : goal.returns-clause-lookups
returns-clause-lookups g c =
    let keyed = g.R.Runs.keyed c.args.runs.now in
    so_far_asked keyed.answer_of c.args.map.now keyed.places c.args.start c.args.end c.loop-range.ranges c.loop-range.keys
    (g.R.Runs.lookups c.args.runs.now) (g.R.Runs.lookups c.loop-range.runs) c.loop-range.invariant.so_far

pub returns-clause-keys : goal.returns-clause-keys
returns-clause-keys g c =
    let keyed = g.R.Runs.keyed c.args.runs.now in
    let most = so_far_asked keyed.answer_of c.args.map.now keyed.places c.args.start c.args.end c.loop-range.ranges c.loop-range.keys 0 (length c.loop-range.keys) c.loop-range.invariant.kept in
    omega (arith, most)
