use Rattle.std.proofs.Common.{◌+◌, length, refl, ◌∙◌, arith}
use Rattle.pdb_owners.specs.Counts.{answer_at}
use Rattle.pdb_owners.proofs.CountLemmas.{within_none}
use Rattle.pdb_owners.proofs.PlaceLemmas.{range_start, range_counted, range_within, bound_begins, first_begins, counted_same, within_same}
use Rattle.pdb_owners.proofs.sizes.count_range.Goals as goal

pub loop-address-init : goal.loop-address-init
loop-address-init g c = record {
  low = omega arith;
  high = omega arith;
  counted = range_start _ _ _ _;
  within = within_none _ _ _ _;
  kept = within_none _ _ _ _;
  answered = refl;
  next = λ _. first_begins c.args.map.now.internal (g.R.Runs.keyed c.args.runs.now).places c.args.range.start.0;
  same = refl;
}

pub loop-address-preserved : goal.loop-address-preserved
loop-address-preserved g c =
    let keyed = g.R.Runs.keyed c.args.runs.now in
    let lookups = g.R.Runs.lookups in
    let sections = c.args.map.now.internal in
    let start = c.args.range.start.0 in
    let x = c.loop-address.address in
    let n = c.in_ok-address.field-0 in
    let i = c.loop-address.invariant in
    let e = c.in_ok-address.ensures in
    let most = e.within in
    let now = g.R.Runs.keyed c.loop-address.runs in
    let counted = counted_same keyed now sections x n c.loop-address.keys c.count_section.new.keys i.same e.counted in
    let within = within_same keyed now sections x x n (lookups c.loop-address.runs) (lookups c.count_section.new.runs) i.same e.lookups in
    let kept = within_same keyed now sections x x n (length c.loop-address.keys) (length c.count_section.new.keys) i.same e.keys in
    record {
      low = omega arith;
      high = omega (arith, most);
      counted = range_counted keyed.answer_of (answer_at sections keyed.places) start x n c.args.keys.now c.loop-address.keys c.count_section.new.keys i.low i.counted counted;
      within = range_within sections keyed.places start x n (lookups c.args.runs.now) (lookups c.loop-address.runs) (lookups c.count_section.new.runs) i.low (i.next (omega arith)) i.within within;
      kept = range_within sections keyed.places start x n (length c.args.keys.now) (length c.loop-address.keys) (length c.count_section.new.keys) i.low (i.next (omega arith)) i.kept kept;
      answered = e.answered ∙ i.answered;
      next = λ lt. bound_begins sections keyed.places start (x + n) (e.ends (omega arith));
      same = c.count_section.ensures.same ∙ i.same;
    }
