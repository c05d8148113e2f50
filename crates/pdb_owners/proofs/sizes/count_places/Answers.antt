use Rattle.std.proofs.Common.{◌-◌, refl, ◌∙◌, arith}
use Rattle.pdb_owners.specs.Databases.{place_of}
use Rattle.pdb_owners.proofs.CountLemmas.{counted_start, within_start, added_as}
use Rattle.pdb_owners.proofs.PlaceLemmas.{places_counted, places_within, keys_within, place_begins, places_same}
use Rattle.pdb_owners.proofs.sizes.count_places.Goals as goal

pub loop-done-init : goal.loop-done-init
loop-done-init g c = record {
  bound = omega arith;
  counted = counted_start _ _ 0 _;
  within = within_start _ 0 _;
  kept = within_start _ 0 _;
  answered = refl;
  next = λ _. refl;
  same = refl;
}

pub loop-done-preserved : goal.loop-done-preserved
loop-done-preserved g c =
    let keyed = g.R.Runs.keyed c.args.runs.now in
    let now = g.R.Runs.keyed c.loop-done.runs in
    let lookups = g.R.Runs.lookups in
    let i = c.loop-done.invariant in
    let p = place_of c.args.place in
    let run = c.in_ok-key.ensures.count in
    record {
      bound = let h = run.within in omega arith;
      counted = places_counted keyed now p c.loop-done.done (c.args.count - c.loop-done.done) c.in_ok-key.length c.in_ok-key.key
          c.args.keys.now c.loop-done.keys c.add_answer.new.self i.same run c.in_ok-key.ensures.answer (added_as c.loop-done.keys c.in_ok-key.key c.from.result c.in_ok-key.length c.add_answer.new.self (omega arith) c.in_ok-add_answer.ensures) i.counted;
      within = places_within keyed.places p c.loop-done.done c.in_ok-key.length (lookups c.args.runs.now) (lookups c.loop-done.runs) (lookups c.run_at.new.self)
          i.within (i.next (omega arith)) run.some c.in_ok-key.ensures.lookups;
      kept = keys_within keyed.places p c.loop-done.done c.in_ok-key.length c.in_ok-key.key c.from.result c.args.keys.now c.loop-done.keys c.add_answer.new.self i.kept (i.next (omega arith)) run.some c.in_ok-add_answer.ensures;
      answered = c.in_ok-key.ensures.answered ∙ i.answered;
      next = λ lt. place_begins keyed.places now.places p c.loop-done.done c.args.count c.in_ok-key.length (places_same keyed now i.same) run lt;
      same = c.run_at.ensures.same ∙ i.same;
    }
