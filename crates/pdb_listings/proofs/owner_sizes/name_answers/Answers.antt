use Rattle.std.proofs.Common.{◌∙◌, true}
use Rattle.pdb_owners.specs.Answers.{picked}
use Rattle.pdb_owners.specs.Table.{sum_found, sum_of, sum_where}
use Rattle.pdb_listings.specs.NamedSizes.{named}
use Rattle.pdb_listings.proofs.KeySums.{entry_added, entry_room}
use Rattle.pdb_listings.proofs.owner_sizes.name_answers.Goals as goal

pub loop-key-preserved : goal.loop-key-preserved
loop-key-preserved g c =
    let kd = g.R.Runs.keyed c.args.runs.now in
    let now = g.R.Runs.keyed c.loop-key.runs in
    let name = g.N.Naming.name c.args.naming.now in
    let i = c.loop-key.invariant in
    record {
      each = λ said test. entry_added kd now (named name test) c.in-Some.key.now c.in-Some.bytes.now c.next.new.self c.loop-key.key-iterator
          (sum_where test c.loop-key.table) (sum_where test c.add_named.new.table) (sum_found kd.answer_of (named name test) c.args.keys.now)
          c.in-Some.ensures.steps i.same (c.in_ok-add_named.ensures.each said test) (i.each said test);
      total = entry_added kd now (λ _. true) c.in-Some.key.now c.in-Some.bytes.now c.next.new.self c.loop-key.key-iterator
          (sum_of c.loop-key.table) (sum_of c.add_named.new.table) (sum_found kd.answer_of (λ _. true) c.args.keys.now)
          c.in-Some.ensures.steps i.same c.in_ok-add_named.ensures.total i.total;
      room = entry_room (picked (λ _. true) (now.answer_of c.in-Some.key.now)) c.in-Some.key.now c.in-Some.bytes.now c.next.new.self c.loop-key.key-iterator
          (sum_of c.loop-key.table) (sum_of c.add_named.new.table) (sum_of c.args.keys.now) c.in-Some.ensures.steps c.in_ok-add_named.ensures.total i.room;
      same = c.add_named.ensures.same ∙ i.same;
    }
