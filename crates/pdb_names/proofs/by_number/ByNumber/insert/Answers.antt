use Rattle.std.proofs.lemmas.Result.{on_ok_weaker, on_err_weaker}
use Rattle.pdb_names.proofs.PlaceSteps.{module_keeps, module_same}
use Rattle.pdb_names.proofs.by_number.ByNumber.insert.Goals as goal

pub returns-clause-kept : goal.returns-clause-kept
returns-clause-kept g c =
    let made = c.in_ok-make_lists.ensures in
    on_ok_weaker c.put_at.result
    (λ put. module_keeps c.args.self.now c.make_lists.new.self c.args.module_index c.from.result
    c.args.number c.args.value c.index_mut.result.now c.put_at.new.places made.same c.from.ensures
    made.reached
    c.index_mut.ensures.value put) c.put_at.ensures.kept

pub returns-clause-failed : goal.returns-clause-failed
returns-clause-failed g c =
    let made = c.in_ok-make_lists.ensures in
    on_err_weaker c.put_at.result
    (λ same. module_same c.args.self.now c.make_lists.new.self c.args.module_index c.from.result
    c.index_mut.result.now c.put_at.new.places made.same c.from.ensures c.index_mut.ensures.value
    same) c.put_at.ensures.failed
