use Rattle.std.proofs.Common.{ap}
use Rattle.std.specs.BTreeSet.{contains}
use Rattle.pdb_module_data.specs.Procedures.{place_cmp}
use Rattle.pdb_module_data.proofs.ProcedureSteps.{starts_more}
use Rattle.pdb_module_data.proofs.procedures.push_new.Goals as goal

pub returns-in_ok-push-clause-starts : goal.returns-in_ok-push-clause-starts
returns-in_ok-push-clause-starts c =
    rw c.in_ok-push.ensures.items (λ p. starts_more c.args.procedures.now.items c.args.procedure p (contains place_cmp c.args.starts.now (p.section, p.offset)) (contains place_cmp c.insert.new.self (p.section, p.offset))
    (rw (ap (λ q. q.offset) c.procedure.view_is) at (c.in_ok-insert.ensures.updates.0 (p.section, p.offset))) (c.requires p))
