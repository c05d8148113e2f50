use Rattle.std.proofs.Common.{◌+◌, ◌-◌, ◌∙◌, length, length-drop, sym, get_or, drop, arith, refl, Option, Ok, Err}
use Rattle.pdb_owners.specs.FunctionOrder.{Function}
use Rattle.pdb_addr2line.specs.Context.{scope_in}
use Rattle.pdb_addr2line.specs.FunctionList.{functions_at}
use Rattle.pdb_addr2line.proofs.FunctionSteps.{function_same, functions_passed, functions_first, counted_more, counted_within, counted_none}
use Rattle.pdb_addr2line.proofs.functions.next_function.Goals as goal

pub loop-next-preserved : goal.loop-next-preserved
loop-next-preserved g c =
    let answered = sym (function_same (g.P.ModuleProvider.provided) c.loop-next.context c.args.context.now (get_or c.args.starts.now c.loop-next.next 0) c.loop-next.invariant.same) ∙ c.in-Ok-None.ensures.function in
    record {
      same = c.find_function.ensures.same ∙ c.loop-next.invariant.same;
      left = functions_passed c.args.context.now.parts (scope_in g.P.ModuleProvider.provided c.args.context.now) c.args.starts.now c.loop-next.next c.in-Ok-None.field-0
          (functions_at c.args.context.now.parts (scope_in g.P.ModuleProvider.provided c.args.context.now) (drop c.args.next.now c.args.starts.now))
          c.loop-next-test.true answered c.in-Ok-None.field-0-is c.loop-next.invariant.left;
      behind = omega (arith, c.loop-next.invariant.behind);
      within = omega (arith, c.loop-next.invariant.within, c.loop-next-test.true);
      lookups = counted_more _ (Ok c.in-Ok-None.field-0) (c.loop-next.next - c.args.next.now) _ _ _ (c.loop-next.next + 1 - c.args.next.now) c.in-Ok-None.ensures.lookups c.loop-next.invariant.lookups (omega (arith, c.loop-next.invariant.behind));
    }

pub returns-in-Ok-Some-clause-gives : goal.returns-in-Ok-Some-clause-gives
returns-in-Ok-Some-clause-gives g c =
    let answered = sym (function_same (g.P.ModuleProvider.provided) c.loop-next.context c.args.context.now (get_or c.args.starts.now c.loop-next.next 0) c.loop-next.invariant.same) ∙ c.in-Ok-Some.ensures.function in
    functions_first c.args.context.now.parts (scope_in g.P.ModuleProvider.provided c.args.context.now) c.args.starts.now c.loop-next.next c.in-Ok-Some.field-0 c.in-Ok-Some.function
    (functions_at c.args.context.now.parts (scope_in g.P.ModuleProvider.provided c.args.context.now) (drop c.args.next.now c.args.starts.now))
    c.loop-next-test.true answered c.in-Ok-Some.field-0-is c.loop-next.invariant.left

pub loop-next-init : goal.loop-next-init
loop-next-init g c = record {
  same = refl;
  left = refl;
  behind = omega arith;
  within = omega arith;
  lookups = counted_none c.args.context.now.lookups (c.args.next.now - c.args.next.now);
}

pub returns-in-Ok-Some-clause-lookups : goal.returns-in-Ok-Some-clause-lookups
returns-in-Ok-Some-clause-lookups g c =
    counted_more _ (Ok c.in-Ok-Some.field-0) (c.loop-next.next - c.args.next.now) c.args.context.now.lookups _ _ (length (drop c.args.next.now c.args.starts.now) - length (drop (c.loop-next.next + 1) c.args.starts.now))
    c.in-Ok-Some.ensures.lookups c.loop-next.invariant.lookups (simp length-drop (omega (arith, c.loop-next.invariant.behind, c.loop-next-test.true)))

pub returns-in-Err-clause-lookups : goal.returns-in-Err-clause-lookups
returns-in-Err-clause-lookups g c =
    counted_more {A = Option Function} _ (Err c.in-Err.error) (c.loop-next.next - c.args.next.now) c.args.context.now.lookups _ _ _
    c.in-Err.ensures.lookups c.loop-next.invariant.lookups (simp length-drop (omega (arith, c.loop-next.invariant.behind, c.loop-next-test.true)))

pub returns-clause-lookups : goal.returns-clause-lookups
returns-clause-lookups g c =
    counted_within (c.loop-next.next - c.args.next.now) c.args.context.now.lookups _ (length (drop c.args.next.now c.args.starts.now) - length (drop c.loop-next.next c.args.starts.now))
    c.loop-next.invariant.lookups (simp length-drop (omega (arith, c.loop-next.invariant.behind, c.loop-next.invariant.within, c.loop-next-test.false)))
