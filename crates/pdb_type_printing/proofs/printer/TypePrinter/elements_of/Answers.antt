use Rattle.std.proofs.Common.{◌≡◌, true, false, sym, ◌∙◌, Ok, arith}
use Rattle.std.proofs.lemmas.Grind.{common_steps}
use Rattle.std.proofs.lemmas.Result.{err_from_is_err_and}
use Rattle.pdb_records.specs.Shapes.{shape}
use Rattle.pdb_resolving.specs.Cause.{Ends}
use Rattle.pdb_type_printing.specs.Paths.{is_on}
use Rattle.std.specs.Prelude.{Some, None}
use Rattle.pdb_type_printing.specs.Arrays.{array_step}
use Rattle.pdb_type_printing.specs.Printing.{env_of}
use Rattle.pdb_type_printing.proofs.Chains.{chain_circular, chain_goes_on, chain_stops, chain_ends}
use Rattle.pdb_type_printing.proofs.Chains.{chain_fails}
use Rattle.pdb_type_printing.proofs.printer.TypePrinter.elements_of.Goals as goal

pub returns-then-contains-clause-value : goal.returns-then-contains-clause-value
returns-then-contains-clause-value g c =
    let on : is_on c.loop.passed.items c.loop.index.0 ≡ true = cc in
    chain_circular (env_of g.P.ModuleProvider.provided c.args.self.now c.args.asker.module_index)
    c.loop.counter c.loop.passed.items c.loop.dimensions.items c.loop.index.0 _ c.loop-test.true
    on c.loop.invariant.value

pub returns-in_err-found-clause-value : goal.returns-in_err-found-clause-value
returns-in_err-found-clause-value g c =
    let p = err_from_is_err_and c.from_residual-in_err-found.result
    c.from_residual-in_err-found.ensures.1 in
    let on : is_on c.loop.passed.items c.loop.index.0 ≡ false = cc in
    let h : Ends c.in_err-found.field-0.0
    ((env_of g.P.ModuleProvider.provided c.args.self.now c.args.asker.module_index).read
    c.loop.index.0) = rw (sym c.loop.invariant.same) c.in_err-found.ensures.value in
    rw (p.1, p.2)
    (chain_fails (env_of g.P.ModuleProvider.provided c.args.self.now c.args.asker.module_index)
    c.loop.counter c.loop.passed.items c.loop.dimensions.items c.loop.index.0
    c.in_err-found.field-0.0 _ c.loop-test.true on h c.loop.invariant.value)

pub returns-clause-value : goal.returns-clause-value
returns-clause-value g c =
    chain_ends (env_of g.P.ModuleProvider.provided c.args.self.now c.args.asker.module_index)
    c.loop.counter c.loop.passed.items c.loop.dimensions.items c.loop.index.0 _ c.loop-test.false
    c.loop.invariant.value

pub loop-preserved : goal.loop-preserved
loop-preserved g c =
    let on : is_on c.loop.passed.items c.loop.index.0 ≡ false = cc in
    let h : (env_of g.P.ModuleProvider.provided c.args.self.now c.args.asker.module_index).read
    c.loop.index.0 ≡ Ok (shape c.in_ok-found.found) =
    rw (sym c.loop.invariant.same) c.in_ok-found.ensures.value in
    let a : array_step (shape c.in_ok-found.found)
    ≡ Some (c.in-Some.dimension, c.in-Some.element) = cc in
    record {
      same = c.read.ensures.same ∙ c.loop.invariant.same;
      many = grind (arith, common_steps);
      value = rw (c.in_ok-push-in-Some.ensures.items, c.in_ok-push-2.ensures.items)
          (chain_goes_on
          (env_of g.P.ModuleProvider.provided c.args.self.now c.args.asker.module_index)
          c.loop.counter c.loop.passed.items c.loop.dimensions.items c.loop.index.0
          (shape c.in_ok-found.found) (c.in-Some.dimension, c.in-Some.element) _ c.loop-test.true on
          h a c.loop.invariant.value);
    }

pub returns-in-None-clause-value : goal.returns-in-None-clause-value
returns-in-None-clause-value g c =
    let on : is_on c.loop.passed.items c.loop.index.0 ≡ false = cc in
    let h : (env_of g.P.ModuleProvider.provided c.args.self.now c.args.asker.module_index).read
    c.loop.index.0 ≡ Ok (shape c.in_ok-found.found) =
    rw (sym c.loop.invariant.same) c.in_ok-found.ensures.value in
    let a : array_step (shape c.in_ok-found.found) ≡ None = cc in
    chain_stops (env_of g.P.ModuleProvider.provided c.args.self.now c.args.asker.module_index)
    c.loop.counter c.loop.passed.items c.loop.dimensions.items c.loop.index.0
    (shape c.in_ok-found.found) _ c.loop-test.true on h a c.loop.invariant.value
