use Rattle.std.proofs.Common.{rules, arith, ◌≡◌, ℕ, ◌+◌, ◌-◌, ap, ◌∙◌, inl, inr}
use Rattle.std.proofs.Common.{false, Bool, ◌⊎◌, ⊎_elim}
use Rattle.std.specs.Prelude.{Option, Result, Ok, Err}
use Rattle.pdb_image.specs.Codes.{Table, behind, chain, table_at, table_behind}
use Rattle.pdb_image.specs.declared.fault.UnwindFault.{UnwindFault}
use Rattle.pdb_image.specs.declared.fault.UnwindFault.TheVariants as faults
use Rattle.pdb_image.proofs.Chains.{chain_ends, chain_fails, chain_on, chain_too_long}
use Rattle.pdb_image.proofs.table.read_chain.Goals as goal

pub returns-in_err-parent-clause-codes : goal.returns-in_err-parent-clause-codes
returns-in_err-parent-clause-codes c = let x = c.in_err-parent.field-0.0 in
    let read : (x ≡ faults.OutOfMemory) ⊎ (chain c.args.image.now 33 false c.args.info ≡ Err x) = ⊎_elim
    (λ (e : x ≡ faults.OutOfMemory). inl e)
    (λ (e : table_behind c.loop.codes.items (table_at c.args.image.now c.loop.of_parent c.loop.info) ≡ Err x). inr
    (chain_fails c.args.image.now c.loop.counter c.loop.of_parent c.loop.info c.loop.codes.items x
    (chain c.args.image.now 33 false c.args.info) c.loop-test.true e c.loop.invariant.so_far))
    c.in_err-parent.ensures.table in
    search rules

pub returns-in_default-clause-codes : goal.returns-in_default-clause-codes
returns-in_default-clause-codes c =
    let new = c.push_table.new.codes.items in
    let made : Option ℕ → Result Table UnwindFault = λ (p : Option ℕ). Ok (record { codes = new; parent = p }) in
    chain_ends c.args.image.now c.loop.counter c.loop.of_parent c.loop.info c.loop.codes.items new
    (chain c.args.image.now 33 false c.args.info) c.loop-test.true
    (c.in_ok-parent.ensures.table
    ∙ ap made c.in_default.is)
    c.loop.invariant.so_far

pub loop-preserved : goal.loop-preserved
loop-preserved c =
    let new = c.push_table.new.codes.items in
    let made : Option ℕ → Result Table UnwindFault = λ (p : Option ℕ). Ok (record { codes = new; parent = p }) in
    let test = c.loop-test.true in
    let before = c.loop.invariant.count in
    let more = c.in_ok-parent.ensures.count in
    record {
      so_far = ap (λ (p : Bool). behind new (chain c.args.image.now (33 - (c.loop.counter + 1)) p c.in-Some.parent)) c.leads_to_parent-of_parent.ensures
          ∙ chain_on c.args.image.now c.loop.counter c.loop.of_parent c.loop.info c.in-Some.parent
          c.loop.codes.items new (chain c.args.image.now 33 false c.args.info) test
          (c.in_ok-parent.ensures.table
          ∙ ap made c.in-Some.is)
          c.loop.invariant.so_far;
      count = omega arith;
    }

pub returns-clause-codes : goal.returns-clause-codes
returns-clause-codes c = inr (chain_too_long c.args.image.now c.loop.counter c.loop.of_parent c.loop.info c.loop.codes.items
    (chain c.args.image.now 33 false c.args.info) c.loop-test.false c.loop.invariant.so_far)
