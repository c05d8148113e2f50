use Rattle.std.proofs.Common.{◌≡◌, ◌∙◌, ℕ, List, Ok, sym, ap, subst}
use Rattle.std.proofs.lemmas.Result.{err_from_is_err_and}
use Rattle.pdb_addresses.specs.Addresses.{is_ordered}
use Rattle.pdb_loading.specs.Loading.{Tables}
use Rattle.pdb_symbols_modules.specs.DatabaseCalls.{debug_information}
use Rattle.pdb_symbols_modules.specs.Shared.{shared}
use Rattle.pdb_symbols_modules.specs.Streams.{streams}
use Rattle.pdb_loading.proofs.LoadingSteps.{dbi_fails, tables_fail, order_fails}
use Rattle.pdb_loading.proofs.loading.read_in_order.Goals as goal

-- a step that fails is the file's fault
pub returns-in_err-debug_information-clause-err : goal.returns-in_err-debug_information-clause-err
returns-in_err-debug_information-clause-err c = λ order.
    let p = err_from_is_err_and c.from_residual.result c.from_residual.ensures.1 in
    rw (p.1, p.2) (dbi_fails order (streams c.args.pdb.now) c.in_err-debug_information.field-0.0 c.requires c.in_err-debug_information.ensures.exact)

pub returns-in_err-tables-clause-err : goal.returns-in_err-tables-clause-err
returns-in_err-tables-clause-err c = λ order.
    let p = err_from_is_err_and c.from_residual-in_err-tables.result c.from_residual-in_err-tables.ensures.1 in
    let failed = rw c.debug_information.ensures.same at c.in_err-tables.ensures.exact in
    rw (p.1, p.2) (tables_fail order (streams c.args.pdb.now) c.in_err-tables.field-0.0 c.in_ok-debug_information.debug_information c.requires c.in_ok-debug_information.ensures.exact failed)

pub returns-clause-err : goal.returns-clause-err
returns-clause-err c = λ order.
    let read = rw c.debug_information.ensures.same at c.in_ok-tables.ensures.exact in
    let failed = order_fails order (streams c.args.pdb.now) c.in_ok-debug_information.debug_information c.in_ok-tables.tables c.requires c.in_ok-debug_information.ensures.exact read
    (ap (λ (t : Tables). is_ordered t.map) (sym c.tables.view_is) ∙ c.in-Err.ensures.err.1) in
    rw c.in-Err.ensures.err.0 failed

-- nothing else is promised of a fault
pub returns-in_err-debug_information-clause-same : goal.returns-in_err-debug_information-clause-same
returns-in_err-debug_information-clause-same c =
    let p = err_from_is_err_and c.from_residual.result c.from_residual.ensures.1 in rw p.1 tt

pub returns-in_err-debug_information-clause-read : goal.returns-in_err-debug_information-clause-read
returns-in_err-debug_information-clause-read c =
    let p = err_from_is_err_and c.from_residual.result c.from_residual.ensures.1 in rw p.1 tt

pub returns-in_err-tables-clause-same : goal.returns-in_err-tables-clause-same
returns-in_err-tables-clause-same c =
    let p = err_from_is_err_and c.from_residual-in_err-tables.result c.from_residual-in_err-tables.ensures.1 in rw p.1 tt

pub returns-in_err-tables-clause-read : goal.returns-in_err-tables-clause-read
returns-in_err-tables-clause-read c =
    let p = err_from_is_err_and c.from_residual-in_err-tables.result c.from_residual-in_err-tables.ensures.1 in rw p.1 tt

-- the container is as it was
pub read_tables-requires : goal.read_tables-requires
read_tables-requires c =
    subst (λ (file : List ℕ). debug_information (shared (streams file)) ≡ Ok c.in_ok-debug_information.debug_information) (sym c.debug_information.ensures.same) c.in_ok-debug_information.ensures.exact

pub returns-in-Ok-clause-same : goal.returns-in-Ok-clause-same
returns-in-Ok-clause-same c = c.read_tables.ensures.same ∙ c.debug_information.ensures.same

pub returns-in-Ok-clause-read : goal.returns-in-Ok-clause-read
returns-in-Ok-clause-read c =
    let read = rw c.debug_information.ensures.same at c.in_ok-tables.ensures.exact in
    let map_is = ap (λ (t : Tables). t.map) c.tables.view_is in
    record {
      dbi_is = c.in_ok-debug_information.ensures.exact;
      tables_are = read;
      in_order = ap (λ (t : Tables). is_ordered t.map) (sym c.tables.view_is) ∙ c.in-Ok.ensures.ok.0;
      ordered = rw map_is at c.in-Ok.ensures.ok.1;
    }
