use Rattle.std.proofs.Common.{ℕ, List, subst}
use Rattle.std.proofs.lemmas.Result.{err_from_is_err_and}
use Rattle.pdb_symbols_modules.specs.Streams.{streams}
use Rattle.pdb_loading.specs.Loading.{load_fault_with}
use Rattle.pdb_loading.specs.LoadFaults.{Refuses, load_fault_of}
use Rattle.pdb_loading.proofs.LoadingSteps.{not_opened}
use Rattle.pdb_loading.proofs.loading.open_file.Goals as goal

pub returns-in_err-open-clause-refused : goal.returns-in_err-open-clause-refused
returns-in_err-open-clause-refused c = λ order.
    let p = err_from_is_err_and c.from_residual-in_err-open.result c.from_residual-in_err-open.ensures.1 in
    let e = c.in_err-open.field-0.0 in
    let opened = c.in_ok-file.file in
    let refused : Refuses (load_fault_of e) (load_fault_with order (streams opened)) = not_opened order (λ v. v) opened (streams opened) e c.in_err-open.ensures.err in
    rw (p.1, p.2) (subst (λ (file : List ℕ). Refuses (load_fault_of e) (load_fault_with order (streams file))) c.in_ok-file.ensures refused)
