use Rattle.std.proofs.Common.{◌≡◌, ◌++◌, List, [], sym, subst, ap, ◌∙◌}
use Rattle.std.specs.Prelude.{OnOk}
use Rattle.std.proofs.lemmas.List.{append-nil}
use Rattle.pdb_symbol_files.specs.Code.{answers_along}
use Rattle.pdb_symbol_files.specs.PieceRecords.{AreOf}
use Rattle.pdb_symbol_files.specs.Told.{Answer, answers_from}
use Rattle.pdb_symbol_files.proofs.ToldAlong.{along_none, along_some}
use Rattle.pdb_symbol_files.proofs.told_runs.add_run.Goals as goal

pub returns-in-Some : goal.returns-in-Some
returns-in-Some c =
    λ told same answers are.
    let e : answers_along told c.args.address c.args.run.count
    ≡ answers_from c.args.address c.args.run.count c.in-Some.told =
    along_some told c.args.run.count c.args.address c.in-Some.told
    (λ x from below. same x from below ∙ c.in-Some.is) in
    subst (λ (xs : List Answer). OnOk c.add.result (AreOf c.add.new.self (answers ++ xs))) (sym e)
    (c.add.ensures answers are)

pub returns-in-None : goal.returns-in-None
returns-in-None c =
    λ told same answers are.
    let e : answers_along told c.args.address c.args.run.count ≡ [] =
    along_none told c.args.run.count c.args.address
    (λ x from below. same x from below ∙ c.in-None.is) in
    subst (λ (xs : List Answer). AreOf c.args.records.now xs)
    (sym (append-nil answers) ∙ ap (λ (xs : List Answer). answers ++ xs) (sym e)) are
