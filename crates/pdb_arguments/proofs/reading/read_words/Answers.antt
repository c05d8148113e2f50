use Rattle.std.proofs.Common.{IfErr, ◌≡◌, ◌∙◌, ap, sym, subst, inl, inr, map, string_bytes}
use Rattle.std.proofs.lemmas.Result.{IfErr-weaker, IfOk-weaker}
use Rattle.clap.specs.Words.{IsAmong, fault_of, is_simple, is_simple_and_free, kind_of}
use Rattle.clap.specs.Words.{subcommand_of, subcommand_rows_of}
use Rattle.pdb_arguments.specs.Task.{IsFaultOf, IsTaken, IsTask, IsToldOfEntered, entered_by}
use Rattle.pdb_arguments.proofs.Told.{memory_told, only_memory}
use Rattle.pdb_arguments.proofs.reading.read_words.Goals as goal

pub returns-in-Ok-clause-task : goal.returns-in-Ok-clause-task
returns-in-Ok-clause-task c =
    let app = c.in_ok-command.ensures.app in
    let taken : IsTaken (map string_bytes c.args.words.now) =
    ap (λ a. fault_of a (map string_bytes c.args.words.now)) (sym app)
    ∙ c.in-Ok.ensures.kinds (ap is_simple_and_free app) in
    let entered : subcommand_rows_of c.in-Ok.matches
    ≡ entered_by (map string_bytes c.args.words.now) =
    (c.in-Ok.ensures.matches (ap is_simple app)).1
    ∙ ap (λ a. subcommand_of a (map string_bytes c.args.words.now)) app in
    IfOk-weaker c.task_of.result _ _ (λ task h. (taken, subst (IsTask task) entered h))
    c.task_of.ensures.ok

fault_in_ok : (c : goal.Joined-matches)
    → IfErr c.task_of.result (IsFaultOf (map string_bytes c.args.words.now))
fault_in_ok c =
    let app = c.in_ok-command.ensures.app in
    let taken : IsTaken (map string_bytes c.args.words.now) =
    ap (λ a. fault_of a (map string_bytes c.args.words.now)) (sym app)
    ∙ c.in-Ok.ensures.kinds (ap is_simple_and_free app) in
    let entered : subcommand_rows_of c.in-Ok.matches
    ≡ entered_by (map string_bytes c.args.words.now) =
    (c.in-Ok.ensures.matches (ap is_simple app)).1
    ∙ ap (λ a. subcommand_of a (map string_bytes c.args.words.now)) app in
    IfErr-weaker c.task_of.result _ _
    (λ fault h. inr (inr (taken, subst (λ e. IsToldOfEntered e fault) entered h)))
    c.task_of.ensures.err

pub returns-in-Ok-clause-fault : goal.returns-in-Ok-clause-fault
returns-in-Ok-clause-fault c = fault_in_ok c

pub returns-in-Ok-clause-passes : goal.returns-in-Ok-clause-passes
returns-in-Ok-clause-passes c = IfErr-weaker c.task_of.result _ _
    (only_memory (map string_bytes c.args.words.now)) (fault_in_ok c)

fault_in_err : (c : goal.Joined-error) → IsFaultOf (map string_bytes c.args.words.now) c.told.result
fault_in_err c =
    let app = c.in_ok-command.ensures.app in
    let words = map string_bytes c.args.words.now in
    let kind = kind_of c.in-Err.error in
    elim (c.in-Err.ensures.kinds (ap is_simple_and_free app)) [
      | inl is ↦ inl (memory_told kind c.told.result is c.told.ensures)
      | inr among ↦
          inr (inl (kind, subst (λ a. IsAmong kind (fault_of a words)) app among, c.told.ensures))
    ]

pub returns-in-Err-clause-fault : goal.returns-in-Err-clause-fault
returns-in-Err-clause-fault c = fault_in_err c

pub returns-in-Err-clause-passes : goal.returns-in-Err-clause-passes
returns-in-Err-clause-passes c = only_memory (map string_bytes c.args.words.now) c.told.result
    (fault_in_err c)
