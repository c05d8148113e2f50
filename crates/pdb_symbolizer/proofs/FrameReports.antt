-- The report that a task on lines asks for.
use Rattle.std.proofs.Common.{◌≡◌, ℕ, ◌≤◌, List, length, Bool, Result, Ok, Err, inr, sym, subst}
use Rattle.std.specs.Prelude.{◌⊎◌, Option, None, Some, IfSome, OnErr, OnOk}
use Rattle.pdb_arguments.specs.declared.task.Task.{Task}
use Rattle.pdb_engine.specs.InputLines.{report}
use Rattle.pdb_loading.specs.declared.order.ContributionOrder.{ContributionOrder}
use Rattle.pdb_report.specs.Answer.{answer_with}
use Rattle.pdb_report.specs.FrameReports.{LineText}
use Rattle.pdb_symbolizer.specs.Tasks.{OnReport, line_if, order_if}
use Rattle.pdb_symbols_modules.specs.Streams.{Streams}

module _ (P : List ℕ → Type 0) (s : Streams) (line : LineText) (order : ContributionOrder) (task : Task) (any_order json : Bool) where
  -- what is said of the report in a form is said of that which the task asks for
  asked : (input : Option (List ℕ)) → ((q : Option (List ℕ)) → OnReport task s q P ≡ IfSome q (λ lines. P (report (line_if json (answer_with (order_if any_order) s)) lines)))
      → line_if json ≡ line → order ≡ order_if any_order → IfSome input (λ lines. P (report (line (answer_with order s)) lines)) → OnReport task s input P
  asked input of form ordered h =
      subst (λ (X : Type 0). X) (sym (of input))
      (subst (λ (o : ContributionOrder). IfSome input (λ lines. P (report (line_if json (answer_with o s)) lines))) ordered
      (subst (λ (l : LineText). IfSome input (λ lines. P (report (l (answer_with order s)) lines))) (sym form) h))

  -- where it is out as a whole
  pub asked_ok : {T E : Type 0} (result : Result T E) (limit : ℕ) (input : Option (List ℕ)) → ((q : Option (List ℕ)) → OnReport task s q P ≡ IfSome q (λ lines. P (report (line_if json (answer_with (order_if any_order) s)) lines)))
      → line_if json ≡ line → order ≡ order_if any_order → OnOk result (IfSome input (λ lines. (length lines ≤ limit) × P (report (line (answer_with order s)) lines)))
      → OnOk result (OnReport task s input P)
  asked_ok (Err e) limit input of form ordered h = tt
  asked_ok (Ok done) limit None of form ordered h = asked None of form ordered tt
  asked_ok (Ok done) limit (Some input) of form ordered h = asked (Some input) of form ordered h.1

  -- where a prefix of it is
  pub asked_part : {T E : Type 0} (A : Type 0) (result : Result T E) (input : Option (List ℕ)) → ((q : Option (List ℕ)) → OnReport task s q P ≡ IfSome q (λ lines. P (report (line_if json (answer_with (order_if any_order) s)) lines)))
      → line_if json ≡ line → order ≡ order_if any_order → OnErr result (IfSome input (λ lines. P (report (line (answer_with order s)) lines)))
      → OnErr result (A ⊎ OnReport task s input P)
  asked_part A (Ok done) input of form ordered h = tt
  asked_part A (Err e) input of form ordered h = inr (asked input of form ordered h)
