-- What is held, with other modules.
use Rattle.std.proofs.Common.{◌≡◌, ℕ, List, Result, Ok, Err, sym, ap, subst, ◌∙◌}
use Rattle.pdb_answers.specs.Choice.{Parts}
use Rattle.pdb_answers.specs.Printing.{Formatting}
use Rattle.pdb_loading.specs.declared.order.ContributionOrder.{ContributionOrder}
use Rattle.pdb_loading.specs.Held.{Held, parts_held_with}
use Rattle.pdb_loading.specs.ModuleInfos.{KeptInfo}
use Rattle.pdb_resolving.specs.declared.error.Error.{Error}
use Rattle.pdb_resolving.specs.Fault.{Answers, Fault}
use Rattle.pdb_addr2line.specs.Context.{Context, context_over, lasting}
use Rattle.pdb_addr2line.specs.Formatters.{context_with, formatting_of, with_modules}

-- with its own modules it is what it was
pub with_its_own : (h : Held) (infos : List KeptInfo) → infos ≡ h.infos → with_modules h infos ≡ h
with_its_own h infos same = ap (with_modules h) same

-- a context over parts that are those of what is held
pub over_held : (order : ContributionOrder) (h : Held) (infos : List KeptInfo) (flags : ℕ) (parts : Parts) (made : Result (Context (List KeptInfo)) Error) → parts_held_with order h ≡ Ok parts
    → Answers (λ c. c) made (context_over infos (formatting_of (with_modules h infos) flags) (Ok parts)) → Answers (λ c. c) made (context_with order (with_modules h infos) flags)
over_held order h infos flags parts made held answered =
    subst (λ (read : Result Parts Fault). Answers (λ c. c) made (context_over infos (formatting_of (with_modules h infos) flags) read)) (sym held) answered

same_context : {P : Type 0} (x y : Context P) → (let r : Result (Context P) Fault = Ok x in r) ≡ Ok y → x ≡ y
same_context x y same = cc

over_parts : {P : Type 0} (provider : P) (formatting : Formatting P) (read : Result Parts Fault) (c : Context P) → context_over provider formatting read ≡ Ok c → read ≡ Ok c.parts
over_parts provider formatting (Ok parts) c made = ap (λ (k : Context _). let r : Result Parts Fault = Ok k.parts in r) (same_context _ c made)
over_parts provider formatting (Err e) c made = absurd cc

-- the parts of a context over what is held are what is held has
pub parts_of_context : (order : ContributionOrder) (h : Held) (flags : ℕ) (c : Context (List KeptInfo)) (parts : Parts) → context_with order h flags ≡ Ok c → parts ≡ c.parts → parts_held_with order h ≡ Ok parts
parts_of_context order h flags c parts made same =
    over_parts h.infos (formatting_of h flags) (parts_held_with order h) c made ∙ ap (λ (p : Parts). let r : Result Parts Fault = Ok p in r) (sym same)

-- a context that differs in its count and in what stands as failed has the same parts
pub parts_last : {P : Type 0} (c d : Context P) → lasting c ≡ lasting d → c.parts ≡ d.parts
parts_last c d same = ap (λ (k : Context _). k.parts) same
