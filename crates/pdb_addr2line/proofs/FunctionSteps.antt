-- Going over the functions.
use Rattle.std.proofs.Common.{◌≡◌, ℕ, ◌+◌, ◌-◌, ◌^◌, ◌<◌, ◌≤◌, min, Bool, true, false, List, ◌∷◌, ◌++◌, Option, None, Some, Result, Ok, Err, length, drop, get_or, sym, ap, ◌∙◌, arith}
use Rattle.std.specs.Prelude.{if◌then◌else◌}
use Rattle.std.proofs.lemmas.List.{drop_more, drop_all}
use Rattle.pdb_container.specs.declared.error.Error.TheVariants as causes
use Rattle.pdb_resolving.specs.declared.error.Error.{Error}
use Rattle.pdb_resolving.specs.declared.error.Error.TheVariants as errors
use Rattle.pdb_resolving.specs.Fault.{Fault, Fails}
use Rattle.pdb_resolving.specs.Resolving.{Provided}
use Rattle.pdb_owners.specs.FunctionOrder.{Function}
use Rattle.pdb_answers.specs.Choice.{Parts}
use Rattle.pdb_frames.specs.Scopes.{Scope}
use Rattle.pdb_frames.specs.FramesAt.{function}
use Rattle.pdb_addr2line.specs.Starts.{if_any}
use Rattle.pdb_addr2line.specs.Context.{Context, scope_in, uncounted, lookups_after}
use Rattle.pdb_addr2line.specs.FunctionList.{functions_at, FunctionsLeft, functions_left, none_left, GivesFunction, RisesWithin}

-- the function that may be there, as an answer
abbrev answer_of : Option Function → Result (Option Function) Fault
answer_of found = Ok found

-- what may be there is what was found
abbrev Answer : Option Function → Option Function → Type 0
Answer there found = answer_of there ≡ answer_of found

same_ok : (x y : Option Function) → Answer x y → x ≡ y
same_ok x y same = cc

-- a context that differs in its count alone has the same functions
pub function_same : {P : Type 0} (provided : P → Provided) (c d : Context P) (a : ℕ) → uncounted c ≡ uncounted d → answer_of (function c.parts (scope_in provided c) a) ≡ answer_of (function d.parts (scope_in provided d) a)
function_same {P} provided c d a same = ap (λ (k : Context P). answer_of (function k.parts (scope_in provided k) a)) same

module _ (p : Parts) (scope : ℕ → Scope) where
  first_address : (addresses : List ℕ) (next : ℕ) → next < length addresses → functions_at p scope (drop next addresses) ≡ if_any (function p scope (get_or addresses next 0)) ++ functions_at p scope (drop (next + 1) addresses)
  first_address addresses next lt = ap (functions_at p scope) (drop_more addresses next 0 lt)

  -- there is none at an address
  pub functions_passed : (addresses : List ℕ) (next : ℕ) (found : Option Function) (total : List Function) → next < length addresses → Answer (function p scope (get_or addresses next 0)) found → found ≡ None
      → functions_at p scope (drop next addresses) ≡ total → functions_at p scope (drop (next + 1) addresses) ≡ total
  functions_passed addresses next found total lt answered none so_far =
      ap (λ (o : Option Function). if_any o ++ functions_at p scope (drop (next + 1) addresses)) (sym (same_ok _ _ answered ∙ none)) ∙ sym (first_address addresses next lt) ∙ so_far

  -- there is one at an address
  pub functions_first : (addresses : List ℕ) (next : ℕ) (found : Option Function) (f : Function) (total : List Function) → next < length addresses → Answer (function p scope (get_or addresses next 0)) found → found ≡ Some f
      → functions_at p scope (drop next addresses) ≡ total → total ≡ f ∷ functions_at p scope (drop (next + 1) addresses)
  functions_first addresses next found f total lt answered one so_far =
      sym so_far ∙ first_address addresses next lt ∙ ap (λ (o : Option Function). if_any o ++ functions_at p scope (drop (next + 1) addresses)) (same_ok _ _ answered ∙ one)

  -- nothing is left after the last address
  pub functions_end : (addresses : List ℕ) (next : ℕ) → length addresses ≤ next → functions_left p scope (drop next addresses) ≡ none_left
  functions_end addresses next past = ap (functions_left p scope) (drop_all next addresses past)

ok_is_not_err : {A : Type 0} {x : A} {e : Fault} → Ok x ≡ Err e → ⊥
ok_is_not_err {A} {x} {e} h = cc

-- what can't fail is refused only where memory runs out
pub fails_gives : {A : Type 0} (old : FunctionsLeft) (e : Error) (new : FunctionsLeft) (x : A) → Fails e (Ok x) → new ≡ none_left → GivesFunction old (Some (Err e)) new
fails_gives old errors.OutOfMemory new x h none = none
fails_gives old (errors.PdbError causes.OutOfMemory) new x h none = h
fails_gives old (errors.FormatError cause) new x h none = h
fails_gives old e new x h none = absurd (ok_is_not_err h)

-- ---- the count of lookups

-- a question for a place raises the count by one, and no other question raises it
counted_by : (placed : Bool) (most first a b n : ℕ) → b ≡ (if placed then min (a + 1) (2 ^ 64 - 1) else a) → RisesWithin most first a → most + 1 ≤ n → RisesWithin n first b
counted_by true most first a b n is rises more = record { least = omega (arith, rises.least); most_is = omega (arith, rises.most_is) }
counted_by false most first a b n is rises more = record { least = omega (arith, rises.least); most_is = omega (arith, rises.most_is) }

-- one more question was answered, or memory ran out
pub counted_more : {A : Type 0} (placed : Bool) (r : Result A Error) (most first a b n : ℕ) → b ≡ lookups_after placed r a → RisesWithin most first a → most + 1 ≤ n → RisesWithin n first b
counted_more placed (Err errors.OutOfMemory) most first a b n is rises more = record { least = omega (arith, rises.least); most_is = omega (arith, rises.most_is) }
counted_more placed r most first a b n is rises more = counted_by placed most first a b n is rises more

-- no question was asked
pub counted_none : (first n : ℕ) → RisesWithin n first first
counted_none first n = record { least = omega arith; most_is = omega arith }

-- more questions could have been asked
pub counted_within : (most first b n : ℕ) → RisesWithin most first b → most ≤ n → RisesWithin n first b
counted_within most first b n rises more = record { least = rises.least; most_is = omega (arith, rises.most_is) }
