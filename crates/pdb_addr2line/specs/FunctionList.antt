-- The functions of a file in the order of their addresses.
use Rattle.std.specs.Prelude.{◌≡◌, ℕ, ◌+◌, ◌-◌, ◌^◌, ◌≤◌, min, List, [], ◌∷◌, length, Option, None}
use Rattle.std.specs.Prelude.{Some, Result, Ok, Err, drop}
use Rattle.std.specs.Borrow.{MutBor}
use Rattle.std.specs.List.{flat_map}
use Rattle.pdb_symbols_modules.specs.Modules.{Module}
use Rattle.pdb_resolving.specs.declared.error.Error.{Error}
use Rattle.pdb_resolving.specs.declared.error.Error.TheVariants as errors
use Rattle.pdb_owners.specs.FunctionOrder.{Function}
use Rattle.pdb_answers.specs.Choice.{Parts}
use Rattle.pdb_frames.specs.Scopes.{Scope}
use Rattle.pdb_frames.specs.FramesAt.{function}
use Rattle.pdb_addr2line.specs.Context.{Context, uncounted}
use Rattle.pdb_addr2line.specs.Starts.{if_any, start_addresses, IsAscending}

-- the functions at addresses, where an address has one
abbrev pub functions_at : Parts → (ℕ → Scope) → List ℕ → List Function
functions_at p scope addresses = flat_map (λ a. if_any (function p scope a)) addresses

-- These are the functions of the distinct image addresses at which a public entry or a procedure
-- begins, in ascending order, where an address has one.
abbrev pub AreFunctions : Parts → (ℕ → Scope) → List Module → List Function → Type 0
AreFunctions p scope entries functions =
    (starts : List ℕ) × IsAscending (start_addresses p scope entries) starts
    × (functions ≡ functions_at p scope starts)

-- the functions that an iterator has still to give: those at addresses, and the number of these
-- addresses
pub record FunctionsLeft : Type 0 where
  pub functions : List Function
  pub addresses : ℕ

-- the functions that are left at addresses
abbrev pub functions_left : Parts → (ℕ → Scope) → List ℕ → FunctionsLeft
functions_left p scope addresses = record {
  functions = functions_at p scope addresses;
  addresses = length addresses;
}

-- nothing is left
abbrev pub none_left : FunctionsLeft
none_left = record { functions = []; addresses = 0 }

-- One item: the first of the functions that were left, or out of memory, after which nothing is
-- left; at the end nothing was.
abbrev pub GivesFunction : FunctionsLeft → Option (Result Function Error) → FunctionsLeft → Type 0
GivesFunction old None new = (old.functions ≡ []) × (new ≡ none_left)
GivesFunction old (Some (Ok f)) new = old.functions ≡ f ∷ new.functions
GivesFunction old (Some (Err errors.OutOfMemory)) new = new ≡ none_left
GivesFunction old (Some (Err e)) new = ⊥

-- an iterator of functions: the context that it borrows and asks, and what it has still to give
pub record FunctionIteration (P : Type 0) : Type 0 where
  pub context : MutBor (Context P)
  pub left : FunctionsLeft

-- the number of values in a list from one place on and before another
abbrev pub passed : List ℕ → ℕ → ℕ → ℕ
passed numbers old new = length (drop old numbers) - length (drop new numbers)

-- a count of 64 bits, which ends at 2^64 - 1, never falls and rises by no more than this
pub record RisesWithin (most old new : ℕ) : Type 0 where
  pub least : min old (2 ^ 64 - 1) ≤ new
  pub most_is : new ≤ old + most

-- one step gives one item of the same borrowed context, which may count a lookup for each address
pub record StepsOn {P : Type 0} (old : FunctionIteration P)
    (result : Option (Result Function Error)) (new : FunctionIteration P) : Type 0 where
  pub gives : GivesFunction old.left result new.left
  pub same_reference : new.context.ghost_name ≡ old.context.ghost_name
  pub same : uncounted new.context.now ≡ uncounted old.context.now
  pub lookups : RisesWithin (old.left.addresses - new.left.addresses)
      old.context.now.lookups new.context.now.lookups
