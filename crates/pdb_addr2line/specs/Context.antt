-- A context as the definitions see it, and the parts of which it is made.
use Rattle.std.specs.Prelude.{ℕ, ◌+◌, ◌-◌, ◌^◌, Bool, List, Option, min, Result, Ok, Err}
use Rattle.std.specs.Prelude.{if◌then◌else◌}
use Rattle.pdb_container.specs.Fault.{◌>>=◌}
use Rattle.pdb_addresses.specs.Addresses.{Map}
use Rattle.pdb_addresses.specs.declared.sections.ImageSectionHeader.{ImageSectionHeader}
use Rattle.pdb_resolving.specs.declared.error.Error.{Error}
use Rattle.pdb_resolving.specs.declared.error.Error.TheVariants as errors
use Rattle.pdb_resolving.specs.Fault.{Answers, Fault}
use Rattle.pdb_resolving.specs.Resolving.{Provided}
use Rattle.pdb_answers.specs.Printing.{Formatting}
use Rattle.pdb_answers.specs.Choice.{Parts}
use Rattle.pdb_answers.specs.Parts.{parts_of}
use Rattle.pdb_frames.specs.Scopes.{Scope, scope_of}
use Rattle.pdb_answers.specs.FailingParts.{Failures, no_failures}
use Rattle.pdb_symbols_modules.specs.Dbi.{Dbi}

-- the provider of modules, the parts that every question goes over, the formatter of which names
-- are made, the number of places that were looked up, and the parts of modules that stand as failed
pub record Context (P : Type 0) : Type 0 where
  pub provider : P
  pub parts : Parts
  pub formatting : Formatting P
  pub lookups : ℕ
  pub failed : Failures

-- all of a context but its count: its answers depend on this
abbrev pub uncounted : {P : Type 0} → Context P → Context P
uncounted c = record {
  provider = c.provider;
  parts = c.parts;
  formatting = c.formatting;
  lookups = 0;
  failed = c.failed;
}

-- all of a context that no question changes: all but its count and what stands as failed
abbrev pub lasting : {P : Type 0} → Context P → Context P
lasting c = record {
  provider = c.provider;
  parts = c.parts;
  formatting = c.formatting;
  lookups = 0;
  failed = no_failures;
}

-- the count after a question: one more where there was a place to look up, unless memory ran
-- short; it stays at 2^64 - 1
abbrev pub lookups_after : {A : Type 0} → Bool → Result A Error → ℕ → ℕ
lookups_after placed (Err errors.OutOfMemory) lookups = lookups
lookups_after placed r lookups = if placed then min (lookups + 1) (2 ^ 64 - 1) else lookups

-- all that an answer of a context in the module with that index depends on
abbrev pub scope_in : {P : Type 0} → (P → Provided) → Context P → ℕ → Scope
scope_in provided c m = scope_of provided c.provider c.formatting m

-- a context over parts that were read, before any question
abbrev pub context_over : {P : Type 0} → P → Formatting P → Result Parts Fault
    → Result (Context P) Fault
context_over provider formatting parts = parts >>= λ p. Ok record {
  provider = provider;
  parts = p;
  formatting = formatting;
  lookups = 0;
  failed = no_failures;
}

-- a context over a database's tables
abbrev pub context_from : {P : Type 0} → P → Formatting P → List ImageSectionHeader → Map → List ℕ
    → Dbi → Option (List ℕ) → Result (Context P) Fault
context_from provider formatting sections map symbol_records header names =
    context_over provider formatting
    (parts_of sections map symbol_records header.contributions names)

-- A call made this context, or was refused for the fault of its parts, unless memory was short.
abbrev pub MakesContext : {P : Type 0} → Result (Context P) Error → Result (Context P) Fault
    → Type 0
MakesContext result made = Answers (λ c. c) result made
