-- A symbolizer of places as the definitions see it, and what its answers depend on.
use Rattle.std.specs.Prelude.{ℕ}
use Rattle.pdb_resolving.specs.Resolving.{Provided}
use Rattle.pdb_frames.specs.Choice.{Parts}
use Rattle.pdb_frames.specs.FailingParts.{Failures, no_failures}
use Rattle.pdb_frames.specs.Printing.{Formatting}
use Rattle.pdb_frames.specs.Scopes.{Scope, scope_of}

-- the provider of modules, the parts that every question goes over, the formatter of which names
-- are made, and the parts of modules that stand as failed
pub record Symbolizer (P : Type 0) : Type 0 where
  pub provider : P
  pub parts : Parts
  pub formatting : Formatting P
  pub failed : Failures

-- the part of a symbolizer that no question changes: all but what stands as failed
abbrev pub lasting : {P : Type 0} → Symbolizer P → Symbolizer P
lasting s = record {
  provider = s.provider;
  parts = s.parts;
  formatting = s.formatting;
  failed = no_failures;
}

-- all that an answer in the module with that index depends on
abbrev pub scope_in : {P : Type 0} → (P → Provided) → Symbolizer P → ℕ → Scope
scope_in provided s m = scope_of provided s.provider s.formatting m

-- a symbolizer before any question
abbrev pub symbolizer_over : {P : Type 0} → P → Parts → Formatting P → Symbolizer P
symbolizer_over provider parts formatting = record {
  provider = provider;
  parts = parts;
  formatting = formatting;
  failed = no_failures;
}
