-- The values from which texts are made.
use Rattle.std.specs.Prelude.{ℕ, Result}
use Rattle.pdb_records.specs.Forms.{TypeForm}
use Rattle.pdb_records.specs.IdForms.{IdForm}
use Rattle.pdb_resolving.specs.Cause.{Cause}

-- types and ids by their indices, as one module has them, sizes of types in bytes, and the flags
pub record Env : Type 0 where
  pub read : ℕ → Result TypeForm Cause
  pub read_id : ℕ → Result IdForm Cause
  pub size : ℕ → ℕ
  -- bits: 1 no return type of the function asked for, 2 no `static`, 4 a space after a comma, 8 a
  -- space before `*` and `&`, 16 names without `class ` and the like, 32 no arguments of the
  -- function asked for and of methods
  pub flags : ℕ
