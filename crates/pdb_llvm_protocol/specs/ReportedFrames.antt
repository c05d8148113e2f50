-- Frames as they are reported.
use Rattle.std.specs.Prelude.{ℕ, List, Option}

-- a function's name, empty where there is no function; its file; its line, 0 for none, and its
-- column, 0 for none
pub record ReportedFrame : Type 0 where
  pub function : Option (List ℕ)
  pub file : Option (List ℕ)
  pub line : ℕ
  pub column : ℕ
