-- The frames at an address in a function.
use Rattle.std.specs.Prelude.{ℕ, List, Option}
use Rattle.pdb_owners.specs.declared.frames.FrameRow.{FrameRow}

-- a function's name, the file and line of a place in it, and the row that the line comes from; each
-- may be missing
pub record Frame : Type 0 where
  pub function : Option (List ℕ)
  pub file : Option (List ℕ)
  pub line : Option ℕ
  pub row : Option FrameRow

-- the start and the end of a function, and its frames at a place, innermost first
pub record FunctionFrames : Type 0 where
  pub start_rva : ℕ
  pub end_rva : Option ℕ
  pub frames : List Frame
