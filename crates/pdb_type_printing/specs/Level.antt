-- The level of indices that a call that prints leaves.
use Rattle.std.specs.Prelude.{◌≡◌}
use Rattle.pdb_type_printing.specs.declared.path.Seen.{Seen}

-- A call leaves a level as it was: the reference to its path, the place where it began, and the
-- path.
pub record KeepsLevel (old new : Seen) : Type 0 where
  pub same_reference : new.path.ghost_name ≡ old.path.ghost_name
  pub level : new.level ≡ old.level
  pub path : new.path.now.items ≡ old.path.now.items
