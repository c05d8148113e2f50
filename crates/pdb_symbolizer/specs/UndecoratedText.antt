-- The text that a writer that undecorates names writes.
use Rattle.std.specs.Prelude.{◌≡◌, ℕ, List, ◌++◌, Option}
use Rattle.std.specs.Io.KnownBytes.{Appends}
use Rattle.pdb_engine.specs.InputLines.{Begins}
use Rattle.pdb_symbolizer.specs.UndecoratedLines.{IsUnbroken, Undecorates}
use Rattle.pdb_symbolizer.specs.declared.undecorated.writer.UndecoratedWriter.{UndecoratedWriter}

-- The lines that end in the pending and the given bytes were written with the texts of their names,
-- and the rest after them is pending.
pub record WritesEnded {W : Type 0} (contents : W → Option (List ℕ)) (old new : UndecoratedWriter W)
    (bytes : List ℕ) : Type 0 where
  pub same_kind : new.kind ≡ old.kind
  pub pending : IsUnbroken old.kind new.pending.items
  pub named : List ℕ
  pub is_named : Undecorates old.kind (old.pending.items ++ bytes) new.pending.items named
  pub out : Appends (contents old.writer) (contents new.writer) named

-- A prefix of the lines of the pending and the given bytes was written with the texts of their
-- names, and the given bytes weren't taken.
pub record WritesFrontOf {W : Type 0} (contents : W → Option (List ℕ))
    (old new : UndecoratedWriter W) (bytes : List ℕ) : Type 0 where
  pub same_kind : new.kind ≡ old.kind
  pub same_pending : new.pending.items ≡ old.pending.items
  pub rest : List ℕ
  pub named : List ℕ
  pub is_named : Undecorates old.kind (old.pending.items ++ bytes) rest named
  pub front : List ℕ
  pub out : Appends (contents old.writer) (contents new.writer) front
  pub begins : Begins front named
