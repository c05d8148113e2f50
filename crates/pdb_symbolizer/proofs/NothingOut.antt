-- A writer that wrote nothing.
use Rattle.std.proofs.Common.{ℕ, List, [], ◌++◌, refl, sym, append-nil}
use Rattle.std.specs.Prelude.{Option, None, Some}
use Rattle.std.specs.Io.KnownBytes.{Appends}
use Rattle.std.proofs.lemmas.List.Elements.{All-nil}
use Rattle.pdb_symbolizer.specs.UndecoratedLines.{IsLineOf}
use Rattle.pdb_symbolizer.specs.UndecoratedText.{WritesFrontOf}
use Rattle.pdb_symbolizer.specs.declared.undecorated.writer.UndecoratedWriter.{UndecoratedWriter}

nothing_out : (contents : Option (List ℕ)) → Appends contents contents []
nothing_out None = tt
nothing_out (Some xs) = sym (append-nil xs)

-- nothing is a prefix of no lines
pub nothing_written : {W : Type 0} (contents : W → Option (List ℕ)) (writer : UndecoratedWriter W) (bytes : List ℕ)
    → WritesFrontOf contents writer writer bytes
nothing_written contents writer bytes = record {
  same_kind = refl;
  same_pending = refl;
  rest = writer.pending.items ++ bytes;
  named = [];
  is_named = record { lines = []; each = All-nil (IsLineOf writer.kind); stored = refl; written = refl };
  front = [];
  out = nothing_out (contents writer.writer);
  begins = ([], refl);
}
