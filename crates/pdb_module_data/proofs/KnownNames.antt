-- The name of a file, by its entry among the checksums.
use Rattle.std.proofs.Common.{◌≡◌, ℕ, List, Option, None, Some, Ok, Err, Result, refl, sym, ap, ◌∙◌}
use Rattle.std.specs.Prelude.{option_and_then}
use Rattle.pdb_container.specs.Fault.{Fault, ◌>>=◌}
use Rattle.pdb_container.specs.StringTable.{text_in}
use Rattle.pdb_lines.specs.Checksums.{File, file_in}
use Rattle.pdb_lines.specs.LinesSubsections.{Program}
use Rattle.pdb_module_data.specs.FunctionLine.{file_text, if_read}

-- a module has no such file
pub no_entry : (program : Program) (names : Option (List ℕ)) (index : ℕ) (e : Fault) → file_in program.files index ≡ Err e → None ≡ file_text program names index
no_entry program None index e read = refl
no_entry program (Some strings) index e read = ap (λ (r : Result File Fault). if_read (r >>= λ file. text_in strings file.name)) (sym read)

-- a module has the file, and its name is looked for
pub entry_named : (program : Program) (names : Option (List ℕ)) (index : ℕ) (file : File) (text : Option (List ℕ))
    → file_in program.files index ≡ Ok file → text ≡ option_and_then (λ strings. if_read (text_in strings file.name)) names → text ≡ file_text program names index
entry_named program None index file text read is = is
entry_named program (Some strings) index file text read is = is ∙ ap (λ (r : Result File Fault). if_read (r >>= λ file. text_in strings file.name)) (sym read)
