-- What a call leaves of a formatter, by what the text's printing reported.
use Rattle.std.proofs.Common.{◌≡◌, Result, Ok, Err, refl, sym, ap, ◌∙◌}
use Rattle.pdb_container.specs.declared.error.Error.TheVariants as causes
use Rattle.pdb_resolving.specs.declared.error.Error.{Error}
use Rattle.pdb_resolving.specs.declared.error.Error.TheVariants as errors
use Rattle.pdb_resolving.specs.declared.stop.Stop.TheVariants as stops
use Rattle.pdb_resolving.specs.declared.table.Table.{Table}
use Rattle.pdb_resolving.specs.Cause.{Cause, Ends}
use Rattle.pdb_type_printing.specs.Printing.{Formatting, with_failed}
use Rattle.pdb_names.specs.Formatting.{failed_after, Leaves}

-- a text that was made leaves all as it was
pub leaves_text : {P A B : Type 0} (f : Formatting P) (x : A) (y : B) (made : Result B Cause)
    → made ≡ Ok y → Leaves made f (Ok x) f
leaves_text f x y made is = sym (ap (λ m. failed_after m f) is)

-- so does an error that is no table's
pub leaves_error : {P B : Type 0} (A : Type 0) (f : Formatting P) (e : Error)
    (made : Result B Cause) → Ends (stops.ByError e) made → Leaves {A = A} made f (Err e) f
leaves_error A f errors.OutOfMemory made h = refl
leaves_error A f (errors.PdbError causes.OutOfMemory) made h = absurd h
leaves_error A f (errors.FormatError cause) made h = absurd h
leaves_error A f e made h = sym (ap (λ m. failed_after m f) h)

-- a table that ended the text stands as failed
pub leaves_table : {P B : Type 0} (A : Type 0) (f f' : Formatting P) (table : Table) (e : Error)
    (made : Result B Cause) → f' ≡ with_failed f table → Ends (stops.ByTable table e) made
    → Leaves {A = A} made f (Err e) f'
leaves_table A f f' table errors.OutOfMemory made kept h = absurd h.0
leaves_table A f f' table (errors.PdbError causes.OutOfMemory) made kept h = absurd h.0
leaves_table A f f' table (errors.FormatError cause) made kept h = absurd h.0
leaves_table A f f' table e made kept h = kept ∙ sym (ap (λ m. failed_after m f) h.1)
