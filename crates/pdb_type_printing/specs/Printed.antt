-- Text that is put at the end of the text so far, and the ways in which printing may end.
use Rattle.std.specs.Prelude.{◌≡◌, ℕ, false, List, ◌++◌, codes, Result, Ok, Err}
use Rattle.std.specs.Fmt.{digits}
use Rattle.pdb_container.specs.declared.error.Error.TheVariants as read
use Rattle.pdb_container.specs.Fault.{TypeNotFound, UnimplementedTypeKind}
use Rattle.pdb_resolving.specs.declared.error.Error.TheVariants.{PdbError as AtPdbError}
use Rattle.pdb_resolving.specs.declared.error.Error.TheVariants.{FormatError, OutOfMemory}
use Rattle.pdb_resolving.specs.declared.stop.Stop.{Stop}
use Rattle.pdb_resolving.specs.declared.stop.Stop.TheVariants.{ByError, ByTable as AtTable}
use Rattle.pdb_resolving.specs.Cause.{Cause, ByFault, ByTable, IsOfFault}
use Rattle.pdb_resolving.specs.Fault.{PdbError, fault_of}

-- bytes of UTF-8
abbrev pub Text : Type 0
Text = List ℕ

-- the end of printing, with the text so far: all is printed, or a cause came
pub data Printed : Type 0 where
  Done : Text → Printed
  Stopped : Cause → Text → Printed

infixl 10 ◌>>=◌
-- printing goes on where all is printed
abbrev pub ◌>>=◌ : Printed → (Text → Printed) → Printed
(Done w) >>= more = more w
(Stopped cause w) >>= more = Stopped cause w

-- a text after the text so far
abbrev pub say : Text → Text → Printed
say s w = Done (w ++ s)

-- the answer of printing from no text on: a text, or the cause that ended it
abbrev pub answered : Printed → Result Text Cause
answered (Done w) = Ok w
answered (Stopped cause w) = Err cause

-- the printed text where no type has the index
abbrev pub missing_type : ℕ → Text
missing_type i = codes "<missing type 0x" ++ (digits 16 false i ++ codes ">")

-- the printed text of a record whose leaf has no form
abbrev pub unimplemented_kind : ℕ → Text
unimplemented_kind leaf = codes "<unimplemented type kind 0x" ++ (digits 16 false leaf ++ codes ">")

-- the printed text in place of a record that can't be read; any other cause ends the text
abbrev pub unread : Cause → Text → Printed
unread (ByFault (PdbError (TypeNotFound i))) w = say (missing_type i) w
unread (ByFault (PdbError (UnimplementedTypeKind leaf))) w = say (unimplemented_kind leaf) w
unread cause w = Stopped cause w

-- a missing type ends here: the text before it stays, and its index is named after that
abbrev pub caught : Printed → Printed
caught (Done w) = Done w
caught (Stopped (ByFault (PdbError (TypeNotFound i))) w) = say (missing_type i) w
caught (Stopped cause w) = Stopped cause w

-- the printed text of a value that was read; or else the text in its place
abbrev pub read_or : {A : Type 0} → (Cause → Printed) → Result A Cause → (A → Printed) → Printed
read_or fail (Ok x) more = more x
read_or fail (Err cause) more = fail cause

-- ---- the result of a call that prints, and the text that it left

-- A call was ended and left this text: printing stopped so, unless memory was refused.
abbrev pub Stops : Stop → Text → Printed → Type 0
Stops (ByError OutOfMemory) new printed = Unit {0}
Stops (ByError (AtPdbError read.OutOfMemory)) new printed = ⊥
Stops (ByError (FormatError cause)) new printed = ⊥
Stops (ByError e) new printed = printed ≡ Stopped (ByFault (fault_of e)) new
Stops (AtTable table e) new printed = IsOfFault e
    × (printed ≡ Stopped (ByTable table (fault_of e)) new)

-- A call returned and left this text: printing ends so, unless memory was refused.
abbrev pub Prints : {A : Type 0} → Result A Stop → Text → Printed → Type 0
Prints (Ok x) new printed = printed ≡ Done new
Prints (Err stop) new printed = Stops stop new printed

-- A call that is given the stop of a reading returned and left this text.
abbrev pub PrintsUnread : {A : Type 0} → Stop → Result A Stop → Text → Text → Type 0
PrintsUnread (ByError OutOfMemory) result new old = result ≡ Err (ByError OutOfMemory)
PrintsUnread (ByError (AtPdbError read.OutOfMemory)) result new old = Unit {0}
PrintsUnread (ByError (FormatError cause)) result new old = Unit {0}
PrintsUnread (ByError e) result new old = Prints result new (unread (ByFault (fault_of e)) old)
PrintsUnread (AtTable table e) result new old =
    IsOfFault e → Prints result new (unread (ByTable table (fault_of e)) old)
