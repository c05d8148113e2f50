-- The values that annotations give, and their sums and last values.
use Rattle.std.specs.Prelude.{ℕ, ◌==◌, List, [], ◌∷◌, Option, None, Some, if◌then◌else◌, unwrap_or}
use Rattle.std.specs.List.{sum_by}
use Rattle.std.specs.Option.{option_or, is_some}
use Rattle.std.specs.Int.{w32, cast_unsigned}
use Rattle.pdb_container.specs.declared.index_numbers.FileIndex.{FileIndex}
use Rattle.pdb_symbol_records.specs.declared.annotation.BinaryAnnotation.{BinaryAnnotation}
use Rattle.pdb_symbol_records.specs.declared.annotation.BinaryAnnotation.TheVariants as kinds
use Rattle.pdb_subsections.specs.declared.line_info.LineInfoKind.{LineInfoKind}
use Rattle.pdb_subsections.specs.declared.line_info.LineInfoKind.TheVariants as made_of

-- the last value that elements of a list give
abbrev pub last_given : {A X : Type 0} → (A → Option X) → List A → Option X
last_given given [] = None
last_given given (a ∷ others) = option_or (last_given given others) (given a)

-- the elements after the last one that gives a value; all of them, where none does
abbrev pub behind_last : {A X : Type 0} → (A → Option X) → List A → List A
behind_last given [] = []
behind_last given (a ∷ others) =
    if is_some (last_given given others) then behind_last given others
    else (if is_some (given a) then others else a ∷ others)

-- the sum of the values that elements of a list give
abbrev pub total : {A : Type 0} → (A → Option ℕ) → List A → ℕ
total given list = sum_by (λ a. unwrap_or (given a) 0) list

-- the offset at which the code goes on
abbrev pub code_offset : BinaryAnnotation → Option ℕ
code_offset (kinds.CodeOffset offset) = Some offset
code_offset a = None

-- the number that is added to the offset of each row
abbrev pub code_base : BinaryAnnotation → Option ℕ
code_base (kinds.ChangeCodeOffsetBase base) = Some base
code_base a = None

-- the number of bytes by which the offset moves on
abbrev pub offset_change : BinaryAnnotation → Option ℕ
offset_change (kinds.ChangeCodeOffset offset) = Some offset
offset_change (kinds.ChangeCodeLength length) = Some length
offset_change (kinds.ChangeCodeOffsetAndLineOffset offset line) = Some offset
offset_change (kinds.ChangeCodeLengthAndCodeOffset length offset) = Some offset
offset_change a = None

-- the file that holds from here on
abbrev pub changed_file : BinaryAnnotation → Option FileIndex
changed_file (kinds.ChangeFile file) = Some file
changed_file a = None

-- the number that is added to the line modulo 2^32: a line back is 2^32 - 1 lines on
abbrev pub line_change : BinaryAnnotation → Option ℕ
line_change (kinds.ChangeLineOffset line) = Some (cast_unsigned w32 line)
line_change (kinds.ChangeCodeOffsetAndLineOffset offset line) = Some (cast_unsigned w32 line)
line_change a = None

-- the distance in lines from the first line to the last one
abbrev pub line_length : BinaryAnnotation → Option ℕ
line_length (kinds.ChangeLineEndDelta lines) = Some lines
line_length a = None

-- the kind of the rows; a number past 1 gives none
abbrev pub range_kind : BinaryAnnotation → Option LineInfoKind
range_kind (kinds.ChangeRangeKind kind) =
    if kind == 0 then Some made_of.Expression
    else (if kind == 1 then Some made_of.Statement else None)
range_kind a = None

-- the first column that holds from here on
abbrev pub first_column : BinaryAnnotation → Option ℕ
first_column (kinds.ChangeColumnStart column) = Some column
first_column a = None

-- the last column that holds from here on
abbrev pub last_column : BinaryAnnotation → Option ℕ
last_column (kinds.ChangeColumnEnd column) = Some column
last_column a = None

-- the number that is added to the last column modulo 2^32
abbrev pub column_change : BinaryAnnotation → Option ℕ
column_change (kinds.ChangeColumnEndDelta columns) = Some (cast_unsigned w32 columns)
column_change a = None

-- the length that an annotation gives its row
abbrev pub own_length : BinaryAnnotation → Option ℕ
own_length (kinds.ChangeCodeLengthAndCodeOffset length offset) = Some length
own_length a = None

-- the length that an annotation gives the row before it
abbrev pub given_length : BinaryAnnotation → Option ℕ
given_length (kinds.ChangeCodeLength length) = Some length
given_length a = None
