-- Binary annotations of inline sites (S_INLINESITE).
-- The opcodes are BinaryAnnotationOpcode of microsoft-pdb's cvinfo.h, as the pdb crate reads them.
use Rattle.std.specs.Prelude.{ℕ, ◌/◌, ◌%◌, ◌^◌, nat_le, ◌==◌, Bool, true, false, List, [], ◌∷◌}
use Rattle.std.specs.Prelude.{Option, None, Some, Ok, Err, if◌then◌else◌}
use Rattle.pdb_container.specs.Fault.{Fault, UnknownBinaryAnnotation, ◌>>=◌}
use Rattle.pdb_container.specs.Fields.{Reader}
use Rattle.pdb_container.specs.Listing.{Listing, ending, before, listing}
use Rattle.pdb_container.specs.RecordFields.{as_value}
use Rattle.pdb_symbol_records.specs.Numbers.{compressed_at, signed_of}
use Rattle.pdb_symbol_records.specs.declared.annotation.BinaryAnnotation.{BinaryAnnotation}
use Rattle.pdb_symbol_records.specs.declared.annotation.BinaryAnnotation.TheVariants as kinds
use Rattle.pdb_symbol_records.specs.declared.annotations.BinaryAnnotations.{BinaryAnnotations}

-- the bytes that spell binary annotations
abbrev pub annotation_bytes : BinaryAnnotations → List ℕ
annotation_bytes a = a.bytes.now

-- a binary annotation of one operand, by its opcode and that operand
abbrev pub with_operand : ℕ → ℕ → BinaryAnnotation
with_operand opcode n =
    if opcode == 1 then kinds.CodeOffset n
    else (if opcode == 2 then kinds.ChangeCodeOffsetBase n
    else (if opcode == 3 then kinds.ChangeCodeOffset n
    else (if opcode == 4 then kinds.ChangeCodeLength n
    else (if opcode == 5 then kinds.ChangeFile record { 0 = n }
    else (if opcode == 6 then kinds.ChangeLineOffset (signed_of n)
    else (if opcode == 7 then kinds.ChangeLineEndDelta n
    else (if opcode == 8 then kinds.ChangeRangeKind n
    else (if opcode == 9 then kinds.ChangeColumnStart n
    else (if opcode == 10 then kinds.ChangeColumnEndDelta (signed_of n)
    else (if opcode == 11 then kinds.ChangeCodeOffsetAndLineOffset (n % 2 ^ 4)
    (signed_of (n / 2 ^ 4))
    else kinds.ChangeColumnEnd n))))))))))

-- a binary annotation of one operand, after its opcode
unfoldable pub with_operand_at : ℕ → Reader BinaryAnnotation
with_operand_at opcode bytes = do
  operand ← compressed_at bytes
  Ok (with_operand opcode operand.0, operand.1)

-- the binary annotation of two operands, a length and then an offset, after its opcode
unfoldable pub with_length_at : Reader BinaryAnnotation
with_length_at bytes = do
  length ← compressed_at bytes
  offset ← compressed_at length.1
  Ok (kinds.ChangeCodeLengthAndCodeOffset length.0 offset.0, offset.1)

-- the annotation after an opcode that is no end
unfoldable pub behind_opcode : ℕ → Reader BinaryAnnotation
behind_opcode opcode bytes =
    if opcode == 12 then with_length_at bytes
    else (if nat_le opcode 13 then with_operand_at opcode bytes
    else Err (UnknownBinaryAnnotation opcode))

-- a binary annotation, or the end, which has opcode 0
unfoldable pub annotation_or_end : Reader (Option BinaryAnnotation)
annotation_or_end bytes = do
  opcode ← compressed_at bytes
  if opcode.0 == 0 then Ok (None, opcode.1) else as_value Some (behind_opcode opcode.0 opcode.1)

-- the values before the first end, whatever follows it
abbrev pub until_end : {A : Type 0} → Option Fault → List (Option A) → Listing A
until_end fault [] = ending fault
until_end fault (None ∷ others) = ending None
until_end fault (Some x ∷ others) = before x (until_end fault others)

-- the binary annotations that bytes spell, and the end of their list
unfoldable pub annotations_of : List ℕ → Listing BinaryAnnotation
annotations_of bytes = until_end (listing annotation_or_end bytes).fault
    (listing annotation_or_end bytes).items

-- whether an annotation gives a row
abbrev pub is_emitting : BinaryAnnotation → Bool
is_emitting (kinds.ChangeCodeOffset offset) = true
is_emitting (kinds.ChangeCodeOffsetAndLineOffset offset line) = true
is_emitting (kinds.ChangeCodeLengthAndCodeOffset length offset) = true
is_emitting a = false
