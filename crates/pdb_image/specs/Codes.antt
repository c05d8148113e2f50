-- The unwind codes of UNWIND_INFO, versions 1 and 2: what the steps of a prolog did.
-- The layout is that of Microsoft's page x64 Exception Handling; version 2 also has epilog codes.
use Rattle.std.specs.Prelude.{◌≡◌, ◌≤◌, ◌⊎◌, ℕ, zero, suc, ◌+◌, ◌-◌, ◌*◌, ◌/◌, ◌%◌, ◌&&◌, ◌||◌}
use Rattle.std.specs.Prelude.{Bool, true, false, not, List, [], ◌∷◌, ◌++◌, length, take, drop}
use Rattle.std.specs.Prelude.{slice_index, nat_le, ◌==◌}
use Rattle.std.specs.Prelude.{if◌then◌else◌, Option, None, Some, Result, Ok, Err, ok_or}
use Rattle.std.specs.List.{list_any}
use Rattle.pdb_container.specs.Container.{half_at, word_at}
use Rattle.pdb_container.specs.Fault.{◌>>=◌, guard, refuse}
use Rattle.pdb_image.specs.Image.{Image}
use Rattle.pdb_image.specs.Tables.{bytes_at}
use Rattle.pdb_image.specs.declared.code.UnwindCode.{UnwindCode}
use Rattle.pdb_image.specs.declared.code.UnwindOperation.{UnwindOperation}
use Rattle.pdb_image.specs.declared.code.UnwindOperation.TheVariants as operations
use Rattle.pdb_image.specs.declared.fault.UnwindFault.{UnwindFault}
use Rattle.pdb_image.specs.declared.fault.UnwindFault.TheVariants as faults

-- ---- the codes of one table

-- The number of slots, of two bytes each, that a code takes, from its operation's number and its
-- information: none is known of other operations, and of an allocation and a machine frame whose
-- information is neither 0 nor 1.
abbrev pub slots_of : ℕ → ℕ → Option ℕ
slots_of op info =
    if op == 0 || (op == 2) || (op == 3) || (op == 10 && nat_le info 1) then Some 1
    else if op == 4 || (op == 6) || (op == 8) || (op == 1 && (info == 0)) then Some 2
    else if op == 5 || (op == 7) || (op == 9) || (op == 1 && (info == 1)) then Some 3
    else None

-- the operation of a code of one slot; the frame byte has the register's number and its offset by
-- 16
abbrev pub one_slot : ℕ → ℕ → ℕ → UnwindOperation
one_slot frame op info =
    if op == 0 then operations.Push info
    else if op == 2 then operations.Allocate (info * 8 + 8)
    else if op == 3 then operations.SetFrame (frame % 16) (frame / 16 * 16)
    else operations.MachineFrame (info == 1)

-- The operation of a code of two slots, from its operand; epilogs and saved vector registers are no
-- step.
abbrev pub two_slots : ℕ → ℕ → ℕ → Option UnwindOperation
two_slots op info operand =
    if op == 1 then Some (operations.Allocate (operand * 8))
    else if op == 4 then Some (operations.Save info (operand * 8)) else None

-- The operation of a code of three slots, from its operand; spare codes and saved vector registers
-- are no step.
abbrev pub three_slots : ℕ → ℕ → ℕ → Option UnwindOperation
three_slots op info operand =
    if op == 1 then Some (operations.Allocate operand)
    else if op == 5 then Some (operations.Save info operand) else None

-- the operation of a code of so many slots, if it is a step: its operand lies in the bytes after
-- the first slot
abbrev pub operation_of : ℕ → ℕ → ℕ → List ℕ → Option UnwindOperation
operation_of frame kind slots operands =
    if slots == 1 then Some (one_slot frame (kind % 16) (kind / 16))
    else if slots == 2 then two_slots (kind % 16) (kind / 16) (half_at operands 0)
    else three_slots (kind % 16) (kind / 16) (word_at operands 0)

-- the code at an offset, if it is a step
abbrev pub code_at : ℕ → Option UnwindOperation → List UnwindCode
code_at offset None = []
code_at offset (Some operation) = record { offset = offset; operation = operation } ∷ []

-- The codes of a table, the last step first. The first slot of a code has its offset in the prolog,
-- and its operation's number and information, of four bits each; the slots after that, of which so
-- many are left of the code before, have its operands. Codes of a parent count as steps at offset
-- 0.
unfoldable pub codes_in : Bool → ℕ → ℕ → List ℕ → Result (List UnwindCode) UnwindFault
codes_in of_parent frame zero [] = Ok []
codes_in of_parent frame (suc left) [] = Err faults.CutCode
codes_in of_parent frame left (b ∷ []) = Err faults.CutCode
codes_in of_parent frame (suc left) (b ∷ c ∷ bytes) = codes_in of_parent frame left bytes
codes_in of_parent frame zero (offset ∷ kind ∷ bytes) = do
  slots ← ok_or (slots_of (kind % 16) (kind / 16)) (faults.UnknownCode kind)
  before ← codes_in of_parent frame (slots - 1) bytes
  Ok (code_at (if of_parent then 0 else offset) (operation_of frame kind slots bytes) ++ before)

-- ---- a table and its parents

-- One table: its codes, and where the unwind information of its parent lies, if it has one.
pub record Table : Type 0 where
  pub codes : List UnwindCode
  pub parent : Option ℕ

-- an address is odd: less 1, it is that of another entry of the exception directory
abbrev pub is_pointer : ℕ → Bool
is_pointer info = info % 2 == 1

-- the address of the unwind information of the entry at an address
unfoldable pub info_of_entry : Image → ℕ → Result ℕ UnwindFault
info_of_entry image address = do
  entry ← ok_or (bytes_at image address 12) (faults.NotInFile address)
  Ok (word_at entry 8)

-- The parent's unwind information: where the flag 4 of the first byte, after three bits of the
-- version, says that there is one, its entry lies after the slots, at the next even one.
unfoldable pub parent_of : Image → List ℕ → ℕ → Result (Option ℕ) UnwindFault
parent_of image header info =
    if slice_index header 0 / 32 % 2 == 1
    then (do
      parent ← info_of_entry image
          (info + 4 + 2 * (slice_index header 2 + slice_index header 2 % 2))
      Ok (Some parent))
    else Ok None

-- The first four bytes of unwind information: a byte of version (1 or 2) and flags, the size of the
-- prolog, how many slots there are, and the frame register with its offset.
unfoldable pub header_of : Image → ℕ → Result (List ℕ) UnwindFault
header_of image info = do
  header ← ok_or (bytes_at image info 4) (faults.NotInFile info)
  known ← guard (slice_index header 0 % 8 == 1 || (slice_index header 0 % 8 == 2))
      (faults.UnknownVersion (slice_index header 0 % 8))
  Ok header

-- the bytes of the slots, which lie after these four
unfoldable pub slots_at : Image → List ℕ → ℕ → Result (List ℕ) UnwindFault
slots_at image header info =
    ok_or (bytes_at image (info + 4) (2 * slice_index header 2)) (faults.NotInFile (info + 4))

-- a table of these codes, and with this parent
unfoldable pub table_in : Result (List UnwindCode) UnwindFault → Result (Option ℕ) UnwindFault
    → Result Table UnwindFault
table_in codes parent = codes >>= λ xs. parent >>= λ p. Ok (record { codes = xs; parent = p })

-- a table without codes, with this parent
unfoldable pub table_to : Result ℕ UnwindFault → Result Table UnwindFault
table_to parent = parent >>= λ p. Ok (record { codes = []; parent = Some p })

-- the table at an address
unfoldable pub table_of : Image → Bool → ℕ → Result Table UnwindFault
table_of image of_parent info = do
  header ← header_of image info
  bytes ← slots_at image header info
  table_in (codes_in of_parent (slice_index header 3) 0 bytes) (parent_of image header info)

-- the table at an address; a pointer has no codes, and what it points to in place of a parent
unfoldable pub table_at : Image → Bool → ℕ → Result Table UnwindFault
table_at image of_parent info =
    if is_pointer info then table_to (info_of_entry image (info - 1))
    else table_of image of_parent info

-- the codes of a table, and after them those of its parent, if it has one
abbrev pub with_parent : List UnwindCode → Option ℕ
    → (ℕ → Result (List UnwindCode) UnwindFault) → Result (List UnwindCode) UnwindFault
with_parent codes None of = Ok codes
with_parent codes (Some parent) of = of parent >>= λ others. Ok (codes ++ others)

-- The codes of at most so many tables, each table after the one whose parent it is; a pointer
-- counts as a table.
unfoldable pub chain : Image → ℕ → Bool → ℕ → Result (List UnwindCode) UnwindFault
chain image zero of_parent info = Err faults.TooManyParents
chain image (suc left) of_parent info = do
  table ← table_at image of_parent info
  with_parent table.codes table.parent (chain image left (of_parent || not (is_pointer info)))

abbrev pub is_machine_operation : UnwindOperation → Bool
is_machine_operation (operations.MachineFrame has_error_code) = true
is_machine_operation (operations.Push register) = false
is_machine_operation (operations.Allocate size) = false
is_machine_operation (operations.SetFrame register offset) = false
is_machine_operation (operations.Save register offset) = false

-- a code says that the processor had pushed a machine frame
abbrev pub is_machine_frame : UnwindCode → Bool
is_machine_frame code = is_machine_operation code.operation

-- The unwind codes of the function whose unwind information lies at an address: its own, its
-- parent's after them, and so on, at most 33 tables, in each one the last step first. A machine
-- frame is pushed before any other step.
unfoldable pub codes_of : Image → ℕ → Result (List UnwindCode) UnwindFault
codes_of image info = do
  codes ← chain image 33 false info
  first ← refuse (list_any is_machine_frame (take (length codes - 1) codes)) faults.LateMachineFrame
  Ok codes

-- codes that a reading gives, after others
abbrev pub behind : List UnwindCode → Result (List UnwindCode) UnwindFault
    → Result (List UnwindCode) UnwindFault
behind codes reading = reading >>= λ others. Ok (codes ++ others)

-- The code that bytes begin with takes so many of them, at least its slot. With it and those behind
-- it codes are what others before it are with those of all bytes.
abbrev pub TakesCode : Bool → ℕ → List ℕ → List UnwindCode → List UnwindCode → ℕ → Type 0
TakesCode of_parent frame bytes old new size =
    (2 ≤ size) × (size ≤ length bytes)
    × (behind new (codes_in of_parent frame 0 (drop size bytes))
    ≡ behind old (codes_in of_parent frame 0 bytes))

-- the codes of bytes can't be read, unless memory was short
abbrev pub RefusesCodes : Bool → ℕ → List ℕ → UnwindFault → Type 0
RefusesCodes of_parent frame bytes e =
    (e ≡ faults.OutOfMemory) ⊎ (codes_in of_parent frame 0 bytes ≡ Err e)

-- a table that a reading gives, its codes after others

abbrev pub table_behind : List UnwindCode → Result Table UnwindFault → Result Table UnwindFault
table_behind codes reading =
    reading >>= λ table. Ok (record { codes = codes ++ table.codes; parent = table.parent })

-- A call returned what a reading gives, seen by view, unless memory was short.
abbrev pub Gives : {X Y : Type 0} → (X → Y) → Result X UnwindFault → Result Y UnwindFault → Type 0
Gives view (Ok x) reading = reading ≡ Ok (view x)
Gives view (Err e) reading = (e ≡ faults.OutOfMemory) ⊎ (reading ≡ Err e)

-- Codes were appended, and a parent returned, as a reading gives a table, unless memory was short.
abbrev pub GivesTable : List UnwindCode → List UnwindCode → Result (Option ℕ) UnwindFault
    → Result Table UnwindFault → Type 0
GivesTable old new result reading =
    Gives (λ parent. record { codes = new; parent = parent }) result (table_behind old reading)
