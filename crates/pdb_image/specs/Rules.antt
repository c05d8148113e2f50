-- The rules by which a frame is left: how the caller's stack pointer (the canonical frame address),
-- the return address and saved registers are found.
use Rattle.std.specs.Prelude.{ℕ, ◌+◌, ◌<◌, ◌^◌, max, ◌-ℤ◌, ℤ, pos, negsuc, Bool, true, false, List}
use Rattle.std.specs.Prelude.{[], ◌∷◌, map, nat_le, ◌==◌, if◌then◌else◌, Option, None, Some}
use Rattle.std.specs.Prelude.{IfSome, slice_index_or, slice_set, ◌||◌}
use Rattle.std.specs.Prelude.{◌≡◌, ◌≤◌, ◌-◌, ◌*◌, drop, length}
use Rattle.std.specs.Prelude.{unwrap_or}
use Rattle.std.specs.Option.{option_map}
use Rattle.std.specs.List.{filter, list_any, range_with_len}
use Rattle.pdb_image.specs.Codes.{is_machine_frame, is_machine_operation}
use Rattle.pdb_image.specs.declared.code.UnwindCode.{UnwindCode}
use Rattle.pdb_image.specs.declared.code.UnwindOperation.{UnwindOperation}
use Rattle.pdb_image.specs.declared.code.UnwindOperation.TheVariants.{Push, Allocate, SetFrame}
use Rattle.pdb_image.specs.declared.code.UnwindOperation.TheVariants.{Save, MachineFrame}
use Rattle.pdb_image.specs.declared.rules.Register.{Register}
use Rattle.pdb_image.specs.declared.rules.Register.TheVariants.{Cfa, ReturnAddress, General}
use Rattle.pdb_image.specs.declared.rules.Expression.{Expression}
use Rattle.pdb_image.specs.declared.rules.Rules.{Rules}
use Rattle.pdb_image.specs.declared.frame.Frame.{Frame}
use Rattle.pdb_image.specs.declared.frame.Saved.{Saved}
use Rattle.pdb_image.specs.declared.frame.Saved.TheVariants.{Below, Above}
use Rattle.pdb_image.specs.declared.frame.Steps.{Steps}
use Rattle.pdb_image.specs.declared.frame.Tail.{Tail}

-- ---- what the steps of a prolog have done; the last step stands first

-- the codes whose steps are done at an offset from the function's begin
abbrev pub done : ℕ → List UnwindCode → List UnwindCode
done offset codes = filter (λ code. nat_le code.offset offset) codes

-- the number of bytes by which a step lowers the stack pointer below the slot of the return address
abbrev pub growth_of : UnwindOperation → ℕ
growth_of (Push register) = 8
growth_of (Allocate size) = size
growth_of (SetFrame register offset) = 0
growth_of (Save register offset) = 0
growth_of (MachineFrame has_error_code) = if has_error_code then 8 else 0

-- the distance of the slot of the return address above the stack pointer, in bytes
abbrev pub depth : List UnwindCode → ℕ
depth [] = 0
depth (code ∷ before) = depth before + growth_of code.operation

-- the frame after a step at this depth below the slot: a step that sets the frame register sets it
-- so many bytes above the stack pointer; any other leaves the frame that there was before
abbrev pub frame_after : UnwindOperation → ℕ → Option Frame → Option Frame
frame_after (SetFrame register offset) low before =
    Some (record { register = register; offset = offset; low = low })
frame_after (Push register) low before = before
frame_after (Allocate size) low before = before
frame_after (Save register offset) low before = before
frame_after (MachineFrame has_error_code) low before = before

-- the frame that the last step set, if one did
abbrev pub frame_set : List UnwindCode → Option Frame
frame_set [] = None
frame_set (code ∷ before) = frame_after code.operation (depth before) (frame_set before)

-- The frame: its register, the register's distance above the frame's lowest address, and the
-- distance of this address below the slot of the return address. Without a frame register the frame
-- is the stack pointer's (register 4).
abbrev pub frame : List UnwindCode → Frame
frame steps = unwrap_or (frame_set steps) (record { register = 4; offset = 0; low = depth steps })

-- the slot of a saved register after a step at this depth, which saves it, or leaves it as before
abbrev pub saved_after : ℕ → UnwindOperation → ℕ → Option Saved → Option Saved
saved_after register (Push other) depth before =
    if other == register then Some (Below depth) else before
saved_after register (Save other offset) depth before =
    if other == register then Some (Above offset) else before
saved_after register (Allocate size) depth before = before
saved_after register (SetFrame other offset) depth before = before
saved_after register (MachineFrame has_error_code) depth before = before

-- the slot in which the last step that saved a register did so, if one did
abbrev pub saved : ℕ → List UnwindCode → Option Saved
saved register [] = None
saved register (code ∷ before) =
    saved_after register code.operation (depth (code ∷ before)) (saved register before)

-- the processor had pushed a machine frame
abbrev pub has_machine_frame : List UnwindCode → Bool
has_machine_frame steps = list_any is_machine_frame steps

-- the slots of the general registers, by their numbers
abbrev pub slots_of : List UnwindCode → List (Option Saved)
slots_of steps = map (λ register. saved register steps) (range_with_len 0 16)

-- The effect of steps: the depth, the frame that was set, whether there is a machine frame, and the
-- slots.
abbrev pub steps_of : List UnwindCode → Steps
steps_of steps = record {
  depth = depth steps;
  frame = frame_set steps;
  is_machine = has_machine_frame steps;
  slots = slots_of steps;
}

-- the slots after a step at this depth, which saves a register, or leaves them as before
abbrev pub slots_after : UnwindOperation → ℕ → List (Option Saved) → List (Option Saved)
slots_after (Push register) depth slots = slice_set slots register (Some (Below depth))
slots_after (Save register offset) depth slots = slice_set slots register (Some (Above offset))
slots_after (Allocate size) depth slots = slots
slots_after (SetFrame register offset) depth slots = slots
slots_after (MachineFrame has_error_code) depth slots = slots

-- the effect of steps and of one more
abbrev pub steps_after : UnwindOperation → Steps → Steps
steps_after operation before = record {
  depth = before.depth + growth_of operation;
  frame = frame_after operation before.depth before.frame;
  is_machine = is_machine_operation operation || before.is_machine;
  slots = slots_after operation (before.depth + growth_of operation) before.slots;
}

-- a place below the slot lies less than 2^48 bytes below it
abbrev pub IsShort : Saved → Type 0
IsShort (Below n) = n < 2 ^ 48
IsShort (Above n) = Unit {0}

-- so do those of all general registers
abbrev pub AreShort : List (Option Saved) → Type 0
AreShort slots = (k : ℕ) → k < 16 → IfSome (slice_index_or slots k None) IsShort

-- the last offset at which a step ends, or 0
abbrev pub last_offset : List UnwindCode → ℕ
last_offset [] = 0
last_offset (code ∷ codes) = max code.offset (last_offset codes)

-- The tail of codes: where it begins, and the effect of its steps. Each of its codes has offset 0.
abbrev pub IsTail : List UnwindCode → Tail → Type 0
IsTail codes tail =
    (tail.begin ≤ length codes) × (last_offset (drop tail.begin codes) ≡ 0)
    × (tail.steps ≡ steps_of (done 0 (drop tail.begin codes)))
    × (tail.steps.depth ≤ 2 ^ 32 * (length codes - tail.begin))

-- ---- expressions

-- the first number less the second, with its sign
abbrev pub difference : ℕ → ℕ → ℤ
difference up down = pos up -ℤ pos down

-- the sum of a register and a number
abbrev pub sum_of : Register → ℤ → Expression
sum_of base offset = record { base = base; offset = offset; is_read = false }

-- the eight bytes at the sum of a register and a number
abbrev pub read_at : Register → ℤ → Expression
read_at base offset = record { base = base; offset = offset; is_read = true }

-- The caller's stack pointer: it lies eight bytes above the slot of the return address. A machine
-- frame has it 24 bytes above the slot.
abbrev pub cfa_rule : Bool → Frame → Expression
cfa_rule is_machine f =
    if is_machine then read_at (General f.register) (difference (f.low + 24) f.offset)
    else sum_of (General f.register) (difference (f.low + 8) f.offset)

-- the return address, in its slot
abbrev pub return_rule : Bool → Frame → Expression
return_rule is_machine f =
    if is_machine then read_at (General f.register) (difference f.low f.offset)
    else read_at Cfa (negsuc 7)

-- A saved register. In a machine frame the frame's register finds it, since the caller's stack
-- pointer lies anywhere.
abbrev pub saved_rule : Bool → Frame → Saved → Expression
saved_rule is_machine f (Below depth) =
    if is_machine then read_at (General f.register) (difference f.low (f.offset + depth))
    else read_at Cfa (difference 0 (depth + 8))
saved_rule is_machine f (Above offset) =
    if is_machine then read_at (General f.register) (difference offset f.offset)
    else read_at Cfa (difference offset (f.low + 8))

-- the rule of a general register by the slots, if it was saved
abbrev pub slot_rule : Bool → Frame → List (Option Saved) → ℕ → Option Expression
slot_rule is_machine f slots register =
    option_map (saved_rule is_machine f) (slice_index_or slots register None)

-- the rule of a general register, if it was saved
abbrev pub register_rule : List UnwindCode → ℕ → Option Expression
register_rule steps register =
    option_map (saved_rule (has_machine_frame steps) (frame steps)) (saved register steps)

-- the rules after these steps
unfoldable pub rules_after : List UnwindCode → Rules
rules_after steps = record {
  cfa = cfa_rule (has_machine_frame steps) (frame steps);
  return_address = return_rule (has_machine_frame steps) (frame steps);
  saved = map (register_rule steps) (range_with_len 0 16);
}

-- the rules at an offset from a function's begin
abbrev pub rules_at : List UnwindCode → ℕ → Rules
rules_at codes offset = rules_after (done offset codes)

-- the rule of a register, if there is one
abbrev pub rule : Rules → Register → Option Expression
rule rules Cfa = Some rules.cfa
rule rules ReturnAddress = Some rules.return_address
rule rules (General number) = slice_index_or rules.saved number None
