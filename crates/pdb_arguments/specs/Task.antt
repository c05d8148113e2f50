-- The arguments of the program, and the task that they ask for.
use Rattle.std.specs.Prelude.{◌≡◌, ◌≢◌, ◌⊎◌, ⊤, ℕ, true, List, [], Option, Some, None, codes}
use Rattle.std.specs.Prelude.{Bool, false, bytes_eq, string_bytes, option_and_then}
use Rattle.std.specs.Option.{option_map_or}
use Rattle.clap.specs.Words.{App, IsAmong, Row, Rule, Text, fault_of, first_of, new_app, new_rule}
use Rattle.clap.specs.Words.{subcommand_of, with_rule, with_subcommand}
use Rattle.clap.specs.declared.builder.action.ArgAction.TheVariants.{SetTrue}
use Rattle.clap.specs.declared.error.kind.ErrorKind.{ErrorKind}
use Rattle.clap.specs.declared.error.kind.ErrorKind.TheVariants as kinds
use Rattle.pdb_engine.specs.Address.{address_of}
use Rattle.pdb_arguments.specs.declared.task.Task.{Task}
use Rattle.pdb_arguments.specs.declared.task.Task.TheVariants.{Frames, Sizes}
use Rattle.pdb_arguments.specs.declared.task.WordsFault.{WordsFault}
use Rattle.pdb_arguments.specs.declared.task.WordsFault.TheVariants as faults

-- an argument that is required after a subcommand's name
abbrev pub needed : List ℕ → Rule
needed name = record (new_rule name) { required = true }

-- a flag with a long name of its own
abbrev pub flagged : List ℕ → Rule
flagged name = record (new_rule name) { long = Some name; action = Some SetTrue }

-- `frames FILE`, with the flags `--demangle`, `--any-order` and `--json`
abbrev pub frames_app : App
frames_app = with_rule (with_rule (with_rule (with_rule (new_app (codes "frames"))
    (needed (codes "FILE"))) (flagged (codes "demangle"))) (flagged (codes "any-order")))
    (flagged (codes "json"))

-- `sizes FILE START END`
abbrev pub range_app : App
range_app = with_rule (with_rule (with_rule (new_app (codes "sizes")) (needed (codes "FILE")))
    (needed (codes "START"))) (needed (codes "END"))

-- `sizes FILE START END`, with the flags `--by-file`, `--demangle` and `--any-order`
abbrev pub sizes_app : App
sizes_app = with_rule (with_rule (with_rule range_app (flagged (codes "by-file")))
    (flagged (codes "demangle"))) (flagged (codes "any-order"))

-- a subcommand is required, no argument is the program's name, and there is a version to ask for
abbrev pub bare_app : App
bare_app = let app = new_app (codes "pdb_symbolizer") in record app {
  top = record app.top {
    no_binary_name = true;
    subcommand_required = true;
    has_version = true;
  };
}

-- one of the two subcommands
abbrev pub program_app : App
program_app = with_subcommand (with_subcommand bare_app frames_app.top) sizes_app.top

-- a subcommand's name, and the values after it
abbrev pub Entered : Type 0
Entered = Text × List Row

-- the subcommand that the arguments enter
abbrev pub entered_by : List Text → Option Entered
entered_by words = subcommand_of program_app words

-- the address that the value of this name stands for, if there is one
abbrev pub address_at : Text → List Row → Option ℕ
address_at name rows = option_and_then address_of (first_of name rows)

-- whether the flag of this name was given: its value is `true` then, and otherwise `false`
abbrev pub flag_at : Text → List Row → Bool
flag_at name rows =
    option_map_or (λ value. bytes_eq value (codes "true")) (first_of name rows) false

-- the task has the subcommand's name, its FILE, the addresses at START and END, and the flags
abbrev pub IsTask : Task → Option Entered → Type 0
IsTask task None = ⊥
IsTask (Frames file demangle any_order json) (Some entered) = (entered.0 ≡ codes "frames")
    × (first_of (codes "FILE") entered.1 ≡ Some (string_bytes file))
    × (demangle ≡ flag_at (codes "demangle") entered.1)
    × (any_order ≡ flag_at (codes "any-order") entered.1)
    × (json ≡ flag_at (codes "json") entered.1)
IsTask (Sizes file start end by_file demangle any_order) (Some entered) =
    (entered.0 ≡ codes "sizes") × (first_of (codes "FILE") entered.1 ≡ Some (string_bytes file))
    × (address_at (codes "START") entered.1 ≡ Some start)
    × (address_at (codes "END") entered.1 ≡ Some end)
    × (by_file ≡ flag_at (codes "by-file") entered.1)
    × (demangle ≡ flag_at (codes "demangle") entered.1)
    × (any_order ≡ flag_at (codes "any-order") entered.1)

-- `sizes` was entered, and START or END is no address
abbrev pub LacksAddress : Option Entered → Type 0
LacksAddress None = ⊥
LacksAddress (Some entered) = (entered.0 ≡ codes "sizes")
    × ((address_at (codes "START") entered.1 ≡ None) ⊎ (address_at (codes "END") entered.1 ≡ None))

-- neither subcommand was entered with a FILE
abbrev pub LacksTask : Option Entered → Type 0
LacksTask None = ⊤
LacksTask (Some entered) = (first_of (codes "FILE") entered.1 ≡ None)
    ⊎ ((entered.0 ≢ codes "frames") × (entered.0 ≢ codes "sizes"))

-- the fault that is reported of an error in reading the arguments: help and the version as such
abbrev pub IsToldOf : ErrorKind → WordsFault → Type 0
IsToldOf kind faults.NotAnAddress = ⊥
IsToldOf kind (faults.Words text) = (kind ≢ kinds.OutOfMemory)
    × ((kind ≢ kinds.DisplayHelp) × (kind ≢ kinds.DisplayVersion))
IsToldOf kind (faults.Help text) = (kind ≡ kinds.DisplayHelp) ⊎ (kind ≡ kinds.DisplayVersion)
IsToldOf kind faults.OutOfMemory = ⊤

-- the fault that is reported for what was entered
abbrev pub IsToldOfEntered : Option Entered → WordsFault → Type 0
IsToldOfEntered entered faults.NotAnAddress = LacksAddress entered
IsToldOfEntered entered (faults.Words text) = LacksTask entered
IsToldOfEntered entered (faults.Help text) = ⊥
IsToldOfEntered entered faults.OutOfMemory = ⊤

-- the arguments are taken, and one of the subcommands is entered
abbrev pub IsTaken : List Text → Type 0
IsTaken words = fault_of program_app words ≡ []

-- the arguments aren't taken, for an error that is reported so
abbrev pub IsRefusedSo : List Text → WordsFault → Type 0
IsRefusedSo words fault = (kind : ErrorKind) × IsAmong kind (fault_of program_app words)
    × IsToldOf kind fault

-- the arguments are taken, and what they enter is reported so
abbrev pub IsTakenSo : List Text → WordsFault → Type 0
IsTakenSo words fault = IsTaken words × IsToldOfEntered (entered_by words) fault

-- the fault of arguments that give no task: they aren't taken, or are taken and FILE, START or END
-- don't do; memory may run out for any
abbrev pub IsFaultOf : List Text → WordsFault → Type 0
IsFaultOf words fault = (fault ≡ faults.OutOfMemory)
    ⊎ (IsRefusedSo words fault ⊎ IsTakenSo words fault)

-- the arguments are taken, and a task is what they enter
abbrev pub IsOfTask : List Text → Type 0
IsOfTask words = IsTaken words × ((task : Task) × IsTask task (entered_by words))
