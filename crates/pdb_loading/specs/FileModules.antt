-- Modules of a file that are read when they are asked for: the stored information of each.
use Rattle.std.specs.Prelude.{◌≡◌, ℕ, List, [], ◌∷◌, map, Option, None, Result, Ok}
use Rattle.std.specs.List.{All}
use Rattle.pdb_container.specs.Fault.{Fault}
use Rattle.pdb_loading.specs.declared.file_reader.ModuleParts.{ModuleParts}
use Rattle.pdb_loading.specs.declared.file_modules.ModuleSlot.{ModuleSlot}
use Rattle.pdb_loading.specs.Held.{kept_infos}
use Rattle.pdb_loading.specs.ModuleInfos.{KeptInfo, kept_info}
use Rattle.pdb_symbols_modules.specs.DatabaseCalls.{module_info}
use Rattle.pdb_symbols_modules.specs.ModuleStream.{ModuleStream}
use Rattle.pdb_symbols_modules.specs.Modules.{Module}
use Rattle.pdb_symbols_modules.specs.Streams.{Streams, streams}

-- the number of a module's stream, and the sizes of its parts
abbrev pub parts_of : Module → ModuleParts
parts_of m =
    record {
      stream = m.stream;
      symbols_size = m.symbols_size;
      c11_lines_size = m.c11_lines_size;
      c13_lines_size = m.c13_lines_size;
    }

-- the entry of a module without its names, on which no stored information depends
abbrev pub entry_of : ModuleParts → Module
entry_of p =
    record {
      stream = p.stream;
      symbols_size = p.symbols_size;
      c11_lines_size = p.c11_lines_size;
      c13_lines_size = p.c13_lines_size;
      module_name = [];
      object_file_name = [];
    }

-- the stored information of a module of a file
abbrev pub kept_by : List ℕ → ModuleParts → KeptInfo
kept_by file p = kept_info (module_info (streams file) (entry_of p))

-- a module and its file as one list of numbers
abbrev pub tag_of : ModuleParts → List ℕ → List ℕ
tag_of p file = p.stream ∷ p.symbols_size ∷ p.c11_lines_size ∷ p.c13_lines_size ∷ file

-- the stored information of the module that these numbers tag; no stream where they are fewer than
-- four
abbrev pub kept_by_tag : List ℕ → KeptInfo
kept_by_tag (stream ∷ symbols_size ∷ c11_lines_size ∷ c13_lines_size ∷ file) =
    kept_by file
    record {
      stream = stream;
      symbols_size = symbols_size;
      c11_lines_size = c11_lines_size;
      c13_lines_size = c13_lines_size;
    }
kept_by_tag other = Ok None

-- A slot's tag is its module's numbers, and then the file.
abbrev pub IsOfFile : List ℕ → ModuleSlot → Type 0
IsOfFile file slot = slot.kept.tag ≡ tag_of slot.parts file

-- the stored information of the modules of these slots, once they are asked for
abbrev pub kept_in : List ℕ → List ModuleSlot → List KeptInfo
kept_in file slots = map (λ slot. kept_by file slot.parts) slots

-- a module's own stream in a file, from the numbers by which it is read
abbrev pub module_by : ModuleParts → Streams → Result (Option ModuleStream) Fault
module_by p s = module_info s (entry_of p)

-- slots are of a file, each with the stored information of a module in its place
abbrev pub AreSlotsOf : List ℕ → List Module → List ModuleSlot → Type 0
AreSlotsOf file modules slots =
    All (IsOfFile file) slots × (kept_in file slots ≡ kept_infos (streams file) modules)
