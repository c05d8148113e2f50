-- The file of an address, where it may change, and what is counted by file.
use Rattle.std.specs.Prelude.{ℕ, Bool, ◌==◌, ◌||◌, List, [], ◌∷◌, Option, None, Some}
use Rattle.std.specs.Prelude.{Result, Ok, Err, option_and_then}
use Rattle.std.specs.List.{list_any}
use Rattle.pdb_addresses.specs.Places.{internal_place}
use Rattle.pdb_addresses.specs.declared.internal_section_offset.PdbInternalSectionOffset.{
  PdbInternalSectionOffset,
}
use Rattle.pdb_frames.specs.Choice.{Parts, Chosen, chosen, held_at, start_of}
use Rattle.pdb_container.specs.Fault as container
use Rattle.pdb_container.specs.StringTable.{text_in}
use Rattle.pdb_contributions.specs.MergedContributions.{holder}
use Rattle.pdb_contributions.specs.declared.contribution.ModuleSectionContribution.{
  ModuleSectionContribution,
}
use Rattle.pdb_frames.specs.FramesAt.{frames_if_held}
use Rattle.pdb_frames.specs.Runs.{is_bound}
use Rattle.pdb_frames.specs.Scopes.{Scope}
use Rattle.pdb_owners.specs.Databases.{Database, Keyed}
use Rattle.pdb_owners.specs.FileAnswers.{FileAnswer, Nothing, Unreadable, NoFile, File}
use Rattle.pdb_owners.specs.Frames.{Frame, FunctionFrames}
use Rattle.pdb_owners.specs.declared.file_key.FileKey.{FileKey}
use Rattle.pdb_owners.specs.declared.file_key.FileKey.TheVariants as keys
use Rattle.pdb_known_modules.specs.KnownModules.{ModuleData, ExtendedModule, module_data}
use Rattle.pdb_known_modules.specs.KnownModules.{procedures_in, extended_of}
use Rattle.pdb_lines.specs.Checksums as checksums
use Rattle.pdb_lines.specs.LinesSubsections.{Program}
use Rattle.pdb_module_data.specs.FunctionLine.{function_rows, if_read, row_starts}
use Rattle.pdb_module_data.specs.declared.function_rows.LineRow.{LineRow}
use Rattle.pdb_resolving.specs.Fault.{Fault}

-- ---- the file of an answer

-- a file that may be known
abbrev pub file_or_none : Option (List ℕ) → FileAnswer
file_or_none None = NoFile
file_or_none (Some name) = File name

-- the file of the last frame, which is the function's
abbrev pub last_file : List Frame → FileAnswer
last_file [] = NoFile
last_file (f ∷ []) = file_or_none f.file
last_file (f ∷ g ∷ frames) = last_file (g ∷ frames)

-- the file of an answer
abbrev pub file_of : Result (Option FunctionFrames) Fault → FileAnswer
file_of (Err e) = Unreadable
file_of (Ok None) = Nothing
file_of (Ok (Some f)) = last_file f.frames

-- the file of a place
abbrev pub file_here : Parts → (ℕ → Scope) → PdbInternalSectionOffset → FileAnswer
file_here p scope place = file_of (frames_if_held p scope (held_at p (Some place)))

-- a file as it is counted: nothing isn't counted
abbrev pub if_any : FileAnswer → Option FileAnswer
if_any Nothing = None
if_any Unreadable = Some Unreadable
if_any NoFile = Some NoFile
if_any (File name) = Some (File name)

-- ---- where the file may change

-- the starts of the rows of a chosen function's subsection; none where they can't be read
abbrev pub starts_read : Result (List LineRow) container.Fault → List ℕ
starts_read (Ok rows) = row_starts rows
starts_read (Err e) = []

-- the same from its module's line program
abbrev pub starts_in_extended : Chosen → Result ExtendedModule container.Fault → List ℕ
starts_in_extended c (Ok extended) = starts_read (function_rows extended.program (start_of c))
starts_in_extended c (Err e) = []

-- the same from its module's data
abbrev pub starts_in : Option ModuleData → Chosen → List ℕ
starts_in None c = []
starts_in (Some known) c = starts_in_extended c (extended_of known.stream)

-- the same from the function that is chosen, if one is
abbrev pub starts_if_chosen : Option ModuleData → Option Chosen → List ℕ
starts_if_chosen known None = []
starts_if_chosen known (Some c) = starts_in known c

-- the starts of the rows of the function chosen at a place, from the contribution that holds it
abbrev pub starts_by : Parts → (ℕ → Scope) → PdbInternalSectionOffset
    → Option ModuleSectionContribution → List ℕ
starts_by p scope place None = []
starts_by p scope place (Some c) =
    let known = module_data (scope c.module_index).own in
    starts_if_chosen known (chosen p (procedures_in known) c place)

-- rows count where there are frames alone
abbrev pub starts_if_frames : FileAnswer → List ℕ → List ℕ
starts_if_frames Nothing starts = []
starts_if_frames Unreadable starts = []
starts_if_frames NoFile starts = starts
starts_if_frames (File name) starts = starts

-- the offsets at which the file may change within a function: rows of the function begin there
abbrev pub starts_here : Parts → (ℕ → Scope) → PdbInternalSectionOffset → List ℕ
starts_here p scope place =
    starts_if_frames (file_here p scope place)
    (starts_by p scope place (holder p.contributions place))

-- the file may change at a place: the function may, or one of its rows begins there
abbrev pub is_file_bound : Parts → (ℕ → Scope) → PdbInternalSectionOffset → Bool
is_file_bound p scope place =
    is_bound p scope place || list_any (λ start. place.offset == start) (starts_here p scope place)

-- the file of each place, and whether it may change there
abbrev pub files_of : Parts → (ℕ → Scope) → Database FileAnswer
files_of p scope = record {
  answer = λ place. if_any (file_here p scope (internal_place place));
  is_bound = λ place. is_file_bound p scope (internal_place place);
}

-- ---- keys of files

-- the file with a name at an offset in the string table; not known where there is no table or no
-- such name
abbrev pub file_named : Parts → ℕ → FileAnswer
file_named p offset =
    file_or_none (option_and_then (λ names. if_read (text_in names offset)) p.names)

-- the file that a key stands for
abbrev pub file_by : Parts → FileKey → Option FileAnswer
file_by p keys.Unreadable = Some Unreadable
file_by p keys.NoFile = Some NoFile
file_by p (keys.Name offset) = Some (file_named p offset)

-- the files at places, by keys
abbrev pub files_keyed : Parts → (ℕ → Scope) → Keyed FileKey FileAnswer
files_keyed p scope = record { answer_of = file_by p; places = files_of p scope }

-- the key of an entry among a module's checksums; no file is known where it can't be read
abbrev pub entry_key : Result checksums.File container.Fault → FileKey
entry_key (Ok file) = keys.Name file.name
entry_key (Err e) = keys.NoFile

-- the key of a row's file, from its module's line program; no file is known without a row
abbrev pub row_key : Program → Option LineRow → FileKey
row_key program None = keys.NoFile
row_key program (Some row) = entry_key (checksums.file_in program.files (row.file_index).0)
