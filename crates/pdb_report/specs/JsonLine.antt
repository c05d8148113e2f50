-- The line of JSON for a line of the input.
use Rattle.std.specs.Prelude.{ℕ, List, [], ◌∷◌, ◌++◌, take, codes}
use Rattle.std.specs.Prelude.{Option, None, Some, Result, Ok, Err}
use Rattle.std.specs.Fmt.{decimal}
use Rattle.std.specs.List.{flat_map}
use Rattle.std.specs.Str.Lossy.{utf8_lossy}
use Rattle.json_strings.specs.Json.{string_text}
use Rattle.pdb_engine.specs.Address.{address_of}
use Rattle.pdb_owners.specs.Frames.{Frame, FunctionFrames}
use Rattle.pdb_owners.specs.declared.frames.FrameRow.{FrameRow}
use Rattle.pdb_report.specs.AddressText.{AddressAnswers, eight_digits}
use Rattle.pdb_resolving.specs.Fault.{Fault}

-- a text that may be missing
abbrev pub string_or_null : Option (List ℕ) → List ℕ
string_or_null None = codes "null"
string_or_null (Some text) = string_text text

-- a number that may be missing, in decimal
abbrev pub number_or_null : Option ℕ → List ℕ
number_or_null None = codes "null"
number_or_null (Some n) = decimal n

-- an address, as a string
unfoldable pub address_string : ℕ → List ℕ
address_string a = codes "\"0x" ++ eight_digits a ++ codes "\""

-- a row: its start, and its length in bytes; or that there is none
abbrev pub row_or_null : Option FrameRow → List ℕ
row_or_null None = codes "null"
row_or_null (Some row) =
    codes "{\"start\":" ++ address_string row.start_rva
    ++ codes ",\"length\":" ++ number_or_null row.length ++ codes "}"

-- a frame's members: its function's name and the file
unfoldable pub name_members : Frame → List ℕ
name_members f =
    codes "\"function\":" ++ string_or_null f.function
    ++ codes ",\"file\":" ++ string_or_null f.file

-- and the line with its row
unfoldable pub line_members : Frame → List ℕ
line_members f =
    codes ",\"line\":" ++ number_or_null f.line ++ codes ",\"row\":" ++ row_or_null f.row

-- a frame
unfoldable pub json_frame : Frame → List ℕ
json_frame f = 123 ∷ name_members f ++ line_members f ++ 125 ∷ []

-- a frame after the first
abbrev pub next_frame : Frame → List ℕ
next_frame f = 44 ∷ json_frame f

-- frames, with a comma between two
abbrev pub json_frames : List Frame → List ℕ
json_frames [] = []
json_frames (f ∷ fs) = json_frame f ++ flat_map next_frame fs

-- the member that says that an answer can't be read
abbrev pub unreadable_member : List ℕ
unreadable_member = codes "\"error\":\"unreadable\""

-- an answer's frames, of which there are none where there is no answer; or that it can't be read
abbrev pub json_answer : Result (Option FunctionFrames) Fault → List ℕ
json_answer (Ok None) = codes "\"frames\":[]"
json_answer (Ok (Some f)) = codes "\"frames\":[" ++ json_frames f.frames ++ codes "]"
json_answer (Err e) = unreadable_member

-- the line of an address, with what is said of it
unfoldable pub address_object : ℕ → List ℕ → List ℕ
address_object a answer =
    codes "{\"address\":" ++ address_string a ++ codes "," ++ answer ++ codes "}\n"

-- the line of an address, with what the answers say of it
abbrev pub answered_object : AddressAnswers → ℕ → List ℕ
answered_object answer a = address_object a (json_answer (answer a))

-- the text for a line that isn't an address: its first 4,352 bytes, where U+FFFD stands for what
-- isn't UTF-8
unfoldable pub json_other : List ℕ → List ℕ
json_other line =
    codes "{\"line\":" ++ string_text (utf8_lossy (take 4352 line))
    ++ codes ",\"error\":\"not an address\"}\n"

-- the text for a line that is an address, or isn't one, from the answers
abbrev pub json_at : AddressAnswers → List ℕ → Option ℕ → List ℕ
json_at answer line None = json_other line
json_at answer line (Some a) = answered_object answer a

-- the text that is written for a line of the input
unfoldable pub json_line : AddressAnswers → List ℕ → List ℕ
json_line answer line = json_at answer line (address_of line)
