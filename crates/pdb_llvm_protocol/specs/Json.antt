-- The text of an answer in the style JSON.
use Rattle.std.specs.Prelude.{ℕ, Bool, ◌+◌, ◌/◌, ◌%◌, ◌==◌, nat_lt}
use Rattle.std.specs.Prelude.{if◌then◌else◌, List, [], ◌∷◌, ◌++◌, Option, None, Some, codes}
use Rattle.std.specs.List.{flat_map, repeat}
use Rattle.std.specs.Fmt.{decimal}
use Rattle.pdb_llvm_protocol.specs.ReportedFrames.{ReportedFrame}

-- the digit of a number below 16, in lower case
abbrev pub digit : ℕ → ℕ
digit n = if nat_lt n 10 then 48 + n else 87 + n

-- a control character, escaped by its number
abbrev pub control_text : ℕ → List ℕ
control_text b = codes "\\u00" ++ digit (b / 16) ∷ digit (b % 16) ∷ []

-- the text of a byte in a string: quotes, backslashes and control characters are escaped
abbrev pub escaped : ℕ → List ℕ
escaped b =
    if b == 34 then codes "\\\""
    else if b == 92 then codes "\\\\"
    else if b == 9 then codes "\\t"
    else if b == 10 then codes "\\n"
    else if b == 13 then codes "\\r"
    else if nat_lt b 32 then control_text b
    else b ∷ []

-- a string
unfoldable pub string_text : List ℕ → List ℕ
string_text bytes = 34 ∷ flat_map escaped bytes ++ 34 ∷ []

-- two blanks for each depth
abbrev pub indent : ℕ → List ℕ
indent depth = repeat depth (codes "  ")

-- the text before a member or an element at a depth: empty, or a line's end and its indent
abbrev pub gap : Bool → ℕ → List ℕ
gap pretty depth = if pretty then 10 ∷ indent depth else []

-- a member's name
unfoldable pub key : Bool → ℕ → List ℕ → List ℕ
key pretty depth name =
    gap pretty depth ++ 34 ∷ name ++ (if pretty then codes "\": " else codes "\":")

-- a member whose value is a string
unfoldable pub string_member : Bool → ℕ → List ℕ → List ℕ → List ℕ
string_member pretty depth name bytes = key pretty depth name ++ string_text bytes

-- a text that may be missing
abbrev pub text_or_none : Option (List ℕ) → List ℕ
text_or_none None = []
text_or_none (Some text) = text

-- a frame's column and discriminator, which isn't known, and its file
unfoldable pub place_members : Bool → ℕ → ReportedFrame → List ℕ
place_members p d f =
    key p d (codes "Column") ++ decimal f.column ++ codes ","
    ++ key p d (codes "Discriminator") ++ codes "0,"
    ++ string_member p d (codes "FileName") (text_or_none f.file) ++ codes ","

-- the name of a frame's function, and the frame's line
unfoldable pub function_members : Bool → ℕ → ReportedFrame → List ℕ
function_members p d f =
    string_member p d (codes "FunctionName") (text_or_none f.function) ++ codes ","
    ++ key p d (codes "Line") ++ decimal f.line ++ codes ","

-- the start of a frame's function, of which nothing is known
unfoldable pub start_members : Bool → ℕ → List ℕ
start_members p d =
    string_member p d (codes "StartAddress") [] ++ codes ","
    ++ string_member p d (codes "StartFileName") [] ++ codes ","
    ++ key p d (codes "StartLine") ++ codes "0"

-- a frame's object, which stands at a depth
unfoldable pub frame_object : Bool → ℕ → ReportedFrame → List ℕ
frame_object p d f =
    codes "{" ++ place_members p (d + 1) f ++ function_members p (d + 1) f
    ++ start_members p (d + 1) ++ gap p d ++ codes "}"

-- a frame after the first of an array
unfoldable pub next_frame : Bool → ℕ → ReportedFrame → List ℕ
next_frame p d f = codes "," ++ gap p d ++ frame_object p d f

-- the array of frames, which stands at a depth
unfoldable pub frames_array : Bool → ℕ → List ReportedFrame → List ℕ
frames_array p d [] = codes "[]"
frames_array p d (f ∷ fs) =
    codes "[" ++ gap p (d + 1) ++ frame_object p (d + 1) f
    ++ flat_map (next_frame p (d + 1)) fs ++ gap p d ++ codes "]"
