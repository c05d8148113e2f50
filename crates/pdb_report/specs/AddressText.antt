-- The text of an answer, and of a line of the input.
use Rattle.std.specs.Prelude.{ℕ, ◌++◌, List, [], ◌∷◌, Option, None, Some, Result, Ok, Err, codes}
use Rattle.std.specs.List.{flat_map}
use Rattle.std.specs.Fmt.{decimal}
use Rattle.pdb_resolving.specs.Fault.{Fault}
use Rattle.pdb_owners.specs.Frames.{Frame, FunctionFrames}
use Rattle.pdb_owners.specs.declared.frames.FrameRow.{FrameRow}
pub use Rattle.pdb_owners.specs.Texts.{text_or, eight_digits}
use Rattle.pdb_engine.specs.Address.{address_of}

-- a number that may be missing, in decimal
abbrev pub number_text : Option ℕ → List ℕ
number_text None = codes "??"
number_text (Some n) = decimal n

-- a row: its start, and its length in bytes; or that there is none
abbrev pub row_text : Option FrameRow → List ℕ
row_text None = codes " @??"
row_text (Some row) =
    codes " @0x" ++ eight_digits row.start_rva ++ codes "+" ++ number_text row.length

-- a frame's line
abbrev pub frame_text : Frame → List ℕ
frame_text f =
    codes "  " ++ text_or f.function
    ++ codes " at " ++ text_or f.file ++ codes ":" ++ number_text f.line
    ++ row_text f.row ++ 10 ∷ []

-- the lines of an answer: one for each frame, or the line for no answer, or for an answer that
-- can't be read
unfoldable pub answer_text : Result (Option FunctionFrames) Fault → List ℕ
answer_text (Ok None) = codes "  ??\n"
answer_text (Ok (Some f)) = flat_map frame_text f.frames
answer_text (Err e) = codes "  unreadable\n"

-- the lines of an address: its own, and the lines of its answer
abbrev pub address_text : ℕ → Result (Option FunctionFrames) Fault → List ℕ
address_text a answer = codes "0x" ++ eight_digits a ++ 10 ∷ answer_text answer

-- the answers for addresses
abbrev pub AddressAnswers : Type 0
AddressAnswers = ℕ → Result (Option FunctionFrames) Fault

-- the lines of an address, from the answers
abbrev pub answered_text : AddressAnswers → ℕ → List ℕ
answered_text answer a = address_text a (answer a)

-- the text for a line that is an address, or isn't one, from the answers
abbrev pub text_at : AddressAnswers → Option ℕ → List ℕ
text_at answer None = codes "not an address\n"
text_at answer (Some a) = answered_text answer a

-- the text that is written for a line of the input
unfoldable pub line_text : AddressAnswers → List ℕ → List ℕ
line_text answer line = text_at answer (address_of line)
