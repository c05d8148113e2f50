-- The text of an answer in the styles LLVM and GNU.
use Rattle.std.specs.Prelude.{ℕ, Bool, true, false, ◌==◌, ◌&&◌, if◌then◌else◌, List, [], ◌∷◌}
use Rattle.std.specs.Prelude.{◌++◌, length}
use Rattle.std.specs.Prelude.{Option, None, Some, codes}
use Rattle.std.specs.List.{flat_map}
use Rattle.std.specs.Fmt.{decimal, digits}
use Rattle.pdb_owners.specs.Texts.{text_or}
use Rattle.pdb_llvm_protocol.specs.ReportedFrames.{ReportedFrame}
use Rattle.pdb_llvm_protocol.specs.declared.options.Style.{Style}
use Rattle.pdb_llvm_protocol.specs.declared.options.Style.TheVariants as styles
use Rattle.pdb_llvm_protocol.specs.declared.options.TextOptions.{TextOptions}

-- an address in lower-case hexadecimal digits
abbrev pub address_text : ℕ → List ℕ
address_text a = codes "0x" ++ digits 16 false a

-- the address before its answer, if it is asked for
abbrev pub header_text : TextOptions → Option ℕ → List ℕ
header_text o None = []
header_text o (Some a) =
    if o.addresses then address_text a ++ (if o.pretty then codes ": " else codes "\n") else []

-- the text that says that a frame called the one before it
abbrev pub caller_text : Bool → Bool → List ℕ
caller_text pretty is_caller = if pretty && is_caller then codes " (inlined by) " else []

-- a name, or ?? where there is none, since readers take an empty line for the end of an answer
abbrev pub name_or_unknown : Option (List ℕ) → List ℕ
name_or_unknown None = codes "??"
name_or_unknown (Some name) = if length name == 0 then codes "??" else name

-- the name of a frame's function, if names are asked for
abbrev pub name_text : TextOptions → Bool → ReportedFrame → List ℕ
name_text o is_caller f =
    if o.functions
    then caller_text o.pretty is_caller ++ name_or_unknown f.function
    ++ (if o.pretty then codes " at " else codes "\n")
    else []

-- a number after a text, and a line's end
abbrev pub number_line : List ℕ → ℕ → List ℕ
number_line text number = text ++ decimal number ++ codes "\n"

-- the text after the line: in the style LLVM the column
abbrev pub column_text : Style → ℕ → List ℕ
column_text styles.Llvm column = number_line (codes ":") column
column_text styles.Gnu column = codes "\n"
column_text styles.Json column = codes "\n"

-- a frame's file and line
abbrev pub place_text : Style → ReportedFrame → List ℕ
place_text style f = text_or f.file ++ codes ":" ++ decimal f.line ++ column_text style f.column

-- ..on a line each, with the column
unfoldable pub verbose_text : ReportedFrame → List ℕ
verbose_text f =
    codes "  Filename: " ++ text_or f.file ++ codes "\n  Line: " ++ decimal f.line
    ++ number_line (codes "\n  Column: ") f.column

-- the text of a frame
abbrev pub frame_text : TextOptions → Bool → ReportedFrame → List ℕ
frame_text o is_caller f =
    name_text o is_caller f ++ (if o.verbose then verbose_text f else place_text o.style f)

-- the frames one after the other, of which each after the first called the one before it
abbrev pub frames_text : TextOptions → List ReportedFrame → List ℕ
frames_text o [] = []
frames_text o (f ∷ fs) = frame_text o false f ++ flat_map (frame_text o true) fs

-- the end of an answer: in the style LLVM an empty line
abbrev pub footer_text : Style → List ℕ
footer_text styles.Llvm = codes "\n"
footer_text styles.Gnu = []
footer_text styles.Json = []

-- an answer: the address, a text, and the end
abbrev pub plain_text : TextOptions → Option ℕ → List ℕ → List ℕ
plain_text o a text = header_text o a ++ text ++ footer_text o.style
