-- The text of an answer to a request, in each style.
use Rattle.std.specs.Prelude.{ℕ, Bool, ◌+◌, if◌then◌else◌, List, [], ◌∷◌, ◌++◌}
use Rattle.std.specs.Prelude.{Option, None, Some, codes}
use Rattle.pdb_llvm_protocol.specs.ReportedFrames.{ReportedFrame}
use Rattle.pdb_llvm_protocol.specs.Json.{frames_array, gap, key, string_member}
use Rattle.pdb_llvm_protocol.specs.Plain.{address_text, frames_text, plain_text}
use Rattle.pdb_llvm_protocol.specs.declared.options.Style.{Style}
use Rattle.pdb_llvm_protocol.specs.declared.options.Style.TheVariants as styles
use Rattle.pdb_llvm_protocol.specs.declared.options.TextOptions.{TextOptions}

-- a frame of which nothing is known
abbrev pub unknown : ReportedFrame
unknown = record { function = None; file = None; line = 0; column = 0 }

-- the depth of an answer's object
abbrev pub depth_of : TextOptions → ℕ
depth_of o = if o.in_array then 1 else 0

-- the member of an address, and the comma after it
unfoldable pub address_member : TextOptions → Option ℕ → List ℕ
address_member o None = []
address_member o (Some a) =
    string_member o.pretty (depth_of o + 1) (codes "Address") (address_text a) ++ codes ","

-- the member of a module's name
unfoldable pub module_member : TextOptions → List ℕ → List ℕ
module_member o m = string_member o.pretty (depth_of o + 1) (codes "ModuleName") m

-- the start of an answer's object
unfoldable pub start_text : TextOptions → Option ℕ → List ℕ
start_text o a = codes "{" ++ address_member o a

-- the end of an answer's object: without an array a newline stands after it
unfoldable pub end_text : TextOptions → List ℕ
end_text o = gap o.pretty (depth_of o) ++ (if o.in_array then codes "}" else codes "}\n")

-- the object of an answer that has frames
unfoldable pub frames_object : TextOptions → List ℕ → Option ℕ → List ReportedFrame → List ℕ
frames_object o m a frames =
    start_text o a ++ module_member o m ++ codes ","
    ++ key o.pretty (depth_of o + 1) (codes "Symbol")
    ++ frames_array o.pretty (depth_of o + 1) frames ++ end_text o

-- an answer that has frames
abbrev pub answer_in : Style → TextOptions → List ℕ → Option ℕ → List ReportedFrame → List ℕ
answer_in styles.Json o m a frames = frames_object o m a frames
answer_in styles.Llvm o m a frames = plain_text o a (frames_text o frames)
answer_in styles.Gnu o m a frames = plain_text o a (frames_text o frames)

abbrev pub answer_text : TextOptions → List ℕ → Option ℕ → List ReportedFrame → List ℕ
answer_text o = answer_in o.style o

-- the object of an answer that is an error
unfoldable pub error_object : TextOptions → List ℕ → ℕ → List ℕ → List ℕ
error_object o m a message =
    start_text o (Some a) ++ key o.pretty (depth_of o + 1) (codes "Error") ++ codes "{"
    ++ string_member o.pretty (depth_of o + 2) (codes "Message") message
    ++ gap o.pretty (depth_of o + 1) ++ codes "}," ++ module_member o m ++ end_text o

-- an answer that is an error: only JSON has its message
abbrev pub error_in : Style → TextOptions → List ℕ → ℕ → List ℕ → List ℕ
error_in styles.Json o m a message = error_object o m a message
error_in styles.Llvm o m a message = plain_text o (Some a) (frames_text o (unknown ∷ []))
error_in styles.Gnu o m a message = plain_text o (Some a) (frames_text o (unknown ∷ []))

abbrev pub error_text : TextOptions → List ℕ → ℕ → List ℕ → List ℕ
error_text o = error_in o.style o

-- the members of data of which nothing is known
unfoldable pub data_members : Bool → ℕ → List ℕ
data_members p d =
    string_member p d (codes "Name") [] ++ codes ","
    ++ string_member p d (codes "Size") (codes "0x0") ++ codes ","
    ++ string_member p d (codes "Start") (codes "0x0")

-- the object of data of which nothing is known
unfoldable pub data_object : TextOptions → List ℕ → ℕ → List ℕ
data_object o m a =
    start_text o (Some a) ++ key o.pretty (depth_of o + 1) (codes "Data") ++ codes "{"
    ++ data_members o.pretty (depth_of o + 2)
    ++ gap o.pretty (depth_of o + 1) ++ codes "}," ++ module_member o m ++ end_text o

-- the answer to a request for data: name, start and size, and where it is declared
abbrev pub data_in : Style → TextOptions → List ℕ → ℕ → List ℕ
data_in styles.Json o m a = data_object o m a
data_in styles.Llvm o m a = plain_text o (Some a) (codes "??\n0 0\n??:?\n")
data_in styles.Gnu o m a = plain_text o (Some a) (codes "??\n0 0\n??:?\n")

abbrev pub data_text : TextOptions → List ℕ → ℕ → List ℕ
data_text o = data_in o.style o

-- the object of locals, of which none are known
unfoldable pub locals_object : TextOptions → List ℕ → ℕ → List ℕ
locals_object o m a =
    start_text o (Some a) ++ key o.pretty (depth_of o + 1) (codes "Frame") ++ codes "[],"
    ++ module_member o m ++ end_text o

-- the answer to a request for locals
abbrev pub locals_in : Style → TextOptions → List ℕ → ℕ → List ℕ
locals_in styles.Json o m a = locals_object o m a
locals_in styles.Llvm o m a = plain_text o (Some a) (codes "??\n")
locals_in styles.Gnu o m a = plain_text o (Some a) (codes "??\n")

abbrev pub locals_text : TextOptions → List ℕ → ℕ → List ℕ
locals_text o = locals_in o.style o
