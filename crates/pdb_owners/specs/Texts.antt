-- The texts of reports of sizes, by function and by file.
use Rattle.std.specs.Prelude.{ℕ, false, ◌-◌, ◌^◌, ◌++◌, List, [], ◌∷◌, Option, None, Some, codes}
use Rattle.std.specs.Fmt.{decimal, digits, padded_integral, format_spec}
use Rattle.std.specs.List.{flat_map}
use Rattle.pdb_owners.specs.FileAnswers.{FileAnswer, Nothing, Unreadable, NoFile, File, file_cmp}
use Rattle.pdb_owners.specs.FunctionOrder.{Function}
use Rattle.pdb_owners.specs.Table.{count_in}

-- a text that may be missing, and two question marks for it then
abbrev pub text_or : Option (List ℕ) → List ℕ
text_or None = codes "??"
text_or (Some text) = text

-- an address's eight lower-case hexadecimal digits, as `{:08x}` prints them: filled up with zeros
abbrev pub eight_digits : ℕ → List ℕ
eight_digits a = padded_integral (format_spec 32 0 4 8 (2 ^ 64 - 1)) false [] (digits 16 false a)

-- the line of a function and its count
abbrev pub size_text : Function × ℕ → List ℕ
size_text e =
    codes "0x" ++ eight_digits (e.0).start_rva ++ codes " " ++ decimal e.1 ++ codes " "
    ++ text_or (e.0).name ++ 10 ∷ []

-- a line for each function of a table
abbrev pub size_lines : List (Function × ℕ) → List ℕ
size_lines table = flat_map size_text table

-- the report: a line for each function, and then the count of addresses that have none
abbrev pub sizes_text : List (Function × ℕ) → ℕ → List ℕ
sizes_text table none = size_lines table ++ codes "none " ++ decimal none ++ 10 ∷ []

-- the line of a file and its count; an answer that is no file has no line
abbrev pub file_text : FileAnswer × ℕ → List ℕ
file_text (Nothing, n) = []
file_text (Unreadable, n) = []
file_text (NoFile, n) = []
file_text (File name, n) = decimal n ++ codes " " ++ name ++ 10 ∷ []

-- a line for each file of a table
abbrev pub file_lines : List (FileAnswer × ℕ) → List ℕ
file_lines table = flat_map file_text table

-- the report by file: a line for each file, and then the counts of addresses without a known file,
-- of addresses that have nothing, and of addresses that can't be read
abbrev pub by_file_text : List (FileAnswer × ℕ) → ℕ → List ℕ
by_file_text table none =
    file_lines table
    ++ codes "no file " ++ decimal (count_in file_cmp table NoFile) ++ 10 ∷ []
    ++ codes "none " ++ decimal none ++ 10 ∷ []
    ++ codes "unreadable " ++ decimal (count_in file_cmp table Unreadable) ++ 10 ∷ []
