-- The text of a symbol file's records.
use Rattle.std.specs.Prelude.{ℕ, ◌+◌, ◌++◌, false, List, [], ◌∷◌, codes}
use Rattle.std.specs.Fmt.{decimal, digits}
use Rattle.std.specs.List.{flat_map}
use Rattle.pdb_symbol_files.specs.Records.{LineRecord, InlineRecord, FunctionRecord, SymbolRecords}

-- a number in lower-case hexadecimal digits, without zeros before them
abbrev pub hexadecimal : ℕ → List ℕ
hexadecimal n = digits 16 false n

abbrev pub line_text : LineRecord → List ℕ
line_text r =
    hexadecimal r.address ++ codes " " ++ hexadecimal r.size ++ codes " " ++ decimal r.line
    ++ codes " " ++ decimal r.file ++ 10 ∷ []

-- an INLINE record, up to its addresses
abbrev pub call_text : ℕ → ℕ → ℕ → ℕ → List ℕ
call_text level line file origin =
    codes "INLINE " ++ decimal level ++ codes " " ++ decimal line ++ codes " " ++ decimal file
    ++ codes " " ++ decimal origin ++ codes " "

-- so many addresses from one on, at the end of a line
abbrev pub range_text : ℕ → ℕ → List ℕ
range_text address size =
    hexadecimal address ++ codes " " ++ hexadecimal size ++ 10 ∷ []

abbrev pub inline_text : InlineRecord → List ℕ
inline_text r = call_text r.level r.line r.file r.origin ++ range_text r.address r.size

-- the FUNC record of so many addresses from one on, and of a name
abbrev pub head_text : ℕ → ℕ → List ℕ → List ℕ
head_text address size name =
    codes "FUNC " ++ hexadecimal address ++ codes " " ++ hexadecimal size ++ codes " 0 " ++ name
    ++ 10 ∷ []

-- a function's records
abbrev pub function_text : FunctionRecord → List ℕ
function_text r =
    head_text r.address r.size r.name
    ++ flat_map inline_text r.inlines ++ flat_map line_text r.lines

-- a record of a text with its number: a word, the number, and the text
abbrev pub numbered_text : List ℕ → ℕ → List ℕ → List ℕ
numbered_text word n text = word ++ codes " " ++ decimal n ++ codes " " ++ text ++ 10 ∷ []

-- a record of each text, with its number
abbrev pub numbered_texts : List ℕ → ℕ → List (List ℕ) → List ℕ
numbered_texts word n [] = []
numbered_texts word n (t ∷ texts) = numbered_text word n t ++ numbered_texts word (n + 1) texts

-- FILE and INLINE_ORIGIN records
unfoldable pub numbers_text : SymbolRecords → List ℕ
numbers_text r =
    numbered_texts (codes "FILE") 0 (r.numbers).files
    ++ numbered_texts (codes "INLINE_ORIGIN") 0 (r.numbers).origins

-- FUNC records, with the records below them
unfoldable pub functions_text : SymbolRecords → List ℕ
functions_text r = flat_map function_text r.functions
