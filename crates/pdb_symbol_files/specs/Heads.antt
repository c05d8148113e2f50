-- The text of the first records of a symbol file, which identify its database and its image.
use Rattle.std.specs.Prelude.{ℕ, ◌-◌, ◌^◌, ◌++◌, ◌||◌, ◌==◌, false, true, List, [], ◌∷◌}
use Rattle.std.specs.Prelude.{codes, if◌then◌else◌, Some}
use Rattle.std.specs.Fmt.{digits, format_spec, padded_integral}
use Rattle.std.specs.List.{list_any}
use Rattle.pdb_symbol_files.specs.RecordTexts.{hexadecimal}
use Rattle.pdb_symbol_files.specs.Texts.{told_text}

-- a number in eight upper-case hexadecimal digits, or as many more as it needs
abbrev pub eight_digits : ℕ → List ℕ
eight_digits n = padded_integral (format_spec 32 0 4 8 (2 ^ 64 - 1)) false [] (digits 16 true n)

-- a machine's name, by its number (IMAGE_FILE_MACHINE_*)
unfoldable pub machine_name : ℕ → List ℕ
machine_name machine =
    if machine == 0x8664 then codes "x86_64"
    else if machine == 0x14c then codes "x86"
    else if (machine == 0xaa64) || (machine == 0xa641) then codes "arm64"
    else if machine == 0x1c4 then codes "arm" else codes "unknown"

-- the bytes after the last byte of this value, or all of a text without one
abbrev pub after_last : ℕ → List ℕ → List ℕ
after_last byte [] = []
after_last byte (b ∷ bytes) =
    if list_any (λ c. c == byte) bytes then after_last byte bytes
    else if b == byte then bytes else b ∷ bytes

-- the name of the file that a path leads to, after the last slash
unfoldable pub file_name : List ℕ → List ℕ
file_name path = after_last 47 path

-- the MODULE record up to the identity, by the machine's name
abbrev pub machine_text : List ℕ → List ℕ
machine_text machine = codes "MODULE windows " ++ machine ++ codes " "

-- the identity, and the database's name
abbrev pub identity_text : List ℕ → List ℕ → List ℕ
identity_text identity name = identity ++ codes " " ++ name ++ 10 ∷ []

-- the MODULE record: the machine's number, the identity, and the path of the database
abbrev pub module_text : ℕ → List ℕ → List ℕ → List ℕ
module_text machine identity path =
    machine_text (machine_name machine)
    ++ identity_text identity (told_text (Some (file_name path)))

-- the INFO record: an image's time stamp and size, and the name of its file
abbrev pub image_text : ℕ → ℕ → List ℕ → List ℕ
image_text time_stamp size name =
    codes "INFO CODE_ID " ++ eight_digits time_stamp ++ hexadecimal size ++ codes " "
    ++ name ++ 10 ∷ []

-- the same by an image's time stamp and size, and its path
abbrev pub code_id_text : ℕ → ℕ → List ℕ → List ℕ
code_id_text time_stamp size path =
    image_text time_stamp size (told_text (Some (file_name path)))
