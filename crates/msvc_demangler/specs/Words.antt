-- Words that letters stand for, of types and of functions.
use Rattle.std.specs.Prelude.{ℕ, ◌==◌, ◌&&◌, ◌||◌, if◌then◌else◌, List, [], Option, None, Some}
use Rattle.std.specs.Prelude.{codes, drop, length, nat_lt, option_map, slice_index}
use Rattle.std.specs.Borrow.{Bor}

-- a text that is printed, as bytes
abbrev pub Text : Type 0
Text = List ℕ

-- the basic type that a letter stands for
unfoldable pub basic_type : ℕ → Option Text
basic_type b =
    if b == 67 then Some (codes "signed char")
    else if b == 68 then Some (codes "char")
    else if b == 69 then Some (codes "unsigned char")
    else if b == 70 then Some (codes "short")
    else if b == 71 then Some (codes "unsigned short")
    else if b == 72 then Some (codes "int")
    else if b == 73 then Some (codes "unsigned int")
    else if b == 74 then Some (codes "long")
    else if b == 75 then Some (codes "unsigned long")
    else if b == 77 then Some (codes "float")
    else if b == 78 then Some (codes "double")
    else if b == 79 then Some (codes "long double")
    else if b == 88 then Some (codes "void")
    else None

-- the basic type that a letter after _ stands for
unfoldable pub later_basic_type : ℕ → Option Text
later_basic_type b =
    if b == 74 then Some (codes "__int64")
    else if b == 75 then Some (codes "unsigned __int64")
    else if b == 78 then Some (codes "bool")
    else if b == 81 then Some (codes "char8_t")
    else if b == 83 then Some (codes "char16_t")
    else if b == 85 then Some (codes "char32_t")
    else if b == 87 then Some (codes "wchar_t")
    else None

-- a word, and what comes after it
abbrev pub before : List ℕ → Option Text → Option (Text × List ℕ)
before after word = option_map (λ w. (w, after)) word

-- a word that was read, and what comes after it
abbrev pub read_word : Option (Bor (List ℕ) × Bor (List ℕ)) → Option (Text × List ℕ)
read_word o = option_map (λ r. (r.0.now, r.1.now)) o

-- the basic type that a text begins with, and what comes after: $$T for std::nullptr_t, a letter
-- after _, or a letter
unfoldable pub basic_type_of : List ℕ → Option (Text × List ℕ)
basic_type_of text =
    if nat_lt (length text) 1 then None
    else if (slice_index text 0 == 36) && ((slice_index text 1 == 36) && (slice_index text 2 == 84))
    then Some (codes "std::nullptr_t", drop 3 text)
    else if (slice_index text 0 == 95) && nat_lt 1 (length text)
    then before (drop 2 text) (later_basic_type (slice_index text 1))
    else before (drop 1 text) (basic_type (slice_index text 0))

-- the keyword that a letter before a name stands for
unfoldable pub keyword : ℕ → Option Text
keyword b =
    if b == 84 then Some (codes "union")
    else if b == 85 then Some (codes "struct")
    else if b == 86 then Some (codes "class")
    else if b == 87 then Some (codes "enum")
    else None

-- the calling convention that a letter stands for; empty for one that isn't known
unfoldable pub convention : ℕ → Text
convention b =
    if (b == 65) || (b == 66) then codes "__cdecl"
    else if (b == 67) || (b == 68) then codes "__pascal"
    else if (b == 69) || (b == 70) then codes "__thiscall"
    else if (b == 71) || (b == 72) then codes "__stdcall"
    else if (b == 73) || (b == 74) then codes "__fastcall"
    else if (b == 77) || (b == 78) then codes "__clrcall"
    else if (b == 79) || (b == 80) then codes "__eabi"
    else if b == 81 then codes "__vectorcall"
    else if b == 83 then codes "__attribute__((__swiftcall__)) "
    else if b == 87 then codes "__attribute__((__swiftasynccall__)) "
    else []
