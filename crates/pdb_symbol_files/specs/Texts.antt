-- Names and files, as a symbol file has them.
use Rattle.std.specs.Prelude.{ℕ, ◌-◌, ◌++◌, ◌&&◌, ◌||◌, ◌==◌, Bool, true, nat_lt, nat_le, List, []}
use Rattle.std.specs.Prelude.{◌∷◌, if◌then◌else◌, Option, None, Some, codes, length}
use Rattle.std.specs.Str.{chars, encode_utf8_all}
use Rattle.std.specs.Char.{encode_utf8}

-- a character, by whether only blanks stand before it: `_` for a control character, and for a blank
-- before the text
abbrev pub clean_char : Bool → ℕ → ℕ
clean_char leading c = if nat_lt c 32 || (leading && c == 32) then 95 else c

-- characters, by whether only blanks stand before them
abbrev pub clean : Bool → List ℕ → List ℕ
clean leading [] = []
clean leading (c ∷ cs) = clean_char leading c ∷ clean (leading && c == 32) cs

-- the longest prefix of whole characters that has n bytes at most
abbrev pub front : ℕ → List ℕ → List ℕ
front n [] = []
front n (c ∷ cs) =
    if nat_le (length (encode_utf8 c)) n
    then c ∷ front (n - length (encode_utf8 c)) cs else []

-- a text: of one of more than 65,536 bytes the longest prefix of whole characters that has 65,533
-- at most, and three dots
abbrev pub shortened : List ℕ → List ℕ
shortened text =
    if nat_le (length text) 65536 then text
    else encode_utf8_all (front 65533 (chars text)) ++ codes "..."

-- a name or a file, from its text
abbrev pub text_of : List ℕ → List ℕ
text_of [] = codes "??"
text_of (b ∷ bs) = shortened (encode_utf8_all (clean true (chars (b ∷ bs))))

-- a name or a file that may be missing
abbrev pub told_text : Option (List ℕ) → List ℕ
told_text None = codes "??"
told_text (Some text) = text_of text
