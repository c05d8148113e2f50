-- Strings of JSON.
use Rattle.std.specs.Prelude.{ℕ, ◌+◌, ◌/◌, ◌%◌, ◌==◌, nat_lt, if◌then◌else◌}
use Rattle.std.specs.Prelude.{List, [], ◌∷◌, ◌++◌, codes}
use Rattle.std.specs.List.{flat_map}

-- the digit of a number below 16, in lower case
abbrev pub digit : ℕ → ℕ
digit n = if nat_lt n 10 then 48 + n else 87 + n

-- a byte of a string: quotes, backslashes and control characters are escaped
abbrev pub escaped : ℕ → List ℕ
escaped b =
    if b == 34 then codes "\\\""
    else if b == 92 then codes "\\\\"
    else if nat_lt b 32 then codes "\\u00" ++ digit (b / 16) ∷ digit (b % 16) ∷ []
    else b ∷ []

-- a string of these bytes, which are UTF-8
unfoldable pub string_text : List ℕ → List ℕ
string_text bytes = 34 ∷ flat_map escaped bytes ++ 34 ∷ []
