-- Names by which functions are looked for.
use Rattle.std.specs.Prelude.{◌≡◌, ◌⊎◌, ℕ, zero, suc, ◌+◌, ◌-◌, Bool, false, ◌==◌, ◌&&◌, List, [], ◌∷◌}
use Rattle.std.specs.Prelude.{take, Option, None, Some, if◌then◌else◌}

-- the number of closing parentheses without an opening one from a byte on, where so many after it
-- have none: the byte closes one more, opens one, or does neither
abbrev pub unopened_by : ℕ → ℕ → ℕ
unopened_by b n = if b == 41 then n + 1 else (if b == 40 then n - 1 else n)

-- the number of closing parentheses of a text without an opening one in it
abbrev pub unopened : List ℕ → ℕ
unopened [] = 0
unopened (b ∷ text) = unopened_by b (unopened text)

-- a later place, or this one
abbrev pub later_or_here : Option ℕ → Bool → Option ℕ
later_or_here (Some place) here = Some (suc place)
later_or_here None here = if here then Some 0 else None

-- the last place at which a parenthesis opens after which one alone closes without having one
abbrev pub last_opening : List ℕ → Option ℕ
last_opening [] = None
last_opening (b ∷ text) =
    later_or_here (last_opening text) ((b == 40) && (unopened text == 1))

-- the text before a place; the whole name without a place, and where nothing stands before it
abbrev pub front_or_whole : List ℕ → Option ℕ → List ℕ
front_or_whole name None = name
front_or_whole name (Some zero) = name
front_or_whole name (Some (suc place)) = take (suc place) name

-- a name without its arguments and the text after them: the text before the parenthesis that its
-- last one closes
abbrev pub without_arguments : List ℕ → List ℕ
without_arguments name = front_or_whole name (last_opening name)

-- a text is a name, with its arguments or without
abbrev pub IsCalled : List ℕ → List ℕ → Type 0
IsCalled name asked = (name ≡ asked) ⊎ (without_arguments name ≡ asked)

-- whether a name is decorated: it begins with a question mark
abbrev pub is_decorated : List ℕ → Bool
is_decorated [] = false
is_decorated (b ∷ name) = b == 63
