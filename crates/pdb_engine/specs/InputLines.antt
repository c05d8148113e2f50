-- The lines of an input, and the report on them.
use Rattle.std.specs.Prelude.{◌≡◌, ℕ, ◌==◌, if◌then◌else◌, List, [], ◌∷◌, ◌++◌, take}
use Rattle.std.specs.List.{flat_map}

-- lines whose first one begins with one more byte
abbrev pub onto : ℕ → List (List ℕ) → List (List ℕ)
onto b [] = (b ∷ []) ∷ []
onto b (line ∷ lines) = (b ∷ line) ∷ lines

-- a newline ends a line; after the last newline stands one more, if any byte does
abbrev pub input_lines : List ℕ → List (List ℕ)
input_lines [] = []
input_lines (b ∷ bs) = if b == 10 then [] ∷ input_lines bs else onto b (input_lines bs)

-- ended lines whose first one begins with one more byte; none where no line ends
abbrev pub onto_ended : ℕ → List (List ℕ) → List (List ℕ)
onto_ended b [] = []
onto_ended b (line ∷ lines) = (b ∷ line) ∷ lines

-- the lines that a newline ends
abbrev pub ended_input_lines : List ℕ → List (List ℕ)
ended_input_lines [] = []
ended_input_lines (b ∷ bs) =
    if b == 10 then [] ∷ ended_input_lines bs else onto_ended b (ended_input_lines bs)

-- the report that is written for an input
abbrev pub report : (List ℕ → List ℕ) → List ℕ → List ℕ
report text input = flat_map text (input_lines input)

-- the report that is written for the lines that a newline ends
abbrev pub report_of_ended : (List ℕ → List ℕ) → List ℕ → List ℕ
report_of_ended text input = flat_map text (ended_input_lines input)

-- out is a prefix of whole
abbrev pub Begins : List ℕ → List ℕ → Type 0
Begins out whole = (more : List ℕ) × (whole ≡ out ++ more)

-- the lines that bytes end, each by its first bytes, at most `limit` of them; `kept` has those of
-- the line that the bytes go on with
abbrev pub kept_lines : ℕ → List ℕ → List ℕ → List (List ℕ)
kept_lines limit kept [] = []
kept_lines limit kept (b ∷ bs) =
    if b == 10 then kept ∷ kept_lines limit [] bs
    else kept_lines limit (take limit (kept ++ b ∷ [])) bs

-- the bytes stored after them: the first, at most `limit`, of the line that has not ended
abbrev pub kept_rest : ℕ → List ℕ → List ℕ → List ℕ
kept_rest limit kept [] = kept
kept_rest limit kept (b ∷ bs) =
    if b == 10 then kept_rest limit [] bs else kept_rest limit (take limit (kept ++ b ∷ [])) bs
