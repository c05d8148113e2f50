-- The rows' arguments.
use Rattle.std.specs.Prelude.{ℕ, Bool, List, [], ◌∷◌, Option, Some, codes, option_map}
use Rattle.clap.specs.Words.{Text, first_of}
use Rattle.pdb_arguments.specs.Task.{address_at, entered_by, flag_at}

-- the arguments `frames F`
abbrev pub frames_words : List Text
frames_words = codes "frames" ∷ codes "F" ∷ []

-- the arguments `sizes F`, and two more
abbrev pub sizes_words : Text → Text → List Text
sizes_words start end = codes "sizes" ∷ codes "F" ∷ start ∷ end ∷ []

-- the arguments `sizes --by-file F 10 20`
abbrev pub by_file_words : List Text
by_file_words = codes "sizes" ∷ codes "--by-file" ∷ codes "F" ∷ codes "10" ∷ codes "20" ∷ []

-- the arguments `sizes F 10`, which lack one
abbrev pub short_words : List Text
short_words = codes "sizes" ∷ codes "F" ∷ codes "10" ∷ []

-- a subcommand's name, FILE, and the addresses at START and END
abbrev pub Told : Type 0
Told = Text × Option Text × Option ℕ × Option ℕ

-- the subcommand and values that `sizes F` and two more arguments enter, from the addresses that
-- these are
abbrev pub sizes_told : Option ℕ → Option ℕ → Told
sizes_told start end = (codes "sizes", Some (codes "F"), start, end)

-- the subcommand and values that arguments enter
abbrev pub told_of : List Text → Option Told
told_of words = option_map (λ e. (
  e.0,
  first_of (codes "FILE") e.1,
  address_at (codes "START") e.1,
  address_at (codes "END") e.1,
)) (entered_by words)

-- whether arguments enter the flag `--by-file`
abbrev pub is_by_file : List Text → Option Bool
is_by_file words = option_map (λ e. flag_at (codes "by-file") e.1) (entered_by words)
