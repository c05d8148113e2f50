-- The words of arguments, as llvm-symbolizer tells them apart.
use Rattle.std.specs.Prelude.{ℕ, ◌==◌, nat_eq, not, ◌||◌, if◌then◌else◌, List, [], ◌∷◌, length}
use Rattle.std.specs.Prelude.{drop, slice_index, Option, None, Some, codes}
use Rattle.std.specs.List.{starts_with}
use Rattle.std.specs.Str.{bytes_eq}
use Rattle.pdb_llvm_protocol.specs.declared.option_words.Flag.{Flag}
use Rattle.pdb_llvm_protocol.specs.declared.option_words.Flag.TheVariants as flags
use Rattle.pdb_llvm_protocol.specs.declared.option_words.OptionWord.{OptionWord}
use Rattle.pdb_llvm_protocol.specs.declared.option_words.OptionWord.TheVariants as words
use Rattle.pdb_llvm_protocol.specs.declared.option_words.Setting.{Setting}
use Rattle.pdb_llvm_protocol.specs.declared.option_words.Setting.TheVariants as settings

-- the value of a text in a table, or else another value
abbrev pub named : {X : Type 0} → List (List ℕ × X) → Option X → List ℕ → Option X
named [] other text = other
named (entry ∷ rest) other text =
    if bytes_eq text entry.0 then Some entry.1 else named rest other text

-- options without values: of the program, and options that change nothing
abbrev pub program_words : List (List ℕ × Flag)
program_words =
    (codes "--help", flags.Help) ∷ (codes "-h", flags.Help)
    ∷ (codes "--version", flags.Version) ∷ (codes "-v", flags.Version)
    ∷ (codes "--filter-markup", flags.FilterMarkup)
    ∷ (codes "--color", flags.Ignored) ∷ (codes "--debuginfod", flags.Ignored)
    ∷ (codes "--no-debuginfod", flags.Ignored) ∷ (codes "--dia", flags.Ignored)
    ∷ (codes "--skip-line-zero", flags.Ignored) ∷ (codes "--untag-addresses", flags.Ignored)
    ∷ (codes "--no-untag-addresses", flags.Ignored) ∷ []

unfoldable pub program_flag_of : List ℕ → Option Flag
program_flag_of word = named program_words None word

-- ..of addresses and frames
abbrev pub frame_words : List (List ℕ × Flag)
frame_words =
    (codes "--addresses", flags.Addresses) ∷ (codes "--print-address", flags.Addresses)
    ∷ (codes "-a", flags.Addresses)
    ∷ (codes "--inlines", flags.Inlines) ∷ (codes "--inlining", flags.Inlines)
    ∷ (codes "-i", flags.Inlines) ∷ (codes "--inlining=true", flags.Inlines)
    ∷ (codes "--no-inlines", flags.NoInlines) ∷ (codes "--inlining=false", flags.NoInlines)
    ∷ (codes "--pretty-print", flags.PrettyPrint) ∷ (codes "-p", flags.PrettyPrint)
    ∷ (codes "--relative-address", flags.RelativeAddress)
    ∷ (codes "--verbose", flags.Verbose) ∷ []

unfoldable pub frame_flag_of : List ℕ → Option Flag
frame_flag_of word = named frame_words (program_flag_of word) word

-- ..of the names of files and functions
abbrev pub name_words : List (List ℕ × Flag)
name_words =
    (codes "--basenames", flags.BaseNames) ∷ (codes "-s", flags.BaseNames)
    ∷ (codes "--relativenames", flags.RelativeNames)
    ∷ (codes "--demangle", flags.Demangle) ∷ (codes "-C", flags.Demangle)
    ∷ (codes "-demangle=true", flags.Demangle)
    ∷ (codes "--no-demangle", flags.NoDemangle) ∷ (codes "-demangle=false", flags.NoDemangle)
    ∷ (codes "--functions", flags.Functions) ∷ (codes "-f", flags.Functions) ∷ []

unfoldable pub flag_of : List ℕ → Option Flag
flag_of word = named name_words (frame_flag_of word) word

-- options whose value is the next word
abbrev pub setting_words : List (List ℕ × Setting)
setting_words =
    (codes "--obj", settings.Object) ∷ (codes "--exe", settings.Object)
    ∷ (codes "-e", settings.Object)
    ∷ (codes "--pdb", settings.Database)
    ∷ (codes "--symbol-store", settings.SymbolStore)
    ∷ (codes "--adjust-vma", settings.AdjustVma)
    ∷ (codes "--output-style", settings.OutputStyle)
    ∷ (codes "--print-source-context-lines", settings.ContextLines)
    ∷ (codes "--build-id", settings.BuildId)
    ∷ (codes "--cache-size", settings.CacheSize)
    ∷ (codes "--dsym-hint", settings.DsymHint)
    ∷ (codes "--default-arch", settings.Ignored) ∷ (codes "--dwp", settings.Ignored)
    ∷ (codes "--debug-file-directory", settings.Ignored)
    ∷ (codes "--fallback-debug-path", settings.Ignored) ∷ []

unfoldable pub setting_of : List ℕ → Option Setting
setting_of word = named setting_words None word

-- the value of the first text in a table that a text begins with, or else another value
abbrev pub begun : {X : Type 0} → List (List ℕ × X) → Option X → List ℕ → Option X
begun [] other text = other
begun (entry ∷ rest) other text =
    if starts_with nat_eq text entry.0 then Some entry.1 else begun rest other text

-- options whose value follows an equals sign
abbrev pub ending_words : List (List ℕ × Setting)
ending_words =
    (codes "--print-source-context-lines=", settings.ContextLines)
    ∷ (codes "--build-id=", settings.BuildId) ∷ (codes "--cache-size=", settings.CacheSize)
    ∷ (codes "--dsym-hint=", settings.DsymHint) ∷ (codes "--color=", settings.Ignored)
    ∷ (codes "--default-arch=", settings.Ignored) ∷ (codes "--dwp=", settings.Ignored)
    ∷ (codes "--debug-file-directory=", settings.Ignored)
    ∷ (codes "--fallback-debug-path=", settings.Ignored) ∷ []

unfoldable pub ending_setting_of : List ℕ → Option Setting
ending_setting_of word = begun ending_words None word

abbrev pub joined_words : List (List ℕ × Setting)
joined_words =
    (codes "--obj=", settings.Object) ∷ (codes "--exe=", settings.Object)
    ∷ (codes "-e=", settings.Object) ∷ (codes "--pdb=", settings.Database)
    ∷ (codes "--symbol-store=", settings.SymbolStore)
    ∷ (codes "--adjust-vma=", settings.AdjustVma)
    ∷ (codes "--functions=", settings.Functions) ∷ (codes "-f=", settings.Functions)
    ∷ (codes "--output-style=", settings.OutputStyle) ∷ []

unfoldable pub joined_of : List ℕ → Option Setting
joined_of word = begun joined_words (ending_setting_of word) word

-- the options that a letter has
unfoldable pub letter_of : ℕ → Option Flag
letter_of b =
    if b == 97 then Some flags.Addresses
    else if b == 115 then Some flags.BaseNames
    else if b == 67 then Some flags.Demangle
    else if b == 105 then Some flags.Inlines
    else if b == 102 then Some flags.Functions
    else if b == 112 then Some flags.PrettyPrint
    else if b == 104 then Some flags.Help
    else if b == 118 then Some flags.Version
    else None

-- a word of letters: the first one, unless an equals sign follows
abbrev pub first_letter : ℕ → List ℕ → Option Flag → OptionWord
first_letter letter rest (Some flag) =
    if starts_with nat_eq rest (codes "=") then words.Unknown else words.Letter flag
first_letter letter rest None = if letter == 45 then words.Unknown else words.UnknownLetter

unfoldable pub letters_of : List ℕ → OptionWord
letters_of word =
    first_letter (slice_index word 1) (drop 2 word) (letter_of (slice_index word 1))

-- a word that stands in no table as it is: NAME=VALUE, -eFILE, or letters
abbrev pub joined_or : List ℕ → Option Setting → OptionWord
joined_or word (Some setting) = words.Joined setting
joined_or word None = if slice_index word 1 == 101 then words.JoinedFile else letters_of word

unfoldable pub file_or_letters_of : List ℕ → OptionWord
file_or_letters_of word = joined_or word (joined_of word)

abbrev pub setting_or : List ℕ → Option Setting → OptionWord
setting_or word (Some setting) = words.Wanting setting
setting_or word None = file_or_letters_of word

abbrev pub flag_or : List ℕ → Option Flag → OptionWord
flag_or word (Some flag) = words.Flag flag
flag_or word None = setting_or word (setting_of word)

-- the kind of a word of the arguments: an option has a dash, and more
unfoldable pub option_of : List ℕ → OptionWord
option_of word =
    if not (starts_with nat_eq word (codes "-")) || (length word == 1) then words.Input
    else flag_or word (flag_of word)
