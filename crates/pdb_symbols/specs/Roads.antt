-- The frames that a consumer says from the text of a symbol file: the law of two roads, and the law
-- of names.
use Rattle.std.specs.Prelude.{◌≡◌, ◌++◌, ℕ, Bool, true, false, List, [], ◌∷◌, Option, Result, Ok, Err}
use Rattle.std.specs.Io.KnownBytes.{Appends}
use Rattle.pdb_loading.specs.Loading.{Loaded, LoadingFault, loaded_with}
use Rattle.pdb_loading.specs.declared.order.ContributionOrder.TheVariants.{Any}
use Rattle.pdb_symbol_files.specs.CodeRoads.{shown_at, shown_by}
use Rattle.pdb_symbol_files.specs.Lookup.{Shown}
use Rattle.pdb_symbol_files.specs.Reading.{ReadsBack}
use Rattle.pdb_symbols.specs.NamedLines.{IsNameText, IsRenamed}
use Rattle.pdb_symbols.specs.SymbolFile.{Asked, SymbolFile, symbol_file, text_of}
use Rattle.pdb_symbols.specs.SymbolsText.{IsNamedText}
use Rattle.pdb_symbols.specs.Told.{told_named}
use Rattle.pdb_symbols_modules.specs.Shared.{shared}
use Rattle.pdb_symbols_modules.specs.Streams.{Streams}

-- ---- names

-- two lists have equally many elements, and a relation holds of the two at each place
abbrev pub ArePairs : {A : Type 0} → (A → A → Type 0) → List A → List A → Type 0
ArePairs P [] [] = Unit {0}
ArePairs P [] (y ∷ ys) = ⊥
ArePairs P (x ∷ xs) [] = ⊥
ArePairs P (x ∷ xs) (y ∷ ys) = P x y × ArePairs P xs ys

-- a frame with the same file and line; its name is the same, or the text of a decorated one
abbrev pub IsFrameNamed : Shown → Shown → Type 0
IsFrameNamed a b = IsNameText a.name b.name × (b.file ≡ a.file) × (b.line ≡ a.line)

-- The law of names: from a text with the names of functions undecorated a consumer says the same of
-- each address, frame by frame, but for names.
abbrev pub KeepsFrames : List ℕ → List ℕ → Type 0
KeepsFrames text named =
    (address : ℕ) → ArePairs IsFrameNamed (shown_by text address) (shown_by named address)

-- ---- a whole symbol file

-- the frames that are told of an address, from what was loaded of a database
abbrev pub frames_by : Bool → Streams → Result Loaded LoadingFault → ℕ → List Shown
frames_by inlines s (Ok l) address =
    shown_at l.tables.map.image (told_named inlines 23 Any s) address
frames_by inlines s (Err e) address = []

-- The frames of an address of a database, innermost first, as a symbol file has their texts: the
-- frames that the report on lines has, where code may run. Nothing of any other address, nor where
-- frames can't be read.
unfoldable pub frames_told : Bool → Streams → ℕ → List Shown
frames_told inlines s address = frames_by inlines s (loaded_with Any (shared s)) address

-- a consumer says what is told; but for names, where these are undecorated
abbrev pub SaysSame : Bool → List Shown → List Shown → Type 0
SaysSame false told said = said ≡ told
SaysSame true told said = ArePairs IsFrameNamed told said

-- a consumer that reads a text says of each address what is told of it
abbrev pub SaysTold : Bool → Bool → Streams → List ℕ → Type 0
SaysTold demangle inlines s text =
    (address : ℕ)
    → SaysSame demangle (frames_told inlines s address) (shown_by text address)

-- The law of two roads, of a whole symbol file: it holds of its text, with the names of functions
-- undecorated or not, if its records read back.
abbrev pub HasFileRoads : Bool → Asked → Option (List ℕ) → Streams → SymbolFile → Type 0
HasFileRoads demangle asked bytes s f =
    symbol_file asked bytes s ≡ Ok f → ReadsBack f.records → (named : List ℕ)
    → IsNamedText demangle (text_of f) named → SaysTold demangle asked.inlines s (named ++ f.unwinding)

-- a text was written of which a consumer says what is told
pub record WritesTold (demangle inlines : Bool) (s : Streams) (old new : Option (List ℕ))
    : Type 0 where
  pub text : List ℕ
  pub appends : Appends old new text
  pub says : SaysTold demangle inlines s text
