-- Bytes by the names of functions or of source files.
use Rattle.std.specs.Prelude.{◌≡◌, ℕ, ◌+◌, ◌-◌, Bool, false, true, List, Result, IfOk, OnOk}
use Rattle.std.specs.Prelude.{if◌then◌else◌}
use Rattle.pdb_addresses.specs.Addresses.{Map}
use Rattle.pdb_owners.specs.Answers.{picked}
use Rattle.pdb_owners.specs.Counts.{counted_at, how_many}
use Rattle.pdb_owners.specs.Databases.{Keyed}
use Rattle.pdb_owners.specs.FileAnswers.{FileAnswer}
use Rattle.pdb_owners.specs.FunctionOrder.{Function}
use Rattle.pdb_owners.specs.Table.{sum_found, sum_of, sum_where}
use Rattle.pdb_owners.specs.Texts.{text_or}
use Rattle.pdb_listings.specs.Sizes.{path_name}

-- ---- names

-- the stored name of a function
abbrev pub stored_name : Function → List ℕ
stored_name f = text_or f.name

-- whether the name of an answer passes a test
abbrev pub named : {A : Type 0} → (A → List ℕ) → (List ℕ → Bool) → A → Bool
named name test answer = test (name answer)

-- bytes by names
abbrev pub Table : Type 0
Table = List (List ℕ × ℕ)

-- ---- one key more

-- Bytes were added to the name of the answer that a key stands for, if there is one, and to no
-- other name.
abbrev pub AddsNamed : {K A T E : Type 0} → (A → List ℕ) → Keyed K A → K → ℕ → Table → Table
    → Result T E → Type 0
AddsNamed name keyed key bytes old new result = OnOk result ((test : List ℕ → Bool)
    → sum_where test new
    ≡ sum_where test old + (if picked (named name test) (keyed.answer_of key) then bytes else 0))

-- Bytes were added if a key stands for an answer.
abbrev pub AddsBytes : {K A T E : Type 0} → Keyed K A → K → ℕ → Table → Table → Result T E → Type 0
AddsBytes keyed key bytes old new result = OnOk result
    (sum_of new ≡ sum_of old + (if picked (λ _. true) (keyed.answer_of key) then bytes else 0))

-- ---- the answers of keys

-- The bytes by name are the bytes of the keys whose answers have the name.
abbrev pub SumsNamed : {K A E : Type 0} → (A → List ℕ) → Keyed K A → List (K × ℕ)
    → Result Table E → Type 0
SumsNamed name keyed keys result = IfOk result (λ table. (test : List ℕ → Bool)
    → sum_where test table ≡ sum_found keyed.answer_of (named name test) keys)

-- The same by the stored names of functions, unless names are undecorated.
abbrev pub SumsNames : {K E : Type 0} → Bool → Keyed K Function → List (K × ℕ) → Result Table E
    → Type 0
SumsNames undecorate keyed keys result = undecorate ≡ false
    → SumsNamed stored_name keyed keys result

-- The bytes are the bytes of the keys that have an answer.
abbrev pub SumsBytes : {K A E : Type 0} → Keyed K A → List (K × ℕ) → Result Table E → Type 0
SumsBytes keyed keys result =
    IfOk result (λ table. sum_of table ≡ sum_found keyed.answer_of (λ _. true) keys)

-- ---- the addresses of a range

-- The bytes by name are the number of addresses of a range that have an answer of the name.
abbrev pub CountsNamed : {K A E : Type 0} → (A → List ℕ) → Map → Keyed K A → ℕ → ℕ
    → Result Table E → Type 0
CountsNamed name m keyed start end result = IfOk result (λ table. (test : List ℕ → Bool)
    → sum_where test table
    ≡ how_many (λ a. picked (named name test) (counted_at m keyed.places a)) start (end - start))

-- The same by the stored names of functions, unless names are undecorated.
abbrev pub CountsNames : {K E : Type 0} → Bool → Map → Keyed K Function → ℕ → ℕ → Result Table E
    → Type 0
CountsNames undecorate m keyed start end result = undecorate ≡ false
    → CountsNamed stored_name m keyed start end result

-- The same by the paths of source files, or by their folders.
abbrev pub CountsPaths : {K E : Type 0} → Bool → Map → Keyed K FileAnswer → ℕ → ℕ → Result Table E
    → Type 0
CountsPaths by_folder = CountsNamed (path_name by_folder)

-- The bytes are the number of addresses of a range that have an answer.
abbrev pub CountsBytes : {K A E : Type 0} → Map → Keyed K A → ℕ → ℕ → Result Table E → Type 0
CountsBytes m keyed start end result = IfOk result (λ table. sum_of table
    ≡ how_many (λ a. picked (λ _. true) (counted_at m keyed.places a)) start (end - start))
