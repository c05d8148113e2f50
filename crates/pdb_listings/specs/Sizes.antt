-- Bytes by name, and the changes between two lists of them.
use Rattle.std.specs.Prelude.{◌≡◌, ℕ, ◌+◌, ◌-◌, ◌^◌, ◌<◌, ◌==◌, ◌||◌, Bool, List, [], ◌∷◌, codes, drop}
use Rattle.std.specs.Prelude.{false, if◌then◌else◌, length, slice_index, string_bytes, true}
use Rattle.std.specs.List.{list_any, sum_by}
use Rattle.std.specs.Cmp.Lexicographic.{slice_cmp}
use Rattle.std.specs.Ordering.{nat_cmp}
use Rattle.std.proofs.lemmas.Map.Lookups.{CmpEqualImpliesEq, exact_bytes}
use Rattle.pdb_owners.specs.FileAnswers.{FileAnswer, Nothing, Unreadable, NoFile, File}
use Rattle.pdb_owners.specs.Table.{sum_where}
use Rattle.pdb_listings.specs.declared.changes.Change.{Change}
use Rattle.pdb_listings.specs.declared.sizes.Size.{Size}

-- names that compare as equal are one
pub name_exact : CmpEqualImpliesEq (slice_cmp nat_cmp)
name_exact = exact_bytes

-- a name with its bytes, as a table has them
abbrev pub size_seen : Size → List ℕ × ℕ
size_seen s = (string_bytes s.name, s.bytes)

-- all bytes together
abbrev pub bytes_of : List Size → ℕ
bytes_of sizes = sum_by (λ s. s.bytes) sizes

-- Bytes were added to the bytes of a name in a table, and to no other name's.
abbrev pub AddsTo : List ℕ → ℕ → List (List ℕ × ℕ) → List (List ℕ × ℕ) → Type 0
AddsTo name bytes old new = (test : List ℕ → Bool)
    → sum_where test new ≡ sum_where test old + (if test name then bytes else 0)

-- the number of bytes that a size lacks of the largest
abbrev pub lack_of : Size → ℕ
lack_of s = 2 ^ 64 - 1 - s.bytes

-- the bytes of a size, if its name passes a test
abbrev pub size_in : (List ℕ → Bool) → Size → ℕ
size_in test s = if test (string_bytes s.name) then s.bytes else 0

-- the bytes that a name had, if it passes a test
abbrev pub old_in : (List ℕ → Bool) → Change → ℕ
old_in test c = if test (string_bytes c.name) then c.old else 0

-- the bytes that a name has, if it passes a test
abbrev pub new_in : (List ℕ → Bool) → Change → ℕ
new_in test c = if test (string_bytes c.name) then c.new else 0

-- the bytes of the names that pass a test
abbrev pub bytes_where : (List ℕ → Bool) → List Size → ℕ
bytes_where test sizes = sum_by (size_in test) sizes

-- the bytes that the names of changes had that pass a test
abbrev pub old_where : (List ℕ → Bool) → List Change → ℕ
old_where test changes = sum_by (old_in test) changes

-- the bytes that the names of changes have that pass a test
abbrev pub new_where : (List ℕ → Bool) → List Change → ℕ
new_where test changes = sum_by (new_in test) changes

-- A name had the bytes of a size, if the size counts; otherwise it had none.
abbrev pub HadIf : Bool → Size → Change → Type 0
HadIf counts s c = (test : List ℕ → Bool)
    → old_in test c ≡ (if counts then size_in test s else 0)

-- A name has the bytes of a size, if the size counts; otherwise it has none.
abbrev pub HasIf : Bool → Size → Change → Type 0
HasIf counts s c = (test : List ℕ → Bool)
    → new_in test c ≡ (if counts then size_in test s else 0)

-- The names that pass any test had in changes the bytes that they have in sizes.
abbrev pub HadBytes : List Size → List Change → Type 0
HadBytes sizes changes = (test : List ℕ → Bool)
    → old_where test changes ≡ bytes_where test sizes

-- The names that pass any test have in changes the bytes that they have in sizes.
abbrev pub HaveBytes : List Size → List Change → Type 0
HaveBytes sizes changes = (test : List ℕ → Bool)
    → new_where test changes ≡ bytes_where test sizes

-- The names that pass any test had in changes the bytes that they had before, and the bytes that
-- they have in sizes.
abbrev pub HadMore : List Change → List Size → List Change → Type 0
HadMore before sizes changes = (test : List ℕ → Bool)
    → old_where test changes ≡ old_where test before + bytes_where test sizes

-- The names that pass any test have in changes the bytes that they had before, and the bytes that
-- they have in sizes.
abbrev pub HaveMore : List Change → List Size → List Change → Type 0
HaveMore before sizes changes = (test : List ℕ → Bool)
    → new_where test changes ≡ new_where test before + bytes_where test sizes

-- The names that pass any test had in changes the bytes that they had in others.
abbrev pub HadSame : List Change → List Change → Type 0
HadSame others changes = (test : List ℕ → Bool) → old_where test changes ≡ old_where test others

-- The names that pass any test have in changes the bytes that they have in others.
abbrev pub HaveSame : List Change → List Change → Type 0
HaveSame others changes = (test : List ℕ → Bool) → new_where test changes ≡ new_where test others

-- all bytes that the names of changes had
abbrev pub old_total : List Change → ℕ
old_total changes = sum_by (λ c. c.old) changes

-- all bytes that the names of changes have
abbrev pub new_total : List Change → ℕ
new_total changes = sum_by (λ c. c.new) changes

-- The bytes that all names have, less the bytes that they had, are the new total less the old one.
abbrev pub IsDifference : List Size → List Size → List Change → Type 0
IsDifference old new changes = new_total changes + bytes_of old ≡ old_total changes + bytes_of new

-- a byte that parts a path
abbrev pub is_separator : ℕ → Bool
is_separator b = (b == 47) || (b == 92)

-- a separator stands at this place of a path, and none after it
pub record IsLastSeparator (path : List ℕ) (place : ℕ) : Type 0 where
  pub within : place < length path
  pub there : is_separator (slice_index path place) ≡ true
  pub none_after : list_any is_separator (drop (place + 1) path) ≡ false

-- the folder of a path: the text before its last separator; empty where there is none
abbrev pub folder : List ℕ → List ℕ
folder [] = []
folder (b ∷ bs) = if list_any is_separator bs then b ∷ folder bs else []

-- the path by which a source file is counted
abbrev pub file_name : FileAnswer → List ℕ
file_name Nothing = codes "(no file)"
file_name Unreadable = codes "(unreadable)"
file_name NoFile = codes "(no file)"
file_name (File path) = path

-- the folder by which a source file is counted
abbrev pub folder_name : FileAnswer → List ℕ
folder_name (File path) = folder path
folder_name answer = file_name answer

-- the folder or the path by which a source file is counted
abbrev pub path_name : Bool → FileAnswer → List ℕ
path_name by_folder answer = if by_folder then folder_name answer else file_name answer
