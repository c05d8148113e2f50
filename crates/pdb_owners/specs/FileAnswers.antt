-- The files of addresses, and their order.
use Rattle.std.specs.Prelude.{ℕ, List, []}
use Rattle.std.specs.Cmp.Lexicographic.{slice_cmp}
use Rattle.std.specs.Ordering.{nat_cmp, ordering_then}
use Rattle.std.specs.String.{string_bytes}
use Rattle.std.specs.declared.cmp.Ordering.{Ordering}
use Rattle.pdb_owners.specs.declared.file_answer.FileAnswer as answers
use Rattle.pdb_owners.specs.declared.file_answer.FileAnswer.TheVariants as variants

-- the file of an address: there is nothing, or it can't be read, or the file isn't known, or it is
-- a text
pub data FileAnswer : Type 0 where
  Nothing : FileAnswer
  Unreadable : FileAnswer
  NoFile : FileAnswer
  File : List ℕ → FileAnswer

-- a file as the code has it
abbrev pub file_seen : answers.FileAnswer → FileAnswer
file_seen variants.Nothing = Nothing
file_seen variants.Unreadable = Unreadable
file_seen variants.NoFile = NoFile
file_seen (variants.File name) = File (string_bytes name)

-- the number of a kind
abbrev pub kind_of : FileAnswer → ℕ
kind_of Nothing = 0
kind_of Unreadable = 1
kind_of NoFile = 2
kind_of (File name) = 3

-- the text of a file; an empty one where there is none
abbrev pub name_of : FileAnswer → List ℕ
name_of Nothing = []
name_of Unreadable = []
name_of NoFile = []
name_of (File name) = name

-- by kind, and files by the bytes of their texts
abbrev pub file_cmp : FileAnswer → FileAnswer → Ordering
file_cmp a b =
    ordering_then (nat_cmp (kind_of a) (kind_of b)) (slice_cmp nat_cmp (name_of a) (name_of b))
