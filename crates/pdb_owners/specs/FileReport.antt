-- The report of sizes by file.
use Rattle.std.specs.Prelude.{◌≡◌, ℕ, List}
use Rattle.pdb_addresses.specs.Addresses.{Map}
use Rattle.pdb_owners.specs.FileAnswers.{FileAnswer, file_cmp}
use Rattle.pdb_owners.specs.Counts.{count, count_of_none}
use Rattle.pdb_owners.specs.Databases.{Database}
use Rattle.pdb_owners.specs.Table.{IsTable, count_in}
use Rattle.pdb_owners.specs.Texts.{by_file_text}

-- a line for each file that some address has, in the order of their texts, each with its count, and
-- the counts of addresses without a known file, of addresses that have nothing, and of addresses
-- that can't be read
pub record IsFileReport (m : Map) (db : Database FileAnswer) (s e : ℕ)
    (text : List ℕ) : Type 0 where
  pub table : List (FileAnswer × ℕ)
  pub in_order : IsTable file_cmp table
  pub each : (f : FileAnswer) → count_in file_cmp table f ≡ count file_cmp m db s e f
  pub text_is : text ≡ by_file_text table (count_of_none m db s e)
