-- The report of sizes.
use Rattle.std.specs.Prelude.{◌≡◌, ℕ, List}
use Rattle.pdb_addresses.specs.Addresses.{Map}
use Rattle.pdb_owners.specs.FunctionOrder.{Function, function_cmp}
use Rattle.pdb_owners.specs.Counts.{count, count_of_none}
use Rattle.pdb_owners.specs.Databases.{Database}
use Rattle.pdb_owners.specs.Table.{IsTable, count_in}
use Rattle.pdb_owners.specs.Texts.{sizes_text}

-- a line for each function that some address has, in their order, each with its count, and the
-- count of nothing
pub record IsReport (m : Map) (db : Database Function) (s e : ℕ) (text : List ℕ) : Type 0 where
  pub table : List (Function × ℕ)
  pub in_order : IsTable function_cmp table
  pub each : (f : Function) → count_in function_cmp table f ≡ count function_cmp m db s e f
  pub text_is : text ≡ sizes_text table (count_of_none m db s e)
