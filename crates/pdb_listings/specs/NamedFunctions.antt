-- Functions that have a name.
use Rattle.std.specs.Prelude.{◌≡◌, ℕ, Bool, true, false, List, [], ◌∷◌, Option, None, Some}
use Rattle.pdb_owners.specs.FunctionOrder.{Function}
use Rattle.pdb_listings.specs.Names.{IsCalled, is_decorated}
use Rattle.pdb_listings.specs.declared.functions.FunctionRow.{FunctionRow}

-- Whether a name was found to be the one asked for: it was where it is so, whole or without
-- arguments; and if it isn't decorated, there alone. A decorated name may be found undecorated.
abbrev pub IsFoundBy : List ℕ → Option (List ℕ) → Bool → Type 0
IsFoundBy asked None found = found ≡ false
IsFoundBy asked (Some name) found =
    (IsCalled name asked → found ≡ true)
    × (is_decorated name ≡ false → found ≡ true → IsCalled name asked)

-- whether a function was found to have a name
abbrev pub IsNamed : Function → List ℕ → Bool → Type 0
IsNamed f asked found = IsFoundBy asked f.name found

-- each mark says whether its function has a name
abbrev pub AreNamed : List ℕ → List FunctionRow → List Bool → Type 0
AreNamed asked [] [] = Unit {0}
AreNamed asked [] (m ∷ marks) = ⊥
AreNamed asked (r ∷ rows) [] = ⊥
AreNamed asked (r ∷ rows) (m ∷ marks) = IsNamed r.function asked m × AreNamed asked rows marks
