-- Marks of functions that have a name.
use Rattle.std.proofs.Common.{ℕ, zero, suc, ◌+◌, ◌<◌, Bool, List, [], ◌∷◌, ◌++◌, length, take, get_or, subst, arith, ◌≡◌}
use Rattle.pdb_listings.specs.NamedFunctions.{AreNamed, IsNamed}
use Rattle.pdb_listings.specs.declared.functions.FunctionRow.{FunctionRow}

-- one mark more
pub mark_more : (asked : List ℕ) (rows : List FunctionRow) (i : ℕ) (d : FunctionRow) (marks : List Bool) (m : Bool) → i < length rows
    → AreNamed asked (take i rows) marks → IsNamed (get_or rows i d).function asked m
    → AreNamed asked (take (i + 1) rows) (marks ++ m ∷ [])
mark_more asked [] i d marks m lt so_far named = absurd (omega arith)
mark_more asked (r ∷ rows) zero d [] m lt so_far named = (named, tt)
mark_more asked (r ∷ rows) zero d (x ∷ marks) m lt so_far named = absurd so_far
mark_more asked (r ∷ rows) (suc i) d [] m lt so_far named = absurd so_far
mark_more asked (r ∷ rows) (suc i) d (x ∷ marks) m lt so_far named =
    let e : suc (i + 1) ≡ suc i + 1 = omega arith in
    subst (λ (n : ℕ). AreNamed asked (take n (r ∷ rows)) (x ∷ marks ++ m ∷ [])) e
    (so_far.0, mark_more asked rows i d marks m (omega arith) so_far.1 named)
