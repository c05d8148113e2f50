-- The path of indices to a type or an id, on which each stands once.
use Rattle.std.specs.Prelude.{◌≡◌, ℕ, ◌-◌, Bool, true, false, ◌&&◌, not, List, [], ◌∷◌, ◌++◌}
use Rattle.std.specs.Prelude.{length, Result, Ok, Err, ◌==◌, nat_lt}
use Rattle.std.specs.List.{list_any}
use Rattle.pdb_resolving.specs.declared.error.Error.{Error}
use Rattle.pdb_resolving.specs.declared.error.Error.TheVariants.{CircularTypeDefinition}
use Rattle.pdb_resolving.specs.declared.error.Error.TheVariants.{OutOfMemory}

-- indices, the first asked for first
abbrev pub Path : Type 0
Path = List ℕ

-- a path as clauses see it
pub record Indices : Type 0 where
  pub items : Path

-- whether an index is on the path
abbrev pub is_on : Path → ℕ → Bool
is_on path i = list_any (λ p. p == i) path

-- the number of further indices that the path may take
abbrev pub room : Path → ℕ
room path = 1024 - length path

-- whether an index may go on the path
abbrev pub may_enter : Path → ℕ → Bool
may_enter path i = nat_lt (length path) 1024 && not (is_on path i)

-- the cause for which an index was not put on the path, which stays as it was
abbrev pub Blocked : Error → Path → Path → ℕ → Type 0
Blocked OutOfMemory old new i = new ≡ old
Blocked e old new i = (new ≡ old) × (may_enter old i ≡ false) × (e ≡ CircularTypeDefinition i)

-- the answer of putting an index on the path, and the path that it left
abbrev pub Enters : {A : Type 0} → Result A Error → Path → Path → ℕ → Type 0
Enters (Ok x) old new i = (new ≡ old ++ i ∷ []) × (may_enter old i ≡ true)
Enters (Err e) old new i = Blocked e old new i
