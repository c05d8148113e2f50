-- Further levels on a path: the path and the level below once one is gone, and the cause for which
-- none was begun.
use Rattle.std.specs.Prelude.{◌≡◌, ℕ, false, [], Result}
use Rattle.std.specs.Borrow.{Fml, MutBor, Lends, RestsIfErr, RattleType}
use mir.Syntax.{named}
use Rattle.pdb_resolving.specs.declared.error.Error.{Error}
use Rattle.pdb_resolving.specs.declared.error.Error.TheVariants.{CircularTypeDefinition}
use Rattle.pdb_resolving.specs.declared.error.Error.TheVariants.{OutOfMemory}
use Rattle.pdb_type_printing.specs.Paths.{Path, may_enter}
use Rattle.pdb_type_printing.specs.declared.path.Seen.{Seen}
use Rattle.pdb_type_printing.specs.contracts.index_path.IndexPath as index_path
use Rattle.pdb_type_printing.specs.contracts.path.Seen.{the_row}

-- the type of a path, and that of a level, as borrows name them
abbrev pub path_type : RattleType
path_type = index_path.the_row

abbrev pub level_type : RattleType
level_type = the_row (record { mir = named 1; lft = [] })

-- a level over the path that its path has become
abbrev pub with_path : Seen → path_type.Denot → Seen
with_path level path = record level { path = record level.path { now = path } }

-- a level ends over the path that the further one leaves
abbrev pub LendsPath : MutBor Seen → Seen → Fml
LendsPath level further = Lends level_type path_type level further.path (with_path level.now)

-- a path stays where no level was begun on it; otherwise it ends as that level leaves it
abbrev pub RestsIfRefused : MutBor path_type.Denot → Result Seen Error → Fml
RestsIfRefused path result =
    RestsIfErr path_type path (λ level. level.path.ghost_name) result
    (λ new. new.items ≡ path.now.items)

-- the cause for which no level of an index was begun on a path
abbrev pub IsBlocked : Error → Path → ℕ → Type 0
IsBlocked OutOfMemory path i = Unit {0}
IsBlocked e path i = (may_enter path i ≡ false) × (e ≡ CircularTypeDefinition i)
