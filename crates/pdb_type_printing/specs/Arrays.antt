-- Arrays of arrays.
use Rattle.std.specs.Prelude.{ℕ, zero, suc, List, [], ◌∷◌, ◌++◌, Option, Some, None, Result, Ok}
use Rattle.std.specs.Prelude.{Err, if◌then◌else◌}
use Rattle.pdb_container.specs.Fault.{◌>>=◌}
use Rattle.pdb_container.specs.declared.index.TypeIndex.{TypeIndex}
use Rattle.pdb_records.specs.Forms as forms
use Rattle.pdb_records.specs.Forms.{TypeForm, Plain, ArrayForm}
use Rattle.pdb_resolving.specs.Cause.{Cause, ByFault}
use Rattle.pdb_resolving.specs.Fault.{CircularTypeDefinition}
use Rattle.pdb_type_printing.specs.Brackets.{first_or_zero}
use Rattle.pdb_type_printing.specs.Paths.{Path, is_on}
use Rattle.pdb_type_printing.specs.Env.{Env}

-- arrays of arrays: the first dimension of each, the outer first, the innermost element's index,
-- and the form of that element
pub record Elements : Type 0 where
  pub dimensions : List ℕ
  pub index : ℕ
  pub form : TypeForm

-- an array's first dimension and its element
unfoldable pub array_step : TypeForm → Option (ℕ × TypeIndex)
array_step (Plain (forms.Array a)) = Some (first_or_zero a.dimensions, a.element_type)
array_step form = None

-- the element that was read, if it is the innermost one; or the elements further down an array
abbrev pub elements_behind : (ℕ → ℕ → Result Elements Cause) → Elements → Option (ℕ × TypeIndex)
    → Result Elements Cause
elements_behind further here None = Ok here
elements_behind further here (Some array) = further array.0 array.1.0

-- the elements from an array's element down to one that is no array, with the elements passed so
-- far and the dimensions so far
unfoldable pub elements_from : Env → ℕ → Path → List ℕ → ℕ → Result Elements Cause
elements_from env zero passed dimensions i = Err (ByFault (CircularTypeDefinition i))
elements_from env (suc left) passed dimensions i =
    if is_on passed i then Err (ByFault (CircularTypeDefinition i))
    else (env.read i >>= λ form. elements_behind
    (λ d element. elements_from env left (passed ++ i ∷ []) (dimensions ++ d ∷ []) element)
    record { dimensions = dimensions; index = i; form = form }
    (array_step form))

-- the arrays that begin with this one, at most 1,024 elements down
abbrev pub elements_of : Env → ArrayForm → Result Elements Cause
elements_of env a = elements_from env 1024 [] (first_or_zero a.dimensions ∷ []) a.element_type.0
