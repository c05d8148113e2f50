-- The pointer by which a method receives its object.
use Rattle.std.specs.Prelude.{false, Option, Some, None, Result, Ok, if◌then◌else◌, ◌==◌}
use Rattle.pdb_container.specs.Fault.{◌>>=◌}
use Rattle.pdb_container.specs.declared.index.TypeIndex.{TypeIndex}
use Rattle.pdb_records.specs.Forms as forms
use Rattle.pdb_records.specs.Forms.{TypeForm, Plain}
use Rattle.pdb_resolving.specs.Cause.{Cause}
use Rattle.pdb_type_printing.specs.Objects.{This, this_to_modified}
use Rattle.pdb_type_printing.specs.Env.{Env}

-- a pointer that leads to the class is plain; otherwise the type to which it leads is read
abbrev pub this_to : Env → TypeIndex → TypeIndex → TypeIndex → Result This Cause
this_to env class this target =
    if target.0 == class.0 then Ok (false, None)
    else (env.read target.0 >>= λ form. Ok (this_to_modified class this form))

-- a type that is no pointer isn't plain
abbrev pub this_as : Env → TypeIndex → TypeIndex → TypeForm → Result This Cause
this_as env class this (Plain (forms.Pointer p)) = this_to env class this p.underlying_type
this_as env class this form = Ok (false, Some this)

-- a static method has no such pointer
abbrev pub this_of : Env → TypeIndex → Option TypeIndex → Result This Cause
this_of env class None = Ok (false, None)
this_of env class (Some this) = env.read this.0 >>= this_as env class this
