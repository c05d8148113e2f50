-- The type that a function returns, by what is shown of it.
use Rattle.std.proofs.Common.{◌≡◌, ℕ, Bool, true, false, cond, refl}
use Rattle.std.specs.Prelude.{◌&&◌, ◌||◌, Option, Some, None}
use Rattle.pdb_container.specs.Bits.{has_bit}
use Rattle.pdb_container.specs.declared.index.TypeIndex.{TypeIndex}
use Rattle.pdb_records.specs.declared.type_attributes.FunctionAttributes.{FunctionAttributes}
use Rattle.pdb_records.specs.Attributes.{constructs}
use Rattle.pdb_type_printing.specs.Paths.{Path}
use Rattle.pdb_type_printing.specs.Printed.{Text, Done}
use Rattle.pdb_type_printing.specs.Returns.{shown_return}
use Rattle.pdb_type_printing.specs.Env.{Env}
use Rattle.pdb_type_printing.specs.Types.{Visit, shown_text, returned, returned_unless}

by_cases : (env : Env) (visit : Visit) (path : Path) (t : Option TypeIndex) (attributes :
    FunctionAttributes)
    (w : Text) (flag constructor : Bool) → constructs attributes ≡ constructor
    → cond flag (Done w) (returned t attributes env visit path w)
    ≡ shown_text (cond ((flag && true) || constructor) None t) env visit path w
by_cases env visit path t attributes w true constructor is = refl
by_cases env visit path None attributes w false true is = refl
by_cases env visit path None attributes w false false is = refl
by_cases env visit path (Some t) attributes w false true is = rw is refl
by_cases env visit path (Some t) attributes w false false is = rw is refl

behind_by_cases : (env : Env) (visit : Visit) (path : Path) (t : Option TypeIndex)
    (attributes : FunctionAttributes) (w : Text) (flag constructor : Bool)
    → constructs attributes ≡ constructor
    → returned t attributes env visit path w ≡ shown_text (cond ((flag && false) || constructor)
    None t) env visit path w
behind_by_cases env visit path None attributes w true true is = refl
behind_by_cases env visit path None attributes w true false is = refl
behind_by_cases env visit path None attributes w false true is = refl
behind_by_cases env visit path None attributes w false false is = refl
behind_by_cases env visit path (Some t) attributes w true true is = rw is refl
behind_by_cases env visit path (Some t) attributes w true false is = rw is refl
behind_by_cases env visit path (Some t) attributes w false true is = rw is refl
behind_by_cases env visit path (Some t) attributes w false false is = rw is refl

-- on its own
pub shown_unless : (env : Env) (visit : Visit) (path : Path) (t : Option TypeIndex)
    (attributes : FunctionAttributes) (w : Text) → returned_unless t attributes env visit path w
    ≡ shown_text (shown_return env.flags t attributes false) env visit path w
shown_unless env visit path t attributes w =
    by_cases env visit path t attributes w (has_bit env.flags 1) (constructs attributes) refl

-- where pointers point to the function
pub shown_behind : (env : Env) (flags : ℕ) (visit : Visit) (path : Path) (t : Option TypeIndex)
    (attributes : FunctionAttributes) (w : Text) → returned t attributes env visit path w
    ≡ shown_text (shown_return flags t attributes true) env visit path w
shown_behind env flags visit path t attributes w =
    behind_by_cases env visit path t attributes w (has_bit flags 1) (constructs attributes) refl
