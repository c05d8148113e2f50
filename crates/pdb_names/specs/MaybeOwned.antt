-- The value that is owned, or borrowed for writing.
use Rattle.pdb_names.specs.declared.maybe_owned.MaybeOwned.{MaybeOwned}
use Rattle.pdb_names.specs.declared.maybe_owned.MaybeOwned.TheVariants.{Owned, Borrowed}

-- the value, wherever it lies
abbrev pub value_of : {T : Type 0} → MaybeOwned T → T
value_of (Owned x) = x
value_of (Borrowed r) = r.now

-- another value in its place
abbrev pub with_value : {T : Type 0} → MaybeOwned T → T → MaybeOwned T
with_value (Owned x) w = Owned w
with_value (Borrowed r) w = Borrowed (record r { now = w })
