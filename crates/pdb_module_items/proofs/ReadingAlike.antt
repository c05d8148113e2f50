-- What types, ids and sizes are in a module depends on the tables and on what its indices mean.
use Rattle.std.proofs.Common.{◌≡◌, ℕ, zero, suc, refl}
use Rattle.pdb_container.specs.Fault.{◌>>=◌}
use Rattle.pdb_resolving.specs.Cause.{of_no_table}
use Rattle.pdb_resolving.specs.Resolving.{resolve}
use Rattle.pdb_module_items.specs.Reading.{Parts as Reading, type_in, id_in, type_at, id_at}
use Rattle.pdb_module_items.specs.Sizes.{size_within, resolved_bytes}

-- two readings that read one and the same tables, and in which an index of a module means the same
module _ (p q : Reading) (m : ℕ) (types_are : p.types ≡ q.types) (ids_are : p.ids ≡ q.ids)
    (pointers_are : p.pointer_size ≡ q.pointer_size)
    (same : resolve p.modules m ≡ resolve q.modules m) where
  pub types_alike : type_at p m ≡ type_at q m
  unfolding type_at
  types_alike = λ i. λ index. same i index
      >>= λ resolved. of_no_table (type_in (types_are i) resolved)

  pub ids_alike : id_at p m ≡ id_at q m
  unfolding id_at
  ids_alike = λ i. λ index. same i index >>= λ resolved. of_no_table (id_in (ids_are i) resolved)

  pub sizes_alike : (steps : ℕ) → size_within p m steps ≡ size_within q m steps
  unfolding size_within
  sizes_alike zero = refl
  sizes_alike (suc steps) = λ i. λ index. resolved_bytes (types_are i) (pointers_are i)
      (sizes_alike steps i) (same i index)
