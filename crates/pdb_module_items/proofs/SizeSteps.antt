-- Sizes that lead from type to type.
use Rattle.std.proofs.Common.{◌≡◌, ℕ, suc, ◌+◌, ◌-◌, ◌<◌, ◌≤◌, Result, refl, sym, ap, ◌∙◌, arith}
use Rattle.pdb_container.specs.declared.error.Error.TheVariants as causes
use Rattle.pdb_container.specs.declared.index.TypeIndex.{TypeIndex}
use Rattle.pdb_container_types.specs.Items.{Table}
use Rattle.pdb_resolving.specs.declared.error.Error.TheVariants as errors
use Rattle.pdb_resolving.specs.declared.stop.Stop.{Stop}
use Rattle.pdb_resolving.specs.declared.stop.Stop.TheVariants as stops
use Rattle.pdb_resolving.specs.Cause.{Cause, Ends}
use Rattle.pdb_resolving.specs.Resolving.{resolve}
use Rattle.pdb_module_items.specs.Reading.{Parts}
use Rattle.pdb_module_items.specs.Sizes.{resolved_bytes, size_within}

-- one step
step : (p : Parts) (asking steps index : ℕ) → size_within p asking (suc steps) index
    ≡ resolved_bytes p.types p.pointer_size (size_within p asking steps)
    (resolve p.modules asking index)
unfolding size_within
step p asking steps index = refl

-- a type that states its size has that
pub size_known : (p : Parts) (asking passed index size total : ℕ) → passed < 1024
    → ((of : ℕ → ℕ) → size ≡ resolved_bytes p.types p.pointer_size of
    (resolve p.modules asking index))
    → size_within p asking (1024 - passed) index ≡ total → total ≡ size
size_known p asking passed index size total lt stated so_far =
    let left : 1024 - passed ≡ suc (1024 - (passed + 1)) = omega arith in
    sym so_far ∙ ap (λ n. size_within p asking n index) left
    ∙ step p asking (1024 - (passed + 1)) index
    ∙ sym (stated (size_within p asking (1024 - (passed + 1))))

-- a type that leads to another one has that one's size, with a step less
pub size_on : (p : Parts) (asking passed index : ℕ) (underlying : TypeIndex) (total : ℕ)
    → passed < 1024
    → ((of : ℕ → ℕ) → of underlying.0 ≡ resolved_bytes p.types p.pointer_size of
    (resolve p.modules asking index))
    → size_within p asking (1024 - passed) index ≡ total
    → size_within p asking (1024 - (passed + 1)) underlying.0 ≡ total
size_on p asking passed index underlying total lt stated so_far =
    let left : 1024 - passed ≡ suc (1024 - (passed + 1)) = omega arith in
    stated (size_within p asking (1024 - (passed + 1)))
    ∙ sym (step p asking (1024 - (passed + 1)) index)
    ∙ sym (ap (λ n. size_within p asking n index) left) ∙ so_far

-- past 1,024 types the size is 0
pub size_past : (p : Parts) (asking passed index total : ℕ) → 1024 ≤ passed
    → size_within p asking (1024 - passed) index ≡ total → total ≡ 0
unfolding size_within
size_past p asking passed index total past so_far = let none : 1024 - passed ≡ 0 = omega arith in
    sym so_far ∙ ap (λ n. size_within p asking n index) none

-- a type whose index can't be resolved has the size 0
pub size_unread : (types : Table) (pointer_size : ℕ) (of : ℕ → ℕ) (s : Stop)
    (resolved : Result ℕ Cause) → (s ≡ stops.ByError errors.OutOfMemory → ⊥) → Ends s resolved
    → 0 ≡ resolved_bytes types pointer_size of resolved
size_unread types pointer_size of (stops.ByError errors.OutOfMemory) resolved other h =
    absurd (other refl)
size_unread types pointer_size of (stops.ByError (errors.PdbError causes.OutOfMemory)) resolved
    other h = absurd h
size_unread types pointer_size of (stops.ByError (errors.FormatError cause)) resolved other h =
    absurd h
size_unread types pointer_size of (stops.ByError e) resolved other h =
    sym (ap (resolved_bytes types pointer_size of) h)
size_unread types pointer_size of (stops.ByTable table e) resolved other h =
    sym (ap (resolved_bytes types pointer_size of) h.1)
