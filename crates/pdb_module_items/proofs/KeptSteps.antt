-- Which sizes are cached when one more is.
use Rattle.std.proofs.Common.{◌≡◌, ℕ, List, Bool, true, false, Some, Ok, refl, sym, ap, subst, ◌∙◌}
use Rattle.std.proofs.Common.{cond, arith}
use Rattle.std.proofs.lemmas.Bool.Decides.{nat_tests}
use Rattle.std.proofs.lemmas.Option.{same_Some}
use Rattle.std.specs.BTreeMap.{BTreeMap, IsUnchanged, Updates, get, is_at}
use Rattle.std.specs.Map.{lookup}
use Rattle.std.specs.Ordering.{nat_cmp}
use Rattle.pdb_container_types.specs.Items.{Table}
use Rattle.pdb_records.specs.Forms.{TypeForm}
use Rattle.pdb_module_items.specs.KeptSizes.{AreSizes, IsSize}
use Rattle.pdb_module_items.specs.Reading.{type_in}
use Rattle.pdb_module_items.specs.Sizes.{form_bytes, read_bytes}

-- where a size is cached under its index, each size is still that of the type at its index
pub size_kept : (types : Table) (old new : BTreeMap ℕ ℕ) (index size : ℕ)
    → Updates nat_cmp old new index (Some size) → IsSize types index size → AreSizes types old
    → AreSizes types new
size_kept types old new index size updates right kept =
    record { each = λ i n h. step i n (is_at (nat_cmp index) i) refl (sym (updates.0 i) ∙ h) }
  where
    step : (i n : ℕ) (b : Bool) → is_at (nat_cmp index) i ≡ b
        → cond (is_at (nat_cmp index) i) (Some size) (get nat_cmp old i) ≡ Some n → IsSize types i n
    step i n true t e =
        let same : index ≡ i = grind (arith, nat_tests) in
        let value : size ≡ n =
        same_Some _ _ (sym (ap (λ b. cond b (Some size) (get nat_cmp old i)) t) ∙ e) in
        subst (λ (j : ℕ). IsSize types j n) same
        (subst (λ (m : ℕ). IsSize types index m) value right)
    step i n false t e =
        kept.each i n (sym (ap (λ b. cond b (Some size) (get nat_cmp old i)) t) ∙ e)

-- and so they are where nothing more is cached
pub sizes_stay : (types : Table) (old new : BTreeMap ℕ ℕ) → IsUnchanged old new → AreSizes types old
    → AreSizes types new
sizes_stay types old new same kept =
    record {
      each = λ i n h. kept.each i n
          (ap (λ (es : List (ℕ × ℕ)). lookup (is_at (nat_cmp i)) es) (sym same) ∙ h);
    }

-- a size that is cached is that of the type that was read
pub size_read : (types : Table) (sizes : BTreeMap ℕ ℕ) (pointer_size index size : ℕ) (t : TypeForm)
    → AreSizes types sizes → type_in types index ≡ Ok t → Some size ≡ get nat_cmp sizes index
    → (of : ℕ → ℕ) → size ≡ form_bytes types pointer_size of index t
size_read types sizes pointer_size index size t kept read found of =
    kept.each index size (sym found) pointer_size of
    ∙ ap (read_bytes types pointer_size of index) read
