-- Places compare as a partial order does.
use Rattle.std.proofs.Common.{sym, ap, ◌∙◌}
use Rattle.std.specs.Prelude.{◌≡◌, ℕ, Bool, true, false, ◌&&◌, ◌==◌, Option, None, Some, option_map}
use Rattle.std.specs.Prelude.{cond, refl}
use Rattle.std.specs.Bool.{Decides}
use Rattle.std.specs.Cmp.{IsPartialOrder, nat_eq_equiv, unsigned_po, first_so, second_so}
use Rattle.std.specs.declared.cmp.Ordering.{Ordering}
use Rattle.std.specs.declared.cmp.Ordering.TheVariants.{Less, Equal}
use Rattle.std.specs.Ordering.{nat_cmp, ordering_reverse}
use Rattle.pdb_addresses.specs.Places.{compared}

-- two places that compare are in one section
answered : (b : Bool) (r : Option Ordering) (o : Ordering) → cond b r None ≡ Some o
    → (b ≡ true) × (r ≡ Some o)
answered true r o e = (refl, e)
answered false r o e = absurd cc

either_way : (a b : Bool) → (a && b) ≡ (b && a)
either_way true true = refl
either_way true false = refl
either_way false true = refl
either_way false false = refl

module _ {K : Type 0} (section offset : K → ℕ) where
  reversed : (x y : K) → compared (section x) (offset x) (section y) (offset y)
      ≡ option_map ordering_reverse (compared (section y) (offset y) (section x) (offset x))
  reversed x y =
      rw (nat_eq_equiv.symm (section x) (section y))
      (elim (section y == section x)
      as (λ b. cond b (Some (nat_cmp (offset x) (offset y))) None
      ≡ option_map ordering_reverse (cond b (Some (nat_cmp (offset y) (offset x))) None))
      [ true ↦ unsigned_po.antisymm (offset x) (offset y) | false ↦ refl ])

  chained : (x y z : K) → compared (section x) (offset x) (section y) (offset y) ≡ Some Less
      → compared (section y) (offset y) (section z) (offset z) ≡ Some Less
      → compared (section x) (offset x) (section z) (offset z) ≡ Some Less
  chained x y z f g =
      let a = answered (section x == section y) (Some (nat_cmp (offset x) (offset y))) Less f in
      let b = answered (section y == section z) (Some (nat_cmp (offset y) (offset z))) Less g in
      rw (nat_eq_equiv.congr (section x) (section y) (section z) a.0, b.0)
      (unsigned_po.trans (offset x) (offset y) (offset z) a.1 b.1)

  decided : (x y : K) → Decides ((section x == section y) && (offset x == offset y))
      (compared (section x) (offset x) (section y) (offset y) ≡ Some Equal)
  decided x y =
      elim (section x == section y)
      as (λ b. Decides (b && (offset x == offset y))
      (cond b (Some (nat_cmp (offset x) (offset y))) None ≡ Some Equal)) [
        | true ↦ unsigned_po.matches_eq (offset x) (offset y)
        | false ↦ (λ e. absurd cc, λ e. absurd cc)
      ]

  alike : (x y z : K) → (section x == section y) && (offset x == offset y) ≡ true
      → compared (section x) (offset x) (section z) (offset z)
      ≡ compared (section y) (offset y) (section z) (offset z)
  alike x y z e =
      rw (nat_eq_equiv.congr (section x) (section y) (section z)
      (first_so (section x == section y) (offset x == offset y) e))
      (ap (λ r. cond (section y == section z) r None)
      (unsigned_po.congr (offset x) (offset y) (offset z)
      (second_so (section x == section y) (offset x == offset y) e)))

  pub compared_laws : {same : K → K → Bool}
      → ((x y : K) → same x y ≡ (offset x == offset y) && (section x == section y))
      → IsPartialOrder same (λ x y. compared (section x) (offset x) (section y) (offset y))
  compared_laws is = record {
    antisymm = reversed;
    trans = chained;
    matches_eq = λ x y. rw (is x y ∙ either_way (offset x == offset y) (section x == section y))
        (decided x y);
    congr =
        λ x y z e. alike x y z
        (sym (is x y ∙ either_way (offset x == offset y) (section x == section y)) ∙ e);
  }
