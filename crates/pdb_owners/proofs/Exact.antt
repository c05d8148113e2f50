-- Answers that compare as equal are one.
use Rattle.std.proofs.Common.{◌≡◌, true, refl, ap}
use Rattle.std.specs.declared.cmp.Ordering.{Ordering}
use Rattle.std.specs.declared.cmp.Ordering.TheVariants.{Less, Equal, Greater}
use Rattle.std.specs.Cmp.{IsTotalOrder}
use Rattle.std.specs.Ordering.{is_eq}
use Rattle.std.proofs.lemmas.Cmp.{tied_itself}
use Rattle.pdb_owners.specs.Answers.{is_same}

equal_of : (o : Ordering) → is_eq o ≡ true → o ≡ Equal
equal_of Less h = (cc)
equal_of Equal h = refl
equal_of Greater h = (cc)

module _ {A : Type 0} (cmp : A → A → Ordering) (total : IsTotalOrder cmp) (exact : (a b : A) → cmp a b ≡ Equal → a ≡ b) where
  pub same_is : (f g : A) → is_same cmp f g ≡ true → f ≡ g
  same_is f g h = exact f g (equal_of (cmp f g) h)

  pub same_itself : (f : A) → is_same cmp f f ≡ true
  same_itself f = ap is_eq (tied_itself total f)
