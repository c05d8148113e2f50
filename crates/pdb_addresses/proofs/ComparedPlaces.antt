-- Where two places compare as equal, and where they don't compare.
use Rattle.std.proofs.Common.{◌≡◌, ◌≢◌, ℕ, arith}
use Rattle.std.proofs.lemmas.Bool.Decides.{nat_tests}
use Rattle.std.specs.Prelude.{None, Some}
use Rattle.std.specs.declared.cmp.Ordering.TheVariants.{Equal}
use Rattle.pdb_addresses.specs.Places.{compared}

-- as equal only with one section and one offset
pub same_section : (s o s' o' : ℕ) → compared s o s' o' ≡ Some Equal → s ≡ s'
same_section s o s' o' e = grind (arith, nat_tests)

pub same_offset : (s o s' o' : ℕ) → compared s o s' o' ≡ Some Equal → o ≡ o'
same_offset s o s' o' e = grind (arith, nat_tests)

-- a place with itself
pub with_itself : (s o s' o' : ℕ) → s ≡ s' → o ≡ o' → compared s o s' o' ≡ Some Equal
with_itself s o s' o' e e' = grind (arith, nat_tests)

-- in one section they compare
pub in_one_section : (s o s' o' : ℕ) → compared s o s' o' ≡ None → s ≢ s'
in_one_section s o s' o' e h = grind (arith, nat_tests)

-- in two they don't
pub in_two_sections : (s o s' o' : ℕ) → s ≢ s' → compared s o s' o' ≡ None
in_two_sections s o s' o' h = grind (arith, nat_tests)
