use Rattle.std.proofs.Common.{ℕ, ap, refl, rules}
use Rattle.std.proofs.lemmas.Bool.{eqb-true}
use Rattle.pdb_container.specs.Fault.{said}
use Rattle.pdb_container.specs.declared.error.Error.TheVariants as errors
use Rattle.pdb_container.specs.contracts.error.Error.{enum}
use Rattle.pdb_container.proofs.Variants.{alike_by_variant, ◌&◌}
use Rattle.pdb_container.proofs.laws.equal_values_are_one.Goals as goal

-- by the variants, in their order
pub returns-clause-equal_errors : goal.returns-clause-equal_errors
returns-clause-equal_errors c a b h = alike_by_variant enum _ said a b h (
    (λ x y h. refl)
    & (λ x y h. ap (λ (n : ℕ). said (errors.InvalidPageSize n)) (eqb-true x.0 y.0 h))
    & (λ x y h. ap (λ (n : ℕ). said (errors.PageReferenceOutOfRange n)) (eqb-true x.0 y.0 h))
    & (λ x y h. ap (λ (n : ℕ). said (errors.StreamNotFound n)) (eqb-true x.0 y.0 h))
    & (λ x y h. refl)
    & (λ x y h. search rules)
    & (λ x y h. search rules)
    & (λ x y h. refl)
    & (λ x y h. search rules)
    & (λ x y h. refl)
    & (λ x y h. refl)
    & (λ x y h. ap (λ (n : ℕ). said (errors.UnimplementedSymbolKind n)) (eqb-true x.0 y.0 h))
    & (λ x y h. search rules)
    & (λ x y h. refl)
    & (λ x y h. ap (λ (n : ℕ). said (errors.TypeNotFound n)) (eqb-true x.0 y.0 h))
    & (λ x y h. search rules)
    & (λ x y h. ap (λ (n : ℕ). said (errors.UnexpectedNumericPrefix n)) (eqb-true x.0 y.0 h))
    & (λ x y h. ap (λ (n : ℕ). said (errors.UnimplementedTypeKind n)) (eqb-true x.0 y.0 h))
    & (λ x y h. ap (λ (n : ℕ). said (errors.UnimplementedFileChecksumKind n)) (eqb-true x.0 y.0 h))
    & (λ x y h. ap (λ (n : ℕ). said (errors.InvalidFileChecksumOffset n)) (eqb-true x.0 y.0 h))
    & (λ x y h. refl)
    & (λ x y h. ap (λ (n : ℕ). said (errors.UnknownBinaryAnnotation n)) (eqb-true x.0 y.0 h))
    & (λ x y h. ap (λ (n : ℕ). said (errors.NotACrossModuleRef n)) (eqb-true x.0 y.0 h))
    & (λ x y h. ap (λ (n : ℕ). said (errors.CrossModuleRefNotFound n)) (eqb-true x.0 y.0 h))
    & (λ x y h. search rules)
    & (λ x y h. refl)
    & tt)
