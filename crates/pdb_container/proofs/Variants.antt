-- Derived `==` on an enum, by its variants.
use Rattle.std.proofs.Common.{◌≡◌, ◌∙◌, sym, ap, List, [], ◌∷◌, Bool, true, false, inl, inr}
use Rattle.std.proofs.lemmas.Bool.{false≢true}
use denote.Struct.Field.{Field}
use denote.Struct.Values.{Values}
use denote.Enum.Compared.{Each, by}
use denote.Enum.Declared.{Choice, Record}

-- of each variant: two values of it that are equal look alike
abbrev AlikeByVariant : {A : Type 0} → (Fss : List (List Field)) → Each Bool Fss → (Choice Fss → A) → Type 0
AlikeByVariant [] same look = Unit {0}
AlikeByVariant (Fs ∷ Fss) same look = ((x y : Values Fs) → same.0 x y ≡ true → look (inl x) ≡ look (inl y)) × AlikeByVariant Fss same.1 (λ c. look (inr c))

infixr 5 ◌&◌
-- what holds of a variant, before what holds of each later one
abbrev pub ◌&◌ : {A B : Type 0} → A → B → A × B
first & later = (first, later)

choices_alike : {A : Type 0} (Fss : List (List Field)) (same : Each Bool Fss) (look : Choice Fss → A) (c d : Choice Fss) → by false false Fss same c d ≡ true → AlikeByVariant Fss same look → look c ≡ look d
choices_alike [] same look c d h each = absurd c
choices_alike (Fs ∷ Fss) same look (inl x) (inl y) h each = each.0 x y h
choices_alike (Fs ∷ Fss) same look (inl x) (inr d) h each = absurd (false≢true h)
choices_alike (Fs ∷ Fss) same look (inr c) (inl y) h each = absurd (false≢true h)
choices_alike (Fs ∷ Fss) same look (inr c) (inr d) h each = choices_alike Fss same.1 (λ e. look (inr e)) c d h each.1

-- two values of an enum that are equal look alike, where two of the same variant do
pub alike_by_variant : {A : Type 0} (N : Record) (same : Each Bool N.parts) (look : N.D → A) (a b : N.D) → by false false N.parts same (N.as_values a) (N.as_values b) ≡ true
    → AlikeByVariant N.parts same (λ c. look (N.make c)) → look a ≡ look b
alike_by_variant N same look a b h each =
    sym (ap look (N.eta a)) ∙ choices_alike N.parts same (λ c. look (N.make c)) (N.as_values a) (N.as_values b) h each ∙ ap look (N.eta b)
