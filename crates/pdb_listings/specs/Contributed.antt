-- The bytes that modules contribute to sections, by what may be done there.
use Rattle.std.proofs.Common.{◌≡◌, ◌+◌, ℕ, zero, suc, refl, sym, ap, ◌∙◌}
use Rattle.std.specs.Prelude.{◌==◌, Bool, List, not, bit_and, if◌then◌else◌}
use Rattle.std.specs.List.{sum_by}
use Rattle.std.specs.declared.cmp.Ordering.{Ordering}
use Rattle.std.specs.Cmp.{IsTotalOrder, on_total, then_total, nat_cmp_total}
use Rattle.std.specs.Ordering.{nat_cmp, ordering_then}
use Rattle.std.proofs.lemmas.Map.Lookups.{CmpEqualImpliesEq, exact_unsigned, exact_pairs}
use Rattle.pdb_owners.specs.Table.{sum_where}
use Rattle.pdb_symbols_modules.specs.declared.contributions.DBISectionContribution.{
  DBISectionContribution,
}
use Rattle.pdb_listings.specs.declared.modules.ModulePart.{ModulePart}
use Rattle.pdb_listings.specs.declared.modules.Part.{Part}
use Rattle.pdb_listings.specs.declared.modules.Part.TheVariants as parts

-- whether flags have one of a mask's flags
abbrev pub has_flag : ℕ → ℕ → Bool
has_flag flags mask = not (bit_and flags mask == 0)

-- the part of a contribution to a section with these characteristics
abbrev pub part_by : ℕ → Part
part_by flags =
    if has_flag flags 0x20000020 then parts.Code
    else (if has_flag flags 0x80 then parts.Zeroed
    else (if has_flag flags 0x80000000 then parts.Written else parts.ReadOnly))

-- the part of a module that a contribution belongs to
abbrev pub module_part : DBISectionContribution → ModulePart
module_part c = record { «module» = c.«module»; part = part_by c.characteristics.0 }

-- the bytes of a contribution, if its part passes a test
abbrev pub contributed : (ModulePart → Bool) → DBISectionContribution → ℕ
contributed test c = if test (module_part c) then c.size else 0

-- The bytes of a contribution were added to the bytes of its part in a table.
abbrev pub AddsContribution : DBISectionContribution → List (ModulePart × ℕ)
    → List (ModulePart × ℕ) → Type 0
AddsContribution c old new = (test : ModulePart → Bool)
    → sum_where test new ≡ sum_where test old + contributed test c

-- The parts that pass a test have in a table the bytes of their contributions.
abbrev pub HasContributions : List DBISectionContribution → List (ModulePart × ℕ) → Type 0
HasContributions contributions table = (test : ModulePart → Bool)
    → sum_where test table ≡ sum_by (contributed test) contributions

-- the number of a part
abbrev pub part_number : Part → ℕ
part_number parts.Code = 0
part_number parts.ReadOnly = 1
part_number parts.Written = 2
part_number parts.Zeroed = 3

-- the order by module, and by the part's number
abbrev pub part_cmp : ModulePart → ModulePart → Ordering
part_cmp a b =
    ordering_then (nat_cmp a.«module» b.«module»)
    (nat_cmp (part_number a.part) (part_number b.part))

pub part_total : IsTotalOrder part_cmp
part_total =
    then_total (on_total (λ (p : ModulePart). p.«module») nat_cmp_total)
    (on_total (λ (p : ModulePart). part_number p.part) nat_cmp_total)

-- the part of a number
part_of : ℕ → Part
part_of zero = parts.Code
part_of (suc zero) = parts.ReadOnly
part_of (suc (suc zero)) = parts.Written
part_of (suc (suc (suc n))) = parts.Zeroed

part_back : (p : Part) → part_of (part_number p) ≡ p
unfolding part_of
part_back parts.Code = refl
part_back parts.ReadOnly = refl
part_back parts.Written = refl
part_back parts.Zeroed = refl

-- the part of a module by its numbers
module_part_of : ℕ × ℕ → ModulePart
module_part_of n = record { «module» = n.0; part = part_of n.1 }

module_part_back : (p : ModulePart) → module_part_of (p.«module», part_number p.part) ≡ p
unfolding module_part_of
module_part_back p =
    ap (λ (q : Part). let m : ModulePart = record { «module» = p.«module»; part = q } in m)
    (part_back p.part)

-- parts that compare as equal are one
pub part_exact : CmpEqualImpliesEq part_cmp
part_exact a b h =
    sym (module_part_back a)
    ∙ ap module_part_of (exact_pairs nat_cmp nat_cmp exact_unsigned exact_unsigned
    (a.«module», part_number a.part) (b.«module», part_number b.part) h)
    ∙ module_part_back b
