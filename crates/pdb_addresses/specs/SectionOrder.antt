-- The stored bounds of sections in any order, by which binary search finds the place of an address.
use Rattle.std.specs.Prelude.{◌≡◌, ℕ, ◌+◌, max, List, [], ◌∷◌}
use Rattle.std.specs.List.Sorted.{IsPermutation, IsNonDecreasing}
use Rattle.pdb_addresses.specs.declared.sections.ImageSectionHeader.{ImageSectionHeader}
use Rattle.pdb_addresses.specs.SectionRun.{bounds}

-- the end of a section, which can lie past 32 bits
abbrev pub end_of : ImageSectionHeader → ℕ
end_of s = s.virtual_address + s.virtual_size

-- the greatest of a number and of the ends of the sections up to each one
abbrev pub greatest_ends : ℕ → List ImageSectionHeader → List ℕ
greatest_ends far [] = []
greatest_ends far (s ∷ sections) = max far (end_of s) ∷ greatest_ends (max far (end_of s)) sections

-- the same numbers, in ascending order
pub record AreInOrder (numbers ascending : List ℕ) : Type 0 where
  pub same : IsPermutation numbers ascending
  pub rise : IsNonDecreasing ascending

-- the stored bounds of sections: the greatest end up to each section, and all starts and ends, in
-- ascending order
pub record AreKept (sections : List ImageSectionHeader) (greatest ascending : List ℕ) : Type 0 where
  pub ends : greatest ≡ greatest_ends 0 sections
  pub bounds : AreInOrder (bounds sections) ascending
