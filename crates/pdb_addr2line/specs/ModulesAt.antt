-- The modules that hold the places of RVAs.
use Rattle.std.specs.Prelude.{◌≡◌, ℕ, ◌+◌, ◌-◌, ◌^◌, ◌<◌, ◌≤◌, Bool, true, false, ◌&&◌, nat_lt}
use Rattle.std.specs.Prelude.{List, [], ◌∷◌, map, Option, None, Some, option_map}
use Rattle.std.specs.List.{filter}
use Rattle.std.specs.declared.ops.Range.{Range}
use Rattle.pdb_addresses.specs.Addresses.{Map, inner}
use Rattle.pdb_addresses.specs.Ranges.{TranslatedRun, runs}
use Rattle.pdb_addresses.specs.Sections.{address}
use Rattle.pdb_answers.specs.Choice.{Parts, held_at, place_of}
use Rattle.pdb_contributions.specs.declared.contribution.ModuleSectionContribution.{
  ModuleSectionContribution,
}
use Rattle.pdb_addr2line.specs.Starts.{is_among}

-- the index of the module that holds the place of an RVA, counted from 0
abbrev pub module_at : Parts → ℕ → Option ℕ
module_at p a = option_map (λ held. (held.0).module_index) (held_at p (place_of p a))

-- a range of internal addresses in which those of runs lie: one run's own; for several runs all but
-- 0xffffffff, which is in no run
abbrev pub cover : List TranslatedRun → Range ℕ
cover [] = record { start = 0; end = 0 }
cover (r ∷ []) = record { start = r.start; end = r.end }
cover (r ∷ next ∷ runs) = record { start = 0; end = 2 ^ 32 - 1 }

-- whether that many addresses from one on, if there is one, have one of a range
abbrev pub meets : Range ℕ → Option ℕ → ℕ → Bool
meets range None length = false
meets range (Some start) length = nat_lt start range.end && nat_lt range.start (start + length)

-- whether a contribution may hold the place of an internal address in a range
abbrev pub may_hold : Map → Range ℕ → ModuleSectionContribution → Bool
may_hold m range c = meets range (address m.internal c.section_index c.start_offset)
    (c.end_offset - c.start_offset)

-- the modules of the contributions that may hold places of internal addresses in a range
abbrev pub modules_holding : Map → Range ℕ → List ModuleSectionContribution → List ℕ
modules_holding m range contributions =
    map (λ c. c.module_index) (filter (may_hold m range) contributions)

-- the modules of the contributions that may hold places of RVAs from one to before another
abbrev pub modules_between : Parts → ℕ → ℕ → List ℕ
modules_between p start end =
    modules_holding p.map (cover (runs p.map.to_internal start end)) p.contributions

-- Each module that holds the place of an RVA in the range, whose internal address lies below
-- 0xffffffff, is among these.
pub record HasHolders (p : Parts) (start end : ℕ) (modules : List ℕ) : Type 0 where
  pub each : (a x m : ℕ) → start ≤ a → a < end → inner p.map a ≡ Some x → x < 2 ^ 32 - 1
      → module_at p a ≡ Some m → is_among modules m ≡ true
