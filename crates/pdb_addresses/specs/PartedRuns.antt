-- Ranges laid end to end.
use Rattle.std.specs.Prelude.{◌≢◌, ℕ, zero, suc, ◌+◌, ◌-◌, List, [], ◌∷◌, ◌++◌, Option, None, Some}
use Rattle.std.specs.List.{range_with_len}
use Rattle.pdb_addresses.specs.declared.omap.OMAPRecord.{OMAPRecord}
use Rattle.pdb_addresses.specs.Ranges.{TranslatedRun, kept}

-- the addresses of runs, run by run
abbrev pub laid_out : List TranslatedRun → List ℕ
laid_out [] = []
laid_out (r ∷ runs) = range_with_len r.start (r.end - r.start) ++ laid_out runs

-- one more address before others, if there is one
abbrev pub with_first : Option ℕ → List ℕ → List ℕ
with_first None others = others
with_first (Some n) others = n ∷ others

-- the addresses that so many addresses from one on become, each by itself
unfoldable pub each_for_itself : (ℕ → Option ℕ) → ℕ → ℕ → List ℕ
each_for_itself becomes from zero = []
each_for_itself becomes from (suc count) =
    with_first (becomes from) (each_for_itself becomes (from + 1) count)

-- the addresses that those of a range become, each for itself
abbrev pub one_by_one : Option (List OMAPRecord) → ℕ → ℕ → List ℕ
one_by_one omap start end = each_for_itself (kept omap) start (end - start)

-- no run came by the same record as the one before it, and the first not by the record with that
-- index
abbrev pub ArePartedFrom : ℕ → List TranslatedRun → Type 0
ArePartedFrom number [] = Unit {0}
ArePartedFrom number (r ∷ runs) = (number ≢ r.number) × ArePartedFrom r.number runs

-- no run came by the same record as the run before it
abbrev pub AreParted : List TranslatedRun → Type 0
AreParted [] = Unit {0}
AreParted (r ∷ runs) = ArePartedFrom r.number runs
