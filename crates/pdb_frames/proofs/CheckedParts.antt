-- Whether what every question goes over can be had: the fault of reading it, without what is read.
use Rattle.std.proofs.Common.{◌≡◌, ℕ, List, ◌++◌, Option, Result, Ok, Err, refl, subst}
use Rattle.pdb_container.specs.Fault as container
use Rattle.pdb_container.specs.Fault.{◌>>=◌}
use Rattle.pdb_container.specs.Listing.{whole}
use Rattle.pdb_addresses.specs.declared.sections.ImageSectionHeader.{ImageSectionHeader}
use Rattle.pdb_addresses.specs.Addresses.{Map}
use Rattle.pdb_symbol_records.specs.Symbols.{Symbol, symbols_from}
use Rattle.pdb_contributions.specs.MergedContributions.{Held, held_of}
use Rattle.pdb_contributions.specs.Publics.{publics_among, entries_of_symbols, placeholders, section_ends}
use Rattle.pdb_resolving.specs.declared.error.Error.{Error}
use Rattle.pdb_resolving.specs.Fault.{Fault, Answers, lifted}
use Rattle.pdb_frames.specs.Parts.{outcome, parts_of, parts_checked}

same_outcome : (sections : List ImageSectionHeader) (map : Map) (names : Option (List ℕ)) (read : Result (List Symbol) container.Fault) (found : Result Held Fault)
    → (lifted (read >>= λ all. Ok (tt {0})) >>= λ checked. found >>= λ held. Ok (tt {0}))
    ≡ outcome (lifted (read >>= λ all. Ok (entries_of_symbols sections all)) >>= λ functions. found >>= λ held.
    Ok (record { map = map; contributions = held.contributions; publics = publics_among (functions ++ placeholders held.later_starts ++ section_ends sections); names = names }))
same_outcome sections map names (Ok all) (Ok held) = refl
same_outcome sections map names (Ok all) (Err e) = refl
same_outcome sections map names (Err e) found = refl

checked_is : (sections : List ImageSectionHeader) (map : Map) (symbols contributions : List ℕ) (names : Option (List ℕ))
    → parts_checked sections symbols contributions ≡ outcome (parts_of sections map symbols contributions names)
unfolding parts_of parts_checked
checked_is sections map symbols contributions names = same_outcome sections map names (whole (symbols_from symbols 0)) (held_of sections contributions)

-- reading without storing answers what reading does
pub as_checked : (sections : List ImageSectionHeader) (map : Map) (symbols contributions : List ℕ) (names : Option (List ℕ)) (result : Result (Unit {0}) Error)
    → Answers (λ _. tt) result (parts_checked sections symbols contributions) → Answers (λ _. tt) result (outcome (parts_of sections map symbols contributions names))
as_checked sections map symbols contributions names result h = subst (λ (r : Result (Unit {0}) Fault). Answers (λ _. tt) result r) (checked_is sections map symbols contributions names) h
