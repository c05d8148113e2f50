-- The first section whose data hold an address, as a loop looks for it.
use Rattle.std.proofs.Common.{◌≡◌, ℕ, ◌+◌, ◌<◌, ◌≤◌, List, [], length, get_or, map, drop, slice_get}
use Rattle.std.proofs.Common.{Ok, refl, sym, ap, ◌∙◌, arith}
use Rattle.std.specs.Prelude.{Option, None, Some, option_map}
use Rattle.std.specs.Option.{option_or}
use Rattle.std.proofs.lemmas.Bool.{le-ltb}
use Rattle.std.proofs.lemmas.List.{drop_more, drop_all, take_all}
use Rattle.std.proofs.lemmas.Option.{slice_get-map, slice_get-get_or}
use Rattle.pdb_addresses.specs.Sections.{header_in, section_header_at}
use Rattle.pdb_image.specs.CodeView.{place_in, place_of}
use Rattle.pdb_image.specs.Tables.{whole_place_in, whole_place_of}

-- what is found from a section on
abbrev pub place_from : ℕ → List (List ℕ) → ℕ → Option ℕ
place_from address sections i = place_of address (map header_in (drop i sections))

here : (sections : List (List ℕ)) (i address : ℕ) (d : List ℕ) → i < length sections
    → place_from address sections i ≡ option_or (place_in address (header_in (get_or sections i d)))
    (place_from address sections (i + 1))
here sections i address d lt = ap (λ xs. place_of address (map header_in xs))
    (drop_more sections i d lt)

-- a section that doesn't hold it is passed over
pub place_more : (sections : List (List ℕ)) (i address : ℕ) (d : List ℕ) (total : Option ℕ)
    → i < length sections → place_in address (header_in (get_or sections i d)) ≡ None
    → place_from address sections i ≡ total → place_from address sections (i + 1) ≡ total
place_more sections i address d total lt none so_far =
    let passed = ap (λ o. option_or o (place_from address sections (i + 1))) none in
    sym (here sections i address d lt ∙ passed) ∙ so_far

-- a section that holds it is the first one
pub place_found : (sections : List (List ℕ)) (i address place : ℕ) (d : List ℕ) (total : Option ℕ)
    → i < length sections → place_in address (header_in (get_or sections i d)) ≡ Some place
    → place_from address sections i ≡ total → Some place ≡ total
place_found sections i address place d total lt some so_far =
    let found = ap (λ o. option_or o (place_from address sections (i + 1))) some in
    sym (here sections i address d lt ∙ found) ∙ so_far

-- no section is left: none holds it
pub place_missing : (sections : List (List ℕ)) (i address : ℕ) (total : Option ℕ)
    → length sections ≤ i → place_from address sections i ≡ total → None ≡ total
place_missing sections i address total past so_far =
    sym (ap (λ xs. place_of address (map header_in xs)) (drop_all i sections past)) ∙ so_far

-- ---- the same of bytes that all lie in a section's data

-- what is found from a section on
abbrev pub whole_from : ℕ → ℕ → List (List ℕ) → ℕ → Option ℕ
whole_from address size sections i = whole_place_of address size (map header_in (drop i sections))

whole_here : (sections : List (List ℕ)) (i address size : ℕ) (d : List ℕ) → i < length sections
    → whole_from address size sections i
    ≡ option_or (whole_place_in address size (header_in (get_or sections i d)))
    (whole_from address size sections (i + 1))
whole_here sections i address size d lt = ap (λ xs. whole_place_of address size (map header_in xs))
    (drop_more sections i d lt)

-- a section that doesn't hold them is passed over
pub whole_more : (sections : List (List ℕ)) (i address size : ℕ) (d : List ℕ) (total : Option ℕ)
    → i < length sections → whole_place_in address size (header_in (get_or sections i d)) ≡ None
    → whole_from address size sections i ≡ total → whole_from address size sections (i + 1) ≡ total
whole_more sections i address size d total lt none so_far =
    let passed = ap (λ o. option_or o (whole_from address size sections (i + 1))) none in
    sym (whole_here sections i address size d lt ∙ passed) ∙ so_far

-- a section that holds them is the first one
pub whole_found : (sections : List (List ℕ)) (i address size place : ℕ) (d : List ℕ)
    (total : Option ℕ) → i < length sections
    → whole_place_in address size (header_in (get_or sections i d)) ≡ Some place
    → whole_from address size sections i ≡ total → Some place ≡ total
whole_found sections i address size place d total lt some so_far =
    let found = ap (λ o. option_or o (whole_from address size sections (i + 1))) some in
    sym (whole_here sections i address size d lt ∙ found) ∙ so_far

-- no section is left: none holds them
pub whole_missing : (sections : List (List ℕ)) (i address size : ℕ) (total : Option ℕ)
    → length sections ≤ i → whole_from address size sections i ≡ total → None ≡ total
whole_missing sections i address size total past so_far =
    sym (ap (λ xs. whole_place_of address size (map header_in xs)) (drop_all i sections past))
    ∙ so_far

-- ---- headers by their numbers

-- 40 bytes are read as a section header
pub header_read : (bytes : List ℕ) → length bytes ≡ 40
    → section_header_at bytes ≡ Ok (header_in bytes, [])
unfolding section_header_at
header_read bytes forty =
    rw (
      le-ltb (length bytes) 40 (omega (arith, forty)),
      take_all 40 bytes (omega (arith, forty)),
      drop_all 40 bytes (omega (arith, forty)),
    ) refl

-- the header with an index is made of the bytes with that index
pub section_at : (sections : List (List ℕ)) (number : ℕ) (d : List ℕ) → number < length sections
    → slice_get (map header_in sections) number ≡ Some (header_in (get_or sections number d))
section_at sections number d lt = slice_get-map header_in sections number
    ∙ ap (option_map header_in) (slice_get-get_or sections number d lt)
