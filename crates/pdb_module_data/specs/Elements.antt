-- The elements that the code sees in symbols, as the definitions state them, and its steps over
-- sites and nested procedures.
use Rattle.std.specs.Prelude.{ℕ, ◌+◌, Option, List, [], ◌∷◌, ◌++◌, length, nat_lt, if◌then◌else◌}
use Rattle.std.specs.Prelude.{Result, Ok, Err}
use Rattle.pdb_symbol_records.specs.Forms.{InlineSiteForm, inline_site_form}
use Rattle.pdb_module_data.specs.Forest as forest
use Rattle.pdb_module_data.specs.declared.inline_sites.Element.{Element}
use Rattle.pdb_module_data.specs.declared.inline_sites.Element.TheVariants as elements

-- the code's element, as the definitions see it
abbrev pub element_seen : Element → forest.Element
element_seen (elements.Call call) = forest.Call (inline_site_form call)
element_seen (elements.Nested end) = forest.Nested end
element_seen elements.Plain = forest.Plain

-- the place after a nested procedure that begins and ends at these indices
abbrev pub nested_past : List ℕ → ℕ → ℕ → Result ℕ forest.SitesFault
nested_past bytes index last =
    if nat_lt index last then forest.in_symbols (forest.past bytes last)
    else Err forest.Unsuccessful

-- the number of one more site, which lies directly in a body below so many others, and the sites
-- with that one
abbrev pub with_site : List forest.Site → Option ℕ → ℕ → InlineSiteForm
    → Result (ℕ × List forest.Site) forest.SitesFault
with_site sites parent below call =
    if nat_lt below 65535
    then Ok (length sites, sites ++ record { call = call; parent = parent; depth = below + 1 } ∷ [])
    else Err forest.Unsuccessful
