-- The inline sites of a procedure, by a grammar over the places of its symbols.
-- The rule by which a symbol closes a scope is the pdb-addr2line crate's; here an end that leads
-- backward is refused.
use Rattle.std.specs.Prelude.{◌≡◌, ℕ, zero, suc, ◌+◌, ◌<◌, ◌≤◌, Option, Some, None, List, [], ◌∷◌}
use Rattle.std.specs.Prelude.{◌++◌, length, nat_le, nat_lt, if◌then◌else◌, Result, Ok, Err}
use Rattle.pdb_container.specs.Fault.{Fault, ◌>>=◌}
use Rattle.pdb_symbol_records.specs.Forms as forms
use Rattle.pdb_symbol_records.specs.Forms.{SymbolForm, InlineSiteForm}
use Rattle.pdb_symbol_records.specs.Records.{symbol_form_of}
use Rattle.pdb_symbol_records.specs.Symbols.{Symbol, next}

-- the fault of sites that can't be read: a symbol can't be found; or a nested procedure doesn't end
-- after its own symbol, or sites lie in one another too deep
pub data SitesFault : Type 0 where
  InSymbols : Fault → SitesFault
  Unsuccessful : SitesFault

-- no sites; or a site, the sites in it, and the sites after it
pub data Forest : Type 0 where
  Empty : Forest
  Tree : (call : InlineSiteForm) → (inner : Forest) → (after : Forest) → Forest

-- the element that a symbol is in a body: an inline site, a nested procedure by its end, or another
-- one
pub data Element : Type 0 where
  Call : InlineSiteForm → Element
  Nested : ℕ → Element
  Plain : Element

-- the element that a symbol is in a body, from its form
abbrev pub element_said : Result SymbolForm Fault → Element
element_said (Ok (forms.InlineSite call)) = Call call
element_said (Ok (forms.Procedure p)) = Nested p.end.0
element_said other = Plain

-- the element that a symbol is in a body
abbrev pub element_of : Symbol → Element
element_of s = element_said (symbol_form_of s)

-- the place after a symbol that was found; the list's end where none was
abbrev pub behind_found : List ℕ → Result (Option (Symbol × ℕ)) Fault → Result ℕ Fault
behind_found bytes (Ok (Some found)) = Ok found.1
behind_found bytes (Ok None) = Ok (length bytes)
behind_found bytes (Err e) = Err e

-- the place after the first symbol at a place or later
abbrev pub past : List ℕ → ℕ → Result ℕ Fault
past bytes place = behind_found bytes (next bytes place)

-- ---- the grammar

-- `Body bytes limit depth place forest end`: from `place` to `end` there is a body with this limit,
-- at this depth, and these are its sites
pub data Body (bytes : List ℕ) : ℕ → ℕ → ℕ → Forest → ℕ → Type 0 where
  -- the list's end closes a body
  ended : (limit depth place : ℕ) → next bytes place ≡ Ok None
      → Body bytes limit depth place Empty (length bytes)
  -- a symbol at the limit or past it closes one, too, whatever the symbol is
  closed : (limit depth place : ℕ) (s : Symbol) (behind : ℕ)
      → next bytes place ≡ Ok (Some (s, behind)) → limit ≤ s.index
      → Body bytes limit depth place Empty behind
  -- a symbol that is no site and no procedure is one element
  other : (limit depth place : ℕ) (s : Symbol) (behind : ℕ) (forest : Forest) (end : ℕ)
      → next bytes place ≡ Ok (Some (s, behind)) → s.index < limit
      → element_of s ≡ Plain → Body bytes limit depth behind forest end
      → Body bytes limit depth place forest end
  -- a nested procedure is passed over, with the symbol at its end
  procedure : (limit depth place : ℕ) (s : Symbol) (behind last further : ℕ) (forest : Forest)
      (end : ℕ) → next bytes place ≡ Ok (Some (s, behind)) → s.index < limit
      → element_of s ≡ Nested last → s.index < last → past bytes last ≡ Ok further
      → Body bytes limit depth further forest end → Body bytes limit depth place forest end
  -- an inline site is its symbol and a body whose limit is the site's end
  site : (limit depth place : ℕ) (s : Symbol) (behind : ℕ) (call : InlineSiteForm)
      (inner after : Forest) (middle end : ℕ) → next bytes place ≡ Ok (Some (s, behind))
      → s.index < limit → element_of s ≡ Call call → depth < 65535
      → Body bytes call.end.0 (depth + 1) behind inner middle
      → Body bytes limit depth middle after end
      → Body bytes limit depth place (Tree call inner after) end

-- ---- the grammar as a function, with its fault

-- a fault of the symbols
abbrev pub in_symbols : {A : Type 0} → Result A Fault → Result A SitesFault
in_symbols (Ok x) = Ok x
in_symbols (Err e) = Err (InSymbols e)

-- a site by the body in it and the body after it
abbrev pub tree_read : InlineSiteForm → Result (Forest × ℕ) SitesFault
    → (ℕ → Result (Forest × ℕ) SitesFault) → Result (Forest × ℕ) SitesFault
tree_read call inner after =
    inner >>= λ below. after below.1 >>= λ others. Ok (Tree call below.0 others.0, others.1)

-- the body from an element on, by a reading of the bodies after it, each by its limit, its depth
-- and its place
abbrev pub element_read : List ℕ → Symbol → ℕ → Element → ℕ → ℕ
    → (ℕ → ℕ → ℕ → Result (Forest × ℕ) SitesFault) → Result (Forest × ℕ) SitesFault
element_read bytes s behind Plain limit depth read = read limit depth behind
element_read bytes s behind (Nested last) limit depth read =
    if nat_lt s.index last then (in_symbols (past bytes last) >>= read limit depth)
    else Err Unsuccessful
element_read bytes s behind (Call call) limit depth read =
    if nat_lt depth 65535
    then tree_read call (read call.end.0 (depth + 1) behind) (read limit depth)
    else Err Unsuccessful

-- the body from a symbol that was found on
abbrev pub body_found : List ℕ → Result (Option (Symbol × ℕ)) Fault → ℕ → ℕ
    → (ℕ → ℕ → ℕ → Result (Forest × ℕ) SitesFault) → Result (Forest × ℕ) SitesFault
body_found bytes (Ok None) limit depth read = Ok (Empty, length bytes)
body_found bytes (Err e) limit depth read = Err (InSymbols e)
body_found bytes (Ok (Some found)) limit depth read =
    if nat_le limit (found.0).index then Ok (Empty, found.1)
    else element_read bytes found.0 found.1 (element_of found.0) limit depth read

-- the body from a place on, with its end; each step leads at least one place further, so that so
-- many are enough
unfoldable pub body_within : ℕ → List ℕ → ℕ → ℕ → ℕ → Result (Forest × ℕ) SitesFault
body_within zero bytes limit depth place = Ok (Empty, length bytes)
body_within (suc steps) bytes limit depth place =
    body_found bytes (next bytes place) limit depth (body_within steps bytes)

-- the body with a limit, at a depth, from a place on, and the place at which it ends
unfoldable pub body : List ℕ → ℕ → ℕ → ℕ → Result (Forest × ℕ) SitesFault
body bytes limit depth place = body_within (length bytes + 1) bytes limit depth place

-- ---- sites in order

-- an inline site: its symbol's fields, the number of the site that it lies in, if any, and its
-- depth, from 1 on
pub record Site : Type 0 where
  pub call : InlineSiteForm
  pub parent : Option ℕ
  pub depth : ℕ

-- the sites of a forest in the order of the file, each with its parent's number and its depth; the
-- first has the number `first`
abbrev pub numbered : Option ℕ → ℕ → ℕ → Forest → List Site
numbered parent depth first Empty = []
numbered parent depth first (Tree call inner after) =
    let below = numbered (Some first) (depth + 1) (first + 1) inner in
    record { call = call; parent = parent; depth = depth }
    ∷ (below ++ numbered parent depth (first + 1 + length below) after)

-- these are the sites of the body with this limit that begins at `start`
abbrev pub IsForest : List ℕ → ℕ → ℕ → List Site → Type 0
IsForest bytes limit start sites =
    (forest : Forest) × (end : ℕ) × Body bytes limit 0 start forest end
    × (sites ≡ numbered None 1 0 forest)

-- the sites from a place on before a limit
abbrev pub sites_from : List ℕ → ℕ → ℕ → Result (List Site) SitesFault
sites_from bytes limit start = body bytes limit 0 start >>= λ read. Ok (numbered None 1 0 read.0)

-- the sites of the procedure whose symbol has this index and that ends at that one: the sites after
-- its symbol and before its end
abbrev pub sites_of : List ℕ → ℕ → ℕ → Result (List Site) SitesFault
sites_of bytes index end = in_symbols (past bytes index) >>= sites_from bytes end
