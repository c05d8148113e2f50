-- A body, by each thing that can stand at its place.
use Rattle.std.proofs.Common.{◌≡◌, ℕ, ◌+◌, ◌<◌, ◌≤◌, List, length, Some, None, Ok, Err, refl, ap, ◌∙◌}
use Rattle.std.specs.Prelude.{nat_lt, if◌then◌else◌}
use Rattle.std.proofs.lemmas.Bool.{lt-ltb, le-ltb, le-leb, lt-leb}
use Rattle.pdb_container.specs.Fault.{Fault, ◌>>=◌}
use Rattle.pdb_symbol_records.specs.Forms.{InlineSiteForm}
use Rattle.pdb_symbol_records.specs.Symbols.{Symbol, next}
use Rattle.pdb_module_data.specs.Forest.{InSymbols, Unsuccessful, Empty, Element, Call, Nested, Plain, element_of, past, in_symbols, tree_read, element_read, body_found, body}
use Rattle.pdb_module_data.proofs.Bodies.{body_step}

-- the list's end closes a body
pub body_ended : (bytes : List ℕ) (limit depth place : ℕ) → next bytes place ≡ Ok None → body bytes limit depth place ≡ Ok (Empty, length bytes)
body_ended bytes limit depth place none = body_step bytes limit depth place ∙ rw none refl

-- a fault of the symbols is the body's
pub body_fault : (bytes : List ℕ) (limit depth place : ℕ) (fault : Fault) → next bytes place ≡ Err fault → body bytes limit depth place ≡ Err (InSymbols fault)
body_fault bytes limit depth place fault bad = body_step bytes limit depth place ∙ rw bad refl

-- a symbol at the limit or past it closes a body
pub body_closed : (bytes : List ℕ) (limit depth place : ℕ) (s : Symbol) (behind : ℕ) → next bytes place ≡ Ok (Some (s, behind)) → limit ≤ s.index → body bytes limit depth place ≡ Ok (Empty, behind)
body_closed bytes limit depth place s behind found le = body_step bytes limit depth place ∙ rw (found, le-leb limit s.index le) refl

-- a symbol before the limit is an element
body_element : (bytes : List ℕ) (limit depth place : ℕ) (s : Symbol) (behind : ℕ) (element : Element) → next bytes place ≡ Ok (Some (s, behind)) → s.index < limit → element_of s ≡ element
    → body bytes limit depth place ≡ element_read bytes s behind element limit depth (body bytes)
body_element bytes limit depth place s behind element found lt is =
    body_step bytes limit depth place ∙ ap (λ r. body_found bytes r limit depth (body bytes)) found
    ∙ ap (λ b. if b then Ok (Empty, behind) else element_read bytes s behind (element_of s) limit depth (body bytes)) (lt-leb limit s.index lt)
    ∙ ap (λ e. element_read bytes s behind e limit depth (body bytes)) is

-- a plain symbol is passed over
pub body_plain : (bytes : List ℕ) (limit depth place : ℕ) (s : Symbol) (behind : ℕ) → next bytes place ≡ Ok (Some (s, behind)) → s.index < limit → element_of s ≡ Plain
    → body bytes limit depth place ≡ body bytes limit depth behind
body_plain bytes limit depth place s behind found lt is = body_element bytes limit depth place s behind Plain found lt is

-- a nested procedure is passed over with the symbol at its end, and has to end after its own symbol
pub body_nested : (bytes : List ℕ) (limit depth place : ℕ) (s : Symbol) (behind last : ℕ) → next bytes place ≡ Ok (Some (s, behind)) → s.index < limit → element_of s ≡ Nested last
    → body bytes limit depth place ≡ (if nat_lt s.index last then (in_symbols (past bytes last) >>= body bytes limit depth) else Err Unsuccessful)
body_nested bytes limit depth place s behind last found lt is = body_element bytes limit depth place s behind (Nested last) found lt is

-- a site is its own body and what follows that one
pub body_site : (bytes : List ℕ) (limit depth place : ℕ) (s : Symbol) (behind : ℕ) (call : InlineSiteForm) → next bytes place ≡ Ok (Some (s, behind)) → s.index < limit → element_of s ≡ Call call → depth < 65535
    → body bytes limit depth place ≡ tree_read call (body bytes call.end.0 (depth + 1) behind) (body bytes limit depth)
body_site bytes limit depth place s behind call found lt is room =
    body_element bytes limit depth place s behind (Call call) found lt is ∙ rw (lt-ltb depth 65535 room) refl

-- a site too deep in others is refused
pub body_deep : (bytes : List ℕ) (limit depth place : ℕ) (s : Symbol) (behind : ℕ) (call : InlineSiteForm) → next bytes place ≡ Ok (Some (s, behind)) → s.index < limit → element_of s ≡ Call call → 65535 ≤ depth
    → body bytes limit depth place ≡ Err Unsuccessful
body_deep bytes limit depth place s behind call found lt is deep =
    body_element bytes limit depth place s behind (Call call) found lt is ∙ rw (le-ltb depth 65535 deep) refl
