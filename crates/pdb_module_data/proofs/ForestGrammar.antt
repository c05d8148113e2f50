-- The function reads what the grammar says, and nothing else.
use Rattle.std.proofs.Common.{◌≡◌, ℕ, zero, suc, ◌+◌, ◌-◌, ◌<◌, ◌≤◌, inl, inr, List, length, Option, Some, None, Result, Ok, Err, refl, sym, subst, ap, ◌∙◌, arith}
use Rattle.std.proofs.lemmas.Bool.{cases_lt, lt-ltb, le-ltb, le-leb, lt-leb}
use Rattle.pdb_container.specs.Fault.{Fault, ◌>>=◌}
use Rattle.pdb_symbol_records.specs.Forms.{InlineSiteForm}
use Rattle.pdb_symbol_records.specs.Symbols.{Symbol, next}
use Rattle.pdb_symbol_records.proofs.Lists.{next_past}
use Rattle.pdb_module_data.specs.Forest.{SitesFault, Unsuccessful, Forest, Empty, Tree, Element, Call, Nested, Plain, element_of, past, Body, ended, closed, other, procedure, site, in_symbols, tree_read, element_read, body_found, body_within, body, Site, numbered, IsForest, sites_from}
use Rattle.pdb_module_data.proofs.Bodies.{Reader, bind_ok, past_of_symbols, past_further, found_between, IsOnward, within_onward}
use Rattle.pdb_module_data.proofs.BodySteps.{body_ended, body_closed, body_plain, body_nested, body_site}

-- ---- what is read is in the grammar

-- what it reads past an index is in the grammar
record IsSound (bytes : List ℕ) (index : ℕ) (read : Reader) : Type 0 where
  each : (limit depth place : ℕ) (b : Forest × ℕ) → length bytes - place < length bytes - index → read limit depth place ≡ Ok b → Body bytes limit depth place b.0 b.1

as_pair : (bytes : List ℕ) (limit depth place : ℕ) (b : Forest × ℕ) (forest : Forest) (end : ℕ) → (forest, end) ≡ b → Body bytes limit depth place forest end → Body bytes limit depth place b.0 b.1
as_pair bytes limit depth place b forest end same body = subst (λ (x : Forest × ℕ). Body bytes limit depth place x.0 x.1) same body

sound_site : (bytes : List ℕ) (limit depth place : ℕ) (s : Symbol) (behind : ℕ) (read : Reader) → next bytes place ≡ Ok (Some (s, behind)) → s.index < limit → IsOnward bytes read → IsSound bytes s.index read
    → (call : InlineSiteForm) (b : Forest × ℕ) → element_of s ≡ Call call → depth < 65535 → tree_read call (read call.end.0 (depth + 1) behind) (read limit depth) ≡ Ok b → Body bytes limit depth place b.0 b.1
sound_site bytes limit depth place s behind read found lt onward sound call b is room e =
    let between = found_between bytes place s behind found in
    let inner = bind_ok (read call.end.0 (depth + 1) behind) (λ below. read limit depth below.1 >>= λ others. Ok (Tree call below.0 others.0, others.1)) b e in
    let after = bind_ok (read limit depth inner.0.1) (λ others. Ok (Tree call inner.0.0 others.0, others.1)) b inner.2 in
    let further = onward.each call.end.0 (depth + 1) behind inner.0 inner.1 in
    let pair : (Tree call inner.0.0 after.0.0, after.0.1) ≡ b = cc in
    as_pair bytes limit depth place b (Tree call inner.0.0 after.0.0) after.0.1 pair
    (site limit depth place s behind call inner.0.0 after.0.0 inner.0.1 after.0.1 found lt is room
    (sound.each call.end.0 (depth + 1) behind inner.0 (omega arith) inner.1) (sound.each limit depth inner.0.1 after.0 (omega arith) after.1))

sound_element : (bytes : List ℕ) (limit depth place : ℕ) (s : Symbol) (behind : ℕ) (read : Reader) → next bytes place ≡ Ok (Some (s, behind)) → s.index < limit → IsOnward bytes read → IsSound bytes s.index read
    → (element : Element) (b : Forest × ℕ) → element_of s ≡ element → element_read bytes s behind element limit depth read ≡ Ok b → Body bytes limit depth place b.0 b.1
sound_element bytes limit depth place s behind read found lt onward sound Plain b is e =
    let between = found_between bytes place s behind found in
    other limit depth place s behind b.0 b.1 found lt is (sound.each limit depth behind b (omega arith) e)
sound_element bytes limit depth place s behind read found lt onward sound (Nested last) b is e =
    let between = found_between bytes place s behind found in
    elim (cases_lt s.index last) [
      | inl before ↦ (
          let further = bind_ok (in_symbols (past bytes last)) (read limit depth) b (rw (lt-ltb s.index last before) at e) in
          let to = past_of_symbols (past bytes last) further.0 further.1 in
          let over = past_further bytes last further.0 to in
          procedure limit depth place s behind last further.0 b.0 b.1 found lt is before to (sound.each limit depth further.0 b (omega arith) further.2))
      | inr le ↦ (let bad : Err Unsuccessful ≡ Ok b = rw (le-ltb s.index last le) at e in absurd (cc))
    ]
sound_element bytes limit depth place s behind read found lt onward sound (Call call) b is e =
    elim (cases_lt depth 65535) [
      | inl room ↦ sound_site bytes limit depth place s behind read found lt onward sound call b is room (rw (lt-ltb depth 65535 room) at e)
      | inr le ↦ (let bad : Err Unsuccessful ≡ Ok b = rw (le-ltb depth 65535 le) at e in absurd (cc))
    ]

sound_found : (bytes : List ℕ) (limit depth place : ℕ) (read : Reader) → IsOnward bytes read → IsSound bytes place read → (r : Result (Option (Symbol × ℕ)) Fault) → next bytes place ≡ r
    → (b : Forest × ℕ) → body_found bytes r limit depth read ≡ Ok b → Body bytes limit depth place b.0 b.1
sound_found bytes limit depth place read onward sound (Ok (Some found)) is b e =
    let later = (found_between bytes place found.0 found.1 is).later in
    elim (cases_lt found.0.index limit) [
      | inl lt ↦ (
          let here : IsSound bytes found.0.index read = record { each = λ l d p x less same. sound.each l d p x (omega arith) same } in
          sound_element bytes limit depth place found.0 found.1 read is lt onward here (element_of found.0) b refl (rw (lt-leb limit found.0.index lt) at e))
      | inr le ↦ (
          let f : Ok (Empty, found.1) ≡ Ok b = rw (le-leb limit found.0.index le) at e in
          let pair : (Empty, found.1) ≡ b = cc in
          as_pair bytes limit depth place b Empty found.1 pair (closed limit depth place found.0 found.1 is le))
    ]
sound_found bytes limit depth place read onward sound (Ok None) is b e =
    let pair : (Empty, length bytes) ≡ b = cc in
    as_pair bytes limit depth place b Empty (length bytes) pair (ended limit depth place is)
sound_found bytes limit depth place read onward sound (Err fault) is b e = absurd (cc)

sound_within : (n : ℕ) (bytes : List ℕ) (limit depth place : ℕ) (b : Forest × ℕ) → length bytes - place ≤ n → body_within n bytes limit depth place ≡ Ok b → Body bytes limit depth place b.0 b.1
unfolding body_within
sound_within zero bytes limit depth place b enough e =
    let pair : (Empty, length bytes) ≡ b = cc in
    as_pair bytes limit depth place b Empty (length bytes) pair (ended limit depth place (next_past bytes place (omega arith)))
sound_within (suc n) bytes limit depth place b enough e =
    sound_found bytes limit depth place (body_within n bytes) (within_onward n bytes)
    (record { each = λ l d p x less same. sound_within n bytes l d p x (omega arith) same }) (next bytes place) refl b e

sound : (bytes : List ℕ) (limit depth place : ℕ) (b : Forest × ℕ) → body bytes limit depth place ≡ Ok b → Body bytes limit depth place b.0 b.1
unfolding body
sound bytes limit depth place b e = sound_within (length bytes + 1) bytes limit depth place b (omega arith) e

-- ---- what is in the grammar is read

complete : {bytes : List ℕ} {limit depth place : ℕ} {forest : Forest} {end : ℕ} → Body bytes limit depth place forest end → body bytes limit depth place ≡ Ok (forest, end)
complete {bytes} (ended limit depth place none) = body_ended bytes limit depth place none
complete {bytes} (closed limit depth place s behind found le) = body_closed bytes limit depth place s behind found le
complete {bytes} (other limit depth place s behind forest end found lt is rest) = body_plain bytes limit depth place s behind found lt is ∙ complete rest
complete {bytes} (procedure limit depth place s behind last further forest end found lt is before to rest) =
    body_nested bytes limit depth place s behind last found lt is ∙ rw (lt-ltb s.index last before, to) (complete rest)
complete {bytes} (site limit depth place s behind call inner after middle end found lt is room below rest) =
    body_site bytes limit depth place s behind call found lt is room ∙ rw (complete below, complete rest) refl

-- ---- sites

sites_read : (r : Result (Forest × ℕ) SitesFault) (sites : List Site) → (r >>= λ read. Ok (numbered None 1 0 read.0)) ≡ Ok sites → (b : Forest × ℕ) × (r ≡ Ok b) × (sites ≡ numbered None 1 0 b.0)
sites_read (Ok b) sites e = (b, refl, cc)
sites_read (Err fault) sites e = absurd (cc)

-- sites that are read are in the grammar
pub forest_is : (bytes : List ℕ) (limit start : ℕ) (sites : List Site) → sites_from bytes limit start ≡ Ok sites → IsForest bytes limit start sites
forest_is bytes limit start sites e =
    let r = sites_read (body bytes limit 0 start) sites e in
    (r.0.0, r.0.1, sound bytes limit 0 start r.0 r.1, r.2)

-- sites in the grammar are read
pub forest_from : (bytes : List ℕ) (limit start : ℕ) (sites : List Site) → IsForest bytes limit start sites → sites_from bytes limit start ≡ Ok sites
forest_from bytes limit start sites w = rw (complete w.2) (ap Ok (sym w.3))
