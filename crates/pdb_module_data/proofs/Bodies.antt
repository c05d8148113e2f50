-- Bodies, by what is found at their place.
use Rattle.std.proofs.Common.{◌≡◌, ℕ, zero, suc, ◌+◌, ◌-◌, ◌<◌, ◌≤◌, inl, inr, List, length, Option, Some, None, Result, Ok, Err, refl, ap, ◌∙◌, arith}
use Rattle.std.specs.Prelude.{nat_le, if◌then◌else◌}
use Rattle.std.proofs.lemmas.Bool.{cases_lt, lt-ltb, le-ltb, le-leb, lt-leb}
use Rattle.pdb_container.specs.Fault.{Fault, ◌>>=◌}
use Rattle.pdb_symbol_records.specs.Forms.{InlineSiteForm}
use Rattle.pdb_symbol_records.specs.Symbols.{Symbol, next}
use Rattle.pdb_symbol_records.proofs.Lists.{is_found, next_past}
use Rattle.pdb_module_data.specs.Forest.{SitesFault, Unsuccessful, Forest, Empty, Tree, Element, Call, Nested, Plain, element_of, behind_found, past, in_symbols, tree_read, element_read, body_found, body_within, body}

-- what reads a body by its limit, its depth and its place
abbrev pub Reader : Type 0
Reader = ℕ → ℕ → ℕ → Result (Forest × ℕ) SitesFault

-- a reading and another one by its value gave a value: so did both
pub bind_ok : {F A B : Type 0} (r : Result A F) (f : A → Result B F) (y : B) → (r >>= f) ≡ Ok y → (x : A) × (r ≡ Ok x) × (f x ≡ Ok y)
bind_ok (Ok x) f y same = (x, refl, same)
bind_ok (Err e) f y same = absurd (cc)

-- ---- places

-- the same by what is found
past_by : (bytes : List ℕ) (place further : ℕ) (r : Result (Option (Symbol × ℕ)) Fault) → next bytes place ≡ r → behind_found bytes r ≡ Ok further → length bytes - further ≤ length bytes - (place + 1)
past_by bytes place further (Ok (Some found)) e same =
    let f = is_found bytes place found.0 found.1 e in
    let past = f.past in
    let behind_it = f.behind_it in
    let end : found.1 ≡ further = cc in
    omega arith
past_by bytes place further (Ok None) e same = let end : length bytes ≡ further = cc in omega arith
past_by bytes place further (Err fault) e same = absurd (cc)

-- the place after what is found from a place on lies past it, or at the list's end
pub past_further : (bytes : List ℕ) (place further : ℕ) → past bytes place ≡ Ok further → length bytes - further ≤ length bytes - (place + 1)
past_further bytes place further same = past_by bytes place further (next bytes place) refl same

-- a value is the same before faults become those of the symbols
pub past_of_symbols : (r : Result ℕ Fault) (further : ℕ) → in_symbols r ≡ Ok further → r ≡ Ok further
past_of_symbols (Ok x) further same = let one : x ≡ further = cc in ap Ok one
past_of_symbols (Err fault) further same = absurd (cc)

-- where a symbol was found: at the place or later, and before what is after it, within the list
pub record IsBetween (bytes : List ℕ) (place index behind : ℕ) : Type 0 where
  pub later : place ≤ index
  pub before : index < behind
  pub within : behind ≤ length bytes

-- a symbol stands where it was found
pub found_between : (bytes : List ℕ) (place : ℕ) (s : Symbol) (behind : ℕ) → next bytes place ≡ Ok (Some (s, behind)) → IsBetween bytes place s.index behind
found_between bytes place s behind e =
    let f = is_found bytes place s behind e in
    let past = f.past in
    let behind_it = f.behind_it in
    record { later = past; before = omega arith; within = f.within }

-- what it reads ends at its place or later, or at the list's end
pub record IsOnward (bytes : List ℕ) (read : Reader) : Type 0 where
  pub each : (limit depth place : ℕ) (b : Forest × ℕ) → read limit depth place ≡ Ok b → length bytes - b.1 ≤ length bytes - place

tree_onward : (bytes : List ℕ) (read : Reader) → IsOnward bytes read → (call : InlineSiteForm) (limit depth behind : ℕ) (b : Forest × ℕ)
    → tree_read call (read call.end.0 (depth + 1) behind) (read limit depth) ≡ Ok b → length bytes - b.1 ≤ length bytes - behind
tree_onward bytes read onward call limit depth behind b e =
    let inner = bind_ok (read call.end.0 (depth + 1) behind) (λ below. read limit depth below.1 >>= λ others. Ok (Tree call below.0 others.0, others.1)) b e in
    let after = bind_ok (read limit depth inner.0.1) (λ others. Ok (Tree call inner.0.0 others.0, others.1)) b inner.2 in
    let pair : (Tree call inner.0.0 after.0.0, after.0.1) ≡ b = cc in
    let end : after.0.1 ≡ b.1 = ap (λ (x : Forest × ℕ). x.1) pair in
    let first = onward.each call.end.0 (depth + 1) behind inner.0 inner.1 in
    let second = onward.each limit depth inner.0.1 after.0 after.1 in
    omega arith

element_onward : (bytes : List ℕ) (place : ℕ) (s : Symbol) (behind : ℕ) (read : Reader) → IsBetween bytes place s.index behind → IsOnward bytes read
    → (element : Element) (limit depth : ℕ) (b : Forest × ℕ) → element_read bytes s behind element limit depth read ≡ Ok b → length bytes - b.1 ≤ length bytes - place
element_onward bytes place s behind read between onward Plain limit depth b e =
    let more = onward.each limit depth behind b e in
    omega arith
element_onward bytes place s behind read between onward (Nested last) limit depth b e =
    elim (cases_lt s.index last) [
      | inl lt ↦ (
          let further = bind_ok (in_symbols (past bytes last)) (read limit depth) b (rw (lt-ltb s.index last lt) at e) in
          let over = past_further bytes last further.0 (past_of_symbols (past bytes last) further.0 further.1) in
          let more = onward.each limit depth further.0 b further.2 in
          omega arith)
      | inr le ↦ (let bad : Err Unsuccessful ≡ Ok b = rw (le-ltb s.index last le) at e in absurd (cc))
    ]
element_onward bytes place s behind read between onward (Call call) limit depth b e =
    elim (cases_lt depth 65535) [
      | inl lt ↦ (
          let more = tree_onward bytes read onward call limit depth behind b (rw (lt-ltb depth 65535 lt) at e) in
          omega arith)
      | inr le ↦ (let bad : Err Unsuccessful ≡ Ok b = rw (le-ltb depth 65535 le) at e in absurd (cc))
    ]

found_onward : (bytes : List ℕ) (place : ℕ) (read : Reader) → IsOnward bytes read → (r : Result (Option (Symbol × ℕ)) Fault) → next bytes place ≡ r
    → (limit depth : ℕ) (b : Forest × ℕ) → body_found bytes r limit depth read ≡ Ok b → length bytes - b.1 ≤ length bytes - place
found_onward bytes place read onward (Ok (Some found)) is limit depth b e =
    let between = found_between bytes place found.0 found.1 is in
    elim (cases_lt found.0.index limit) [
      | inl lt ↦ element_onward bytes place found.0 found.1 read between onward (element_of found.0) limit depth b (rw (lt-leb limit found.0.index lt) at e)
      | inr le ↦ (
          let f : Ok (Empty, found.1) ≡ Ok b = rw (le-leb limit found.0.index le) at e in
          let pair : (Empty, found.1) ≡ b = cc in
          let end : found.1 ≡ b.1 = ap (λ (x : Forest × ℕ). x.1) pair in
          omega arith)
    ]
found_onward bytes place read onward (Ok None) is limit depth b e =
    let pair : (Empty, length bytes) ≡ b = cc in
    let end : length bytes ≡ b.1 = ap (λ (x : Forest × ℕ). x.1) pair in
    omega arith
found_onward bytes place read onward (Err fault) is limit depth b e = absurd (cc)

-- the same within so many steps
pub within_onward : (n : ℕ) (bytes : List ℕ) → IsOnward bytes (body_within n bytes)
unfolding body_within
within_onward zero bytes = record {
  each = λ limit depth place b e.
      (let pair : (Empty, length bytes) ≡ b = cc in
      let end : length bytes ≡ b.1 = ap (λ (x : Forest × ℕ). x.1) pair in
      omega arith);
}
within_onward (suc n) bytes = record { each = λ limit depth place b e. found_onward bytes place (body_within n bytes) (within_onward n bytes) (next bytes place) refl limit depth b e }

-- a body ends at its place or later, or at the list's end
pub body_onward : (bytes : List ℕ) → IsOnward bytes (body bytes)
unfolding body
body_onward bytes = record { each = λ limit depth place b e. (within_onward (length bytes + 1) bytes).each limit depth place b e }

-- ---- steps

-- two that read the same past an index
pub record IsSamePast (bytes : List ℕ) (index : ℕ) (read other : Reader) : Type 0 where
  pub each : (limit depth place : ℕ) → length bytes - place < length bytes - index → read limit depth place ≡ other limit depth place

same_tree : (bytes : List ℕ) (index behind : ℕ) (read other : Reader) → index < behind → behind ≤ length bytes → IsOnward bytes other → IsSamePast bytes index read other → (call : InlineSiteForm) (limit depth : ℕ)
    → tree_read call (read call.end.0 (depth + 1) behind) (read limit depth) ≡ tree_read call (other call.end.0 (depth + 1) behind) (other limit depth)
same_tree bytes index behind read other before within onward same call limit depth =
    ap (λ r. tree_read call r (read limit depth)) (same.each call.end.0 (depth + 1) behind (omega arith))
    ∙ elim (other call.end.0 (depth + 1) behind) as (λ (r : Result (Forest × ℕ) SitesFault).
    other call.end.0 (depth + 1) behind ≡ r → tree_read call r (read limit depth) ≡ tree_read call r (other limit depth)) [
      | Ok below ↦ λ e.
          let more = onward.each call.end.0 (depth + 1) behind below e in
          ap (λ (r : Result (Forest × ℕ) SitesFault). r >>= λ others. Ok (Tree call below.0 others.0, others.1)) (same.each limit depth below.1 (omega arith))
      | Err fault ↦ λ e. refl
    ] refl

same_past : (bytes : List ℕ) (index last : ℕ) (read other : Reader) → index < last → index < length bytes → IsSamePast bytes index read other → (limit depth : ℕ)
    → (in_symbols (past bytes last) >>= read limit depth) ≡ (in_symbols (past bytes last) >>= other limit depth)
same_past bytes index last read other before within same limit depth =
    elim (past bytes last) as (λ (r : Result ℕ Fault). past bytes last ≡ r → (in_symbols r >>= read limit depth) ≡ (in_symbols r >>= other limit depth)) [
      | Ok further ↦ λ e.
          let over = past_further bytes last further e in
          same.each limit depth further (omega arith)
      | Err fault ↦ λ e. refl
    ] refl

same_element : (bytes : List ℕ) (s : Symbol) (behind : ℕ) (read other : Reader) → s.index < behind → behind ≤ length bytes → IsOnward bytes other → IsSamePast bytes s.index read other → (element : Element) (limit depth : ℕ)
    → element_read bytes s behind element limit depth read ≡ element_read bytes s behind element limit depth other
same_element bytes s behind read other before within onward same Plain limit depth = same.each limit depth behind (omega arith)
same_element bytes s behind read other before within onward same (Nested last) limit depth =
    elim (cases_lt s.index last) [
      | inl lt ↦ rw (lt-ltb s.index last lt) (same_past bytes s.index last read other lt (omega arith) same limit depth)
      | inr le ↦ rw (le-ltb s.index last le) refl
    ]
same_element bytes s behind read other before within onward same (Call call) limit depth =
    elim (cases_lt depth 65535) [
      | inl lt ↦ rw (lt-ltb depth 65535 lt) (same_tree bytes s.index behind read other before within onward same call limit depth)
      | inr le ↦ rw (le-ltb depth 65535 le) refl
    ]

same_found : (bytes : List ℕ) (place : ℕ) (read other : Reader) → IsOnward bytes other → IsSamePast bytes place read other → (r : Result (Option (Symbol × ℕ)) Fault) → next bytes place ≡ r → (limit depth : ℕ)
    → body_found bytes r limit depth read ≡ body_found bytes r limit depth other
same_found bytes place read other onward same (Ok (Some found)) is limit depth =
    let between = found_between bytes place found.0 found.1 is in
    let later = between.later in
    let here : IsSamePast bytes found.0.index read other = record { each = λ l d p less. same.each l d p (omega arith) } in
    ap (λ (r : Result (Forest × ℕ) SitesFault). if nat_le limit found.0.index then Ok (Empty, found.1) else r)
    (same_element bytes found.0 found.1 read other between.before between.within onward here (element_of found.0) limit depth)
same_found bytes place read other onward same (Ok None) is limit depth = refl
same_found bytes place read other onward same (Err fault) is limit depth = refl

-- steps past the number of places change nothing
same_body : (n m : ℕ) (bytes : List ℕ) (limit depth place : ℕ) → length bytes - place ≤ n → length bytes - place ≤ m → body_within n bytes limit depth place ≡ body_within m bytes limit depth place
unfolding body_within
same_body zero zero bytes limit depth place enough enough' = refl
same_body zero (suc m) bytes limit depth place enough enough' = rw (next_past bytes place (omega arith)) refl
same_body (suc n) zero bytes limit depth place enough enough' = rw (next_past bytes place (omega arith)) refl
same_body (suc n) (suc m) bytes limit depth place enough enough' =
    same_found bytes place (body_within n bytes) (body_within m bytes) (within_onward m bytes)
    (record { each = λ l d p less. same_body n m bytes l d p (omega arith) (omega arith) }) (next bytes place) refl limit depth

within_step : (n m : ℕ) (bytes : List ℕ) (limit depth place : ℕ) → length bytes - place ≤ n → length bytes - place ≤ suc m → body_within n bytes limit depth place ≡ body_found bytes (next bytes place) limit depth (body_within m bytes)
unfolding body_within
within_step n m bytes limit depth place enough enough' = same_body n (suc m) bytes limit depth place enough enough'

-- a body by what is found at its place
pub body_step : (bytes : List ℕ) (limit depth place : ℕ) → body bytes limit depth place ≡ body_found bytes (next bytes place) limit depth (body bytes)
unfolding body
body_step bytes limit depth place = within_step (length bytes + 1) (length bytes + 1) bytes limit depth place (omega arith) (omega arith)
