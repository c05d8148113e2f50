-- Open bodies, and what each symbol does to them.
use Rattle.std.proofs.Common.{inl, inr, ◌≡◌, ℕ, ◌+◌, ◌-◌, ◌<◌, ◌≤◌, List, [], ◌∷◌, ◌++◌, length, reverse, length-append, Option, Some, None, Result, Ok, Err, refl, sym, subst, ap, ◌∙◌, arith}
use Rattle.std.specs.Prelude.{IsErrAnd, nat_lt, if◌then◌else◌}
use Rattle.std.proofs.lemmas.Bool.{cases_lt, lt-ltb, le-ltb}
use Rattle.std.proofs.lemmas.List.{append-nil, reverse-append, length-reverse, nil_from_length}
use Rattle.pdb_container.specs.Fault.{Fault, fault_of, ◌>>=◌}
use Rattle.pdb_symbol_records.specs.Forms.{InlineSiteForm}
use Rattle.pdb_symbol_records.specs.Iteration.{SymbolIteration, found_next, symbol_of, symbols_behind}
use Rattle.pdb_symbol_records.specs.Symbols.{Symbol, next}
use Rattle.pdb_symbol_records.proofs.Lists.{next_past}
use Rattle.pdb_module_data.specs.declared.inline_sites.Open.{Open}
use Rattle.pdb_module_data.specs.declared.inline_sites.SitesError.{SitesError}
use Rattle.pdb_module_data.specs.declared.inline_sites.SitesError.TheVariants as errors
use Rattle.pdb_module_data.specs.SitesFaults.{Reads}
use Rattle.pdb_module_data.specs.Elements.{nested_past, with_site}
use Rattle.pdb_module_data.specs.Forest.{SitesFault, InSymbols, Unsuccessful, Forest, Empty, Tree, Call, Nested, Plain, element_of, past, in_symbols, tree_read, body, Site, numbered}
use Rattle.pdb_module_data.proofs.Bodies.{found_between, past_of_symbols, past_further}
use Rattle.pdb_module_data.proofs.BodySteps.{body_ended, body_fault, body_closed, body_plain, body_nested, body_site, body_deep}
use Rattle.pdb_module_data.proofs.NestedSites.{site_at, regroup}

-- the sites that there will be when these bodies, the innermost first, are read on from a place
abbrev pub completed : List ℕ → List Open → List Site → ℕ → Result (List Site) SitesFault
completed bytes [] sites place = Ok sites
completed bytes (o ∷ os) sites place = body bytes o.limit (length os) place >>= λ read. completed bytes os (sites ++ numbered o.site (length os + 1) (length sites) read.0) read.1

-- the same from where an iterator stands
abbrev pub completed_at : SymbolIteration → List Open → List Site → Result (List Site) SitesFault
completed_at it opens sites = completed it.bytes opens sites it.place

-- reading on gives all that is to be read
pub record LeadsTo (it : SymbolIteration) (opens : List Open) (sites : List Site) (total : Result (List Site) SitesFault) : Type 0 where
  pub same : completed_at it opens sites ≡ total

-- ---- what an iterator found

-- an iterator found a symbol, and stands after it then
pub record HasFound (it : SymbolIteration) (s : Symbol) (new : SymbolIteration) : Type 0 where
  pub is : next it.bytes it.place ≡ Ok (Some (s, new.place))
  pub same : new.bytes ≡ it.bytes
  pub fewer : length new.bytes - new.place < length it.bytes - it.place

found_by : (it : SymbolIteration) (s : Symbol) (new : SymbolIteration) (r : Result (Option (Symbol × ℕ)) Fault) → found_next it ≡ r → symbol_of r ≡ Ok (Some s) → new ≡ symbols_behind it.bytes r → HasFound it s new
found_by it s new (Ok (Some found)) is symbol behind =
    let place : found.1 ≡ new.place = sym (ap (λ (i : SymbolIteration). i.place) behind) in
    let bytes : new.bytes ≡ it.bytes = ap (λ (i : SymbolIteration). i.bytes) behind in
    let one : found.0 ≡ s = cc in
    let pair : found ≡ (s, new.place) = ap (λ (x : Symbol). (x, found.1)) one ∙ ap (λ n. (s, n)) place in
    let here : next it.bytes it.place ≡ Ok (Some (s, new.place)) = is ∙ ap (λ (f : Symbol × ℕ). Ok (Some f)) pair in
    let between = found_between it.bytes it.place s new.place here in
    let later = between.later in
    let before = between.before in
    let within = between.within in
    let long : length new.bytes ≡ length it.bytes = ap length bytes in
    record { is = here; same = bytes; fewer = omega arith }
found_by it s new (Ok None) is symbol behind = absurd (cc)
found_by it s new (Err e) is symbol behind = absurd (cc)

-- a symbol that an iterator returned
pub has_found : (it : SymbolIteration) (o : Option Symbol) (s : Symbol) (new : SymbolIteration) → symbol_of (found_next it) ≡ Ok o → o ≡ Some s → new ≡ symbols_behind it.bytes (found_next it) → HasFound it s new
has_found it o s new symbol some behind = found_by it s new (found_next it) refl (symbol ∙ ap Ok some) behind

behind_bytes : (bytes : List ℕ) (r : Result (Option (Symbol × ℕ)) Fault) → (symbols_behind bytes r).bytes ≡ bytes
behind_bytes bytes (Ok (Some found)) = refl
behind_bytes bytes (Ok None) = refl
behind_bytes bytes (Err e) = refl

-- an iterator goes on over the same bytes
pub behind_same : (it new : SymbolIteration) → new ≡ symbols_behind it.bytes (found_next it) → new.bytes ≡ it.bytes
behind_same it new behind = ap (λ (i : SymbolIteration). i.bytes) behind ∙ behind_bytes it.bytes (found_next it)

none_found : (r : Result (Option (Symbol × ℕ)) Fault) → symbol_of r ≡ Ok None → r ≡ Ok None
none_found (Ok (Some found)) none = absurd (cc)
none_found (Ok None) none = refl
none_found (Err e) none = absurd (cc)

fault_found : (r : Result (Option (Symbol × ℕ)) Fault) (fault : Fault) → symbol_of r ≡ Err fault → r ≡ Err fault
fault_found (Ok (Some found)) fault bad = absurd (cc)
fault_found (Ok None) fault bad = absurd (cc)
fault_found (Err e) fault bad = let one : e ≡ fault = cc in ap Err one

-- ---- ends and faults

-- by how the innermost body is read
completed_by : (bytes : List ℕ) (o : Open) (os : List Open) (sites : List Site) (place : ℕ) (r : Result (Forest × ℕ) SitesFault) → body bytes o.limit (length os) place ≡ r
    → completed bytes (o ∷ os) sites place ≡ (r >>= λ read. completed bytes os (sites ++ numbered o.site (length os + 1) (length sites) read.0) read.1)
completed_by bytes o os sites place r same = ap (λ (x : Result (Forest × ℕ) SitesFault). x >>= λ read. completed bytes os (sites ++ numbered o.site (length os + 1) (length sites) read.0) read.1) same

-- where the innermost body ends, those around it go on
completed_empty : (bytes : List ℕ) (o : Open) (os : List Open) (sites : List Site) (place behind : ℕ) → body bytes o.limit (length os) place ≡ Ok (Empty, behind) → completed bytes (o ∷ os) sites place ≡ completed bytes os sites behind
completed_empty bytes o os sites place behind same = completed_by bytes o os sites place (Ok (Empty, behind)) same ∙ ap (λ ys. completed bytes os ys behind) (append-nil sites)

completed_ended : (bytes : List ℕ) (opens : List Open) (sites : List Site) (place : ℕ) → next bytes place ≡ Ok None → completed bytes opens sites place ≡ Ok sites
completed_ended bytes [] sites place none = refl
completed_ended bytes (o ∷ os) sites place none =
    completed_empty bytes o os sites place (length bytes) (body_ended bytes o.limit (length os) place none)
    ∙ completed_ended bytes os sites (length bytes) (next_past bytes (length bytes) (omega arith))

-- the list's end closes all
pub scan_ended : (it : SymbolIteration) (opens : List Open) (sites : List Site) → symbol_of (found_next it) ≡ Ok None → completed_at it opens sites ≡ Ok sites
scan_ended it opens sites none = completed_ended it.bytes opens sites it.place (none_found (found_next it) none)

-- a fault of the symbols is that of all
pub scan_fault : (it : SymbolIteration) (o : Open) (os : List Open) (sites : List Site) (fault : Fault) → symbol_of (found_next it) ≡ Err fault → completed_at it (o ∷ os) sites ≡ Err (InSymbols fault)
scan_fault it o os sites fault bad =
    completed_by it.bytes o os sites it.place (Err (InSymbols fault)) (body_fault it.bytes o.limit (length os) it.place fault (fault_found (found_next it) fault bad))

-- ---- a symbol at the limit or past it

-- it closes the innermost body
scan_closed : (it new : SymbolIteration) (s : Symbol) (o : Open) (os : List Open) (sites : List Site) → HasFound it s new → o.limit ≤ s.index → completed_at new os sites ≡ completed_at it (o ∷ os) sites
scan_closed it new s o os sites found le =
    ap (λ bytes. completed bytes os sites new.place) found.same
    ∙ sym (completed_empty it.bytes o os sites it.place new.place (body_closed it.bytes o.limit (length os) it.place s new.place found.is le))

-- the stack, stored with the innermost last
reverse_push : (xs : List Open) (o : Open) → reverse (xs ++ o ∷ []) ≡ o ∷ reverse xs
reverse_push xs o = reverse-append xs (o ∷ [])

-- it closes a body in another
pub scan_popped : (it new : SymbolIteration) (s : Symbol) (o around : Open) (below rest : List Open) (sites : List Site) → HasFound it s new → o.limit ≤ s.index → below ≡ rest ++ around ∷ []
    → completed_at new (around ∷ reverse rest) sites ≡ completed_at it (o ∷ reverse below) sites
scan_popped it new s o around below rest sites found le stack =
    ap (λ os. completed_at new os sites) (sym (ap reverse stack ∙ reverse_push rest around)) ∙ scan_closed it new s o (reverse below) sites found le

-- it closes the outermost body
pub scan_last : (it new : SymbolIteration) (s : Symbol) (o : Open) (below : List Open) (sites : List Site) → HasFound it s new → o.limit ≤ s.index → length below ≡ 0 → completed_at it (o ∷ reverse below) sites ≡ Ok sites
scan_last it new s o below sites found le none =
    ap (λ (os : List Open). completed_at it (o ∷ reverse os) sites) (nil_from_length below none) ∙ sym (scan_closed it new s o [] sites found le)

-- ---- a plain symbol, and a nested procedure

-- a plain symbol is passed over
pub scan_plain : (it new : SymbolIteration) (s : Symbol) (o : Open) (os : List Open) (sites : List Site) → HasFound it s new → s.index < o.limit → element_of s ≡ Plain → completed_at new (o ∷ os) sites ≡ completed_at it (o ∷ os) sites
scan_plain it new s o os sites found lt is =
    ap (λ bytes. completed bytes (o ∷ os) sites new.place) found.same
    ∙ sym (completed_by it.bytes o os sites it.place (body it.bytes o.limit (length os) new.place) (body_plain it.bytes o.limit (length os) it.place s new.place found.is lt is))

nested_by : (bytes : List ℕ) (index last : ℕ) (read : ℕ → Result (Forest × ℕ) SitesFault)
    → (if nat_lt index last then (in_symbols (past bytes last) >>= read) else Err Unsuccessful) ≡ (nested_past bytes index last >>= read)
nested_by bytes index last read =
    elim (cases_lt index last) [
      | inl lt ↦ rw (lt-ltb index last lt) refl
      | inr le ↦ rw (le-ltb index last le) refl
    ]

-- what is after a nested procedure, or why it can't be passed over
completed_nested : (it new : SymbolIteration) (s : Symbol) (o : Open) (os : List Open) (sites : List Site) (last : ℕ) → HasFound it s new → s.index < o.limit → element_of s ≡ Nested last
    → (r : Result ℕ SitesFault) → nested_past new.bytes s.index last ≡ r → completed_at it (o ∷ os) sites ≡ (r >>= completed it.bytes (o ∷ os) sites)
completed_nested it new s o os sites last found lt is r past =
    let there : nested_past it.bytes s.index last ≡ r = ap (λ bytes. nested_past bytes s.index last) (sym found.same) ∙ past in
    let read : body it.bytes o.limit (length os) it.place ≡ (r >>= body it.bytes o.limit (length os)) =
    body_nested it.bytes o.limit (length os) it.place s new.place last found.is lt is ∙ nested_by it.bytes s.index last (body it.bytes o.limit (length os))
    ∙ ap (λ (x : Result ℕ SitesFault). x >>= body it.bytes o.limit (length os)) there in
    completed_by it.bytes o os sites it.place (r >>= body it.bytes o.limit (length os)) read ∙ twice r
  where
    twice : (r : Result ℕ SitesFault) → ((r >>= body it.bytes o.limit (length os)) >>= λ read. completed it.bytes os (sites ++ numbered o.site (length os + 1) (length sites) read.0) read.1) ≡ (r >>= completed it.bytes (o ∷ os) sites)
    twice (Ok further) = refl
    twice (Err fault) = refl

-- a nested procedure is passed over
pub scan_nested : (it new further : SymbolIteration) (s : Symbol) (o : Open) (os : List Open) (sites : List Site) (last : ℕ) → HasFound it s new → s.index < o.limit → element_of s ≡ Nested last
    → nested_past new.bytes s.index last ≡ Ok further.place → further.bytes ≡ new.bytes → completed_at further (o ∷ os) sites ≡ completed_at it (o ∷ os) sites
scan_nested it new further s o os sites last found lt is past same =
    ap (λ bytes. completed bytes (o ∷ os) sites further.place) (same ∙ found.same) ∙ sym (completed_nested it new s o os sites last found lt is (Ok further.place) past)

-- why it can't be passed over is why there are no sites
pub scan_refused : (it new : SymbolIteration) (s : Symbol) (o : Open) (os : List Open) (sites : List Site) (last : ℕ) (fault : SitesFault) → HasFound it s new → s.index < o.limit → element_of s ≡ Nested last
    → nested_past new.bytes s.index last ≡ Err fault → completed_at it (o ∷ os) sites ≡ Err fault
scan_refused it new s o os sites last fault found lt is past = completed_nested it new s o os sites last found lt is (Err fault) past

-- after a nested procedure there is less to read
pub nested_fewer : (it new further : SymbolIteration) (s : Symbol) (last : ℕ) → HasFound it s new → nested_past new.bytes s.index last ≡ Ok further.place → further.bytes ≡ new.bytes
    → length further.bytes - further.place < length it.bytes - it.place
nested_fewer it new further s last found behind same =
    elim (cases_lt s.index last) [
      | inl lt ↦ (
          let to = past_of_symbols (past new.bytes last) further.place (rw (lt-ltb s.index last lt) at behind) in
          let over = past_further new.bytes last further.place to in
          let between = found_between it.bytes it.place s new.place found.is in
          let later = between.later in
          let before = between.before in
          let within = between.within in
          let long : length new.bytes ≡ length it.bytes = ap length found.same in
          let long' : length further.bytes ≡ length new.bytes = ap length same in
          omega arith)
      | inr le ↦ (let bad : Err Unsuccessful ≡ Ok further.place = rw (le-ltb s.index last le) at behind in absurd (cc))
    ]

-- ---- an inline site

joined : (sites : List Site) (parent : Option ℕ) (depth : ℕ) (call : InlineSiteForm) (inner after : Forest) (deeper first behind : ℕ) → deeper ≡ depth + 1 → first ≡ length sites + 1 → behind ≡ first + length (numbered (Some (length sites)) deeper first inner)
    → ((sites ++ site_at call parent depth ∷ []) ++ numbered (Some (length sites)) deeper first inner) ++ numbered parent depth behind after ≡ sites ++ numbered parent depth (length sites) (Tree call inner after)
joined sites parent depth call inner after deeper first behind deep next last =
    let n = length sites in
    let below = numbered (Some n) (depth + 1) (n + 1) inner in
    let x = site_at call parent depth in
    let a : numbered (Some n) deeper first inner ≡ below = ap (λ z. numbered (Some n) z first inner) deep ∙ ap (λ z. numbered (Some n) (depth + 1) z inner) next in
    let l : length (numbered (Some n) deeper first inner) ≡ length below = ap length a in
    let k : behind ≡ n + 1 + length below = omega arith in
    let b : numbered parent depth behind after ≡ numbered parent depth (n + 1 + length below) after = ap (λ z. numbered parent depth z after) k in
    ap (λ ys. ((sites ++ x ∷ []) ++ ys) ++ numbered parent depth behind after) a ∙ ap (λ ys. ((sites ++ x ∷ []) ++ below) ++ ys) b ∙ regroup sites x below (numbered parent depth (n + 1 + length below) after)

-- the sites so far, those of a new site's body and those after it, as one tree gives them
opened : (o : Open) (os : List Open) (sites : List Site) (call : InlineSiteForm) (inner after : Forest)
    → let with_it = (sites ++ site_at call o.site (length os + 1) ∷ []) ++ numbered (Some (length sites)) (length (o ∷ os) + 1) (length (sites ++ site_at call o.site (length os + 1) ∷ [])) inner in
    with_it ++ numbered o.site (length os + 1) (length with_it) after ≡ sites ++ numbered o.site (length os + 1) (length sites) (Tree call inner after)
opened o os sites call inner after =
    let x = site_at call o.site (length os + 1) in
    let more = length-append sites (x ∷ []) in
    let below = numbered (Some (length sites)) (length (o ∷ os) + 1) (length (sites ++ x ∷ [])) inner in
    let all = length-append (sites ++ x ∷ []) below in
    joined sites o.site (length os + 1) call inner after (length (o ∷ os) + 1) (length (sites ++ x ∷ [])) (length ((sites ++ x ∷ []) ++ below)) (omega arith) (omega arith) all

-- a site with the sites in it, by those after it
abbrev tree_before : InlineSiteForm → Forest → Forest × ℕ → Result (Forest × ℕ) SitesFault
tree_before call inner others = Ok (Tree call inner others.0, others.1)

completed_tree : (bytes : List ℕ) (o : Open) (os : List Open) (sites : List Site) (call : InlineSiteForm) (r : Result (Forest × ℕ) SitesFault)
    → let with_it = sites ++ site_at call o.site (length os + 1) ∷ [] in
    (r >>= λ below. completed bytes (o ∷ os) (with_it ++ numbered (Some (length sites)) (length (o ∷ os) + 1) (length with_it) below.0) below.1)
    ≡ (tree_read call r (body bytes o.limit (length os)) >>= λ read. completed bytes os (sites ++ numbered o.site (length os + 1) (length sites) read.0) read.1)
completed_tree bytes o os sites call (Ok below) = behind (body bytes o.limit (length os) below.1)
  where
    behind : (r : Result (Forest × ℕ) SitesFault)
        → let with_it = (sites ++ site_at call o.site (length os + 1) ∷ []) ++ numbered (Some (length sites)) (length (o ∷ os) + 1) (length (sites ++ site_at call o.site (length os + 1) ∷ [])) below.0 in
        (r >>= λ read. completed bytes os (with_it ++ numbered o.site (length os + 1) (length with_it) read.0) read.1)
        ≡ ((r >>= tree_before call below.0) >>= λ read. completed bytes os (sites ++ numbered o.site (length os + 1) (length sites) read.0) read.1)
    behind (Ok others) = ap (λ ys. completed bytes os ys others.1) (opened o os sites call below.0 others.0)
    behind (Err fault) = refl
completed_tree bytes o os sites call (Err fault) = refl

-- a site opens its body
completed_site : (bytes : List ℕ) (o : Open) (os : List Open) (sites : List Site) (place : ℕ) (s : Symbol) (behind : ℕ) (call : InlineSiteForm) → next bytes place ≡ Ok (Some (s, behind)) → s.index < o.limit → element_of s ≡ Call call → length os < 65535
    → completed bytes (record { limit = call.end.0; site = Some (length sites) } ∷ o ∷ os) (sites ++ site_at call o.site (length os + 1) ∷ []) behind ≡ completed bytes (o ∷ os) sites place
completed_site bytes o os sites place s behind call found lt is room =
    let depth : length (o ∷ os) ≡ length os + 1 = omega arith in
    completed_by bytes (record { limit = call.end.0; site = Some (length sites) }) (o ∷ os) (sites ++ site_at call o.site (length os + 1) ∷ []) behind (body bytes call.end.0 (length os + 1) behind) (ap (λ d. body bytes call.end.0 d behind) depth)
    ∙ completed_tree bytes o os sites call (body bytes call.end.0 (length os + 1) behind)
    ∙ sym (completed_by bytes o os sites place (tree_read call (body bytes call.end.0 (length os + 1) behind) (body bytes o.limit (length os))) (body_site bytes o.limit (length os) place s behind call found lt is room))

pair_is : (n m : ℕ) (xs ys : List Site) (r : Result (ℕ × List Site) SitesFault) → r ≡ Ok (n, xs) → r ≡ Ok (m, ys) → (m ≡ n) × (ys ≡ xs)
pair_is n m xs ys r first second =
    let pair : (n, xs) ≡ (m, ys) = cc in
    (sym (ap (λ (x : ℕ × List Site). x.0) pair), sym (ap (λ (x : ℕ × List Site). x.1) pair))

err_is : (a b : SitesFault) (r : Result (ℕ × List Site) SitesFault) → r ≡ Err a → r ≡ Err b → a ≡ b
err_is a b r first second = cc

ok_or_err : (x : ℕ × List Site) (e : SitesFault) (r : Result (ℕ × List Site) SitesFault) → r ≡ Ok x → r ≡ Err e → ⊥
ok_or_err x e r first second = cc

-- one more site, where there is room
with_room : (sites : List Site) (parent : Option ℕ) (below : ℕ) (call : InlineSiteForm) → below < 65535 → with_site sites parent below call ≡ Ok (length sites, sites ++ site_at call parent (below + 1) ∷ [])
with_room sites parent below call lt = rw (lt-ltb below 65535 lt) refl

-- none, where there is no room
without_room : (sites : List Site) (parent : Option ℕ) (below : ℕ) (call : InlineSiteForm) → 65535 ≤ below → with_site sites parent below call ≡ Err Unsuccessful
without_room sites parent below call le = rw (le-ltb below 65535 le) refl

site_by : (sites : List Site) (parent : Option ℕ) (below : ℕ) (call : InlineSiteForm) (number : ℕ) (more : List Site) → with_site sites parent below call ≡ Ok (number, more)
    → (below < 65535) × (number ≡ length sites) × (more ≡ sites ++ site_at call parent (below + 1) ∷ [])
site_by sites parent below call number more pushed =
    elim (cases_lt below 65535) [
      | inl lt ↦ (
          let p = pair_is (length sites) number (sites ++ site_at call parent (below + 1) ∷ []) more (with_site sites parent below call) (with_room sites parent below call lt) pushed in
          (lt, p.0, p.1))
      | inr le ↦ absurd (ok_or_err (number, more) Unsuccessful (with_site sites parent below call) pushed (without_room sites parent below call le))
    ]

-- a site opens its body, in those that are open
pub scan_site : (it new : SymbolIteration) (s : Symbol) (o : Open) (below stack : List Open) (sites more : List Site) (call : InlineSiteForm) (deep number : ℕ) → HasFound it s new → s.index < o.limit → element_of s ≡ Call call
    → deep ≡ length below → with_site sites o.site deep call ≡ Ok (number, more) → stack ≡ below ++ o ∷ []
    → completed_at new (record { limit = call.end.0; site = Some number } ∷ reverse stack) more ≡ completed_at it (o ∷ reverse below) sites
scan_site it new s o below stack sites more call deep number found lt is depth pushed push =
    let w = site_by sites o.site deep call number more pushed in
    let room = w.0 in
    let os = reverse below in
    let long : length os ≡ deep = length-reverse below ∙ sym depth in
    let sites_are : more ≡ sites ++ site_at call o.site (length os + 1) ∷ [] = w.2 ∙ ap (λ n. sites ++ site_at call o.site (n + 1) ∷ []) (sym long) in
    let opens : record { limit = call.end.0; site = Some number } ∷ reverse stack ≡ record { limit = call.end.0; site = Some (length sites) } ∷ o ∷ os =
    ap (λ m. record { limit = call.end.0; site = Some m } ∷ reverse stack) w.1 ∙ ap (λ ys. record { limit = call.end.0; site = Some (length sites) } ∷ ys) (ap reverse push ∙ reverse_push below o) in
    ap (λ bytes. completed bytes (record { limit = call.end.0; site = Some number } ∷ reverse stack) more new.place) found.same
    ∙ ap (λ ys. completed it.bytes ys more new.place) opens
    ∙ ap (λ ys. completed it.bytes (record { limit = call.end.0; site = Some (length sites) } ∷ o ∷ os) ys new.place) sites_are
    ∙ completed_site it.bytes o os sites it.place s new.place call found.is lt is (omega arith)

-- a site too deep in others is why there are no sites
pub scan_deep : (it new : SymbolIteration) (s : Symbol) (o : Open) (below : List Open) (sites : List Site) (call : InlineSiteForm) (deep : ℕ) (fault : SitesFault) → HasFound it s new → s.index < o.limit → element_of s ≡ Call call
    → deep ≡ length below → with_site sites o.site deep call ≡ Err fault → completed_at it (o ∷ reverse below) sites ≡ Err fault
scan_deep it new s o below sites call deep fault found lt is depth refused =
    let long = length-reverse below in
    elim (cases_lt deep 65535) [
      | inl room ↦ absurd (ok_or_err (length sites, sites ++ site_at call o.site (deep + 1) ∷ []) fault (with_site sites o.site deep call) (with_room sites o.site deep call room) refused)
      | inr le ↦ (
          let same = err_is Unsuccessful fault (with_site sites o.site deep call) (without_room sites o.site deep call le) refused in
          completed_by it.bytes o (reverse below) sites it.place (Err Unsuccessful) (body_deep it.bytes o.limit (length (reverse below)) it.place s new.place call found.is lt is (omega arith))
          ∙ ap (λ (e : SitesFault). Err e) same)
    ]

-- ---- faults that are returned

-- a fault that a call returned, as a fault of what is read
pub reads_fault : {X Y V W : Type 0} (view : X → Y) (other : V → W) (e : SitesError) (a : Result Y SitesFault) (b : Result W SitesFault) → ((fault : SitesFault) → a ≡ Err fault → b ≡ Err fault) → Reads view (Err e) a → Reads other (Err e) b
reads_fault view other (errors.Pdb e) a b same (inl outside) = inl outside
reads_fault view other (errors.Pdb e) a b same (inr is) = inr (same (InSymbols (fault_of e)) is)
reads_fault view other errors.Unsuccessful a b same is = same Unsuccessful is

-- the same where another call returned it
pub returned : {X Y : Type 0} (view : X → Y) (result : Result X SitesError) (e : SitesError) (read : Result Y SitesFault) → IsErrAnd result (λ x. x ≡ e) → Reads view (Err e) read → Reads view result read
returned view (Ok x) e read is given = absurd is
returned view (Err x) e read is given = subst (λ (y : SitesError). Reads view (Err y) read) (sym is) given
