-- Requests: the lines that bytes end, one byte at a time, and answers to them, one at a time.
use Rattle.std.proofs.Common.{arith, ◌-◌, length-append, ◌≡◌, ℕ, ◌+◌, ◌<◌, ◌≤◌, List, [], ◌∷◌, ◌++◌, sym, ap, subst, ◌∙◌, append_assoc, append-nil, length, length-drop, take, drop, get_or, true, Bool, take-append-drop, slice_index_or, slice_set, zero, suc, inl, inr}
use Rattle.std.specs.Prelude.{Option, Result, Ok, Err, OnErr, OnOk, IfOk, IfSome, None, Some, ◌⊎◌}
use Rattle.std.specs.List.{flat_map, slice_range}
use Rattle.std.specs.Io.KnownBytes.{Appends}
use Rattle.std.proofs.KnownBytes.{Appends-trans}
use Rattle.std.proofs.Math.Seq.{drop-append_seam, map-set_same}
use Rattle.std.proofs.lemmas.Grind.{flat_map-append}
use Rattle.std.proofs.lemmas.List.Elements.{All-set, All-weaker}
use Rattle.std.proofs.lemmas.List.{map-append, take-append-le, drop-append-le, take_more, take_all, length-set, get_or-set_same, set-get_or}
use Rattle.pdb_engine.specs.declared.requests.Made.{Made}
use Rattle.pdb_engine.specs.declared.requests.Request.{Request}
use Rattle.pdb_engine.specs.InputLines.{kept_lines, kept_rest, Begins}
use Rattle.pdb_engine.specs.Requests.{lines_of, IsMade, IsAnswered, AreAnswered, AreUnanswered, HasLast, HaveLast}
use Rattle.pdb_engine.proofs.LineLemmas.{kept_lines-more}

-- a request takes the place of one of the same line
pub lines_set : {L : Type 0} (view : L → List ℕ) (requests : List (Request L)) (i : ℕ) (r d : Request L) → view r.line ≡ view ((slice_index_or requests i d).line) → lines_of view (slice_set requests i r) ≡ lines_of view requests
lines_set {L = L} view requests i r d same = map-set_same (λ (q : Request L). view q.line) requests i r d same

-- one byte more
pub lines_more : (room : ℕ) (lines lines' : List (List ℕ)) (kept kept' bytes : List ℕ) (i : ℕ) → i < length bytes → lines ≡ kept_lines room kept (take i bytes) → kept' ≡ kept_rest room kept (take i bytes)
    → lines' ≡ lines ++ kept_lines room kept' (get_or bytes i 0 ∷ []) → lines' ≡ kept_lines room kept (take (i + 1) bytes)
lines_more room lines lines' kept kept' bytes i h e ek more =
    more ∙ ap (λ l. l ++ kept_lines room kept' (get_or bytes i 0 ∷ [])) e
    ∙ ap (λ k. kept_lines room kept (take i bytes) ++ kept_lines room k (get_or bytes i 0 ∷ [])) ek
    ∙ sym (kept_lines-more room kept bytes i h)

-- ---- texts that were made

-- what was appended to a list stands there
between_added : (xs ys : List ℕ) → slice_range (xs ++ ys) (length xs) (length (xs ++ ys)) ≡ ys
between_added xs ys = ap (λ l. take (length (xs ++ ys) - length xs) l) (drop-append_seam xs ys) ∙ take_all _ ys (omega (arith, length-append xs ys))

-- a text that is appended to others is made
pub made_later : (known : Type 0) (text : List ℕ → List ℕ) (texts texts' line : List ℕ) → length texts < 8388608 → ((more : List ℕ) × (texts' ≡ texts ++ more)) → (known → texts' ≡ texts ++ text line)
    → IsMade known text texts' line record { start = length texts; end = length texts' }
made_later known text texts texts' line room (more, grown) is = record {
  order = omega (arith, ap length grown, length-append texts more);
  within = omega arith;
  ahead = room;
  is = λ h. ap (λ l. slice_range l (length texts) (length l)) (is h) ∙ between_added texts (text line);
}

-- what is known of a text holds where less is known
made_weaker : (known known' : Type 0) (text : List ℕ → List ℕ) (texts line : List ℕ) (made : Made) → (known' → known) → IsMade known text texts line made → IsMade known' text texts line made
made_weaker known known' text texts line made grows m = record { order = m.order; within = m.within; ahead = m.ahead; is = λ h. m.is (grows h) }

-- ..of one that may have been made
pub answered_weaker : {L : Type 0} (known known' : Type 0) (view : L → List ℕ) (text : List ℕ → List ℕ) (texts : List ℕ) (r : Request L) → (known' → known) → IsAnswered known view text texts r → IsAnswered known' view text texts r
answered_weaker known known' view text texts r grows = some r.made
  where
    some : (made : Option Made) → IfSome made (IsMade known text texts (view r.line)) → IfSome made (IsMade known' text texts (view r.line))
    some None h = tt
    some (Some m) h = made_weaker known known' text texts (view r.line) m grows h

-- One of them at a later state, at which the texts have another name.
pub answered_now : {L : Type 0} (known known' : Type 0) (view : L → List ℕ) (text text' : List ℕ → List ℕ) (texts : List ℕ) (requests : List (Request L)) (i : ℕ) (r : Request L) → (known' → known) → text' ≡ text → i < length requests → r ≡ get_or requests i r
    → AreAnswered known view text texts requests → IsAnswered known' view text' texts r
answered_now known known' view text text' texts requests i r grows same h is all =
    subst (λ (t : List ℕ → List ℕ). IsAnswered known' view t texts r) (sym same)
    (answered_weaker known known' view text texts r grows (subst (λ (q : Request _). IsAnswered known view text texts q) (sym is) (all i r h)))

-- where none was made, nothing is to be said of any
pub none_made : {L : Type 0} (known : Type 0) (view : L → List ℕ) (text : List ℕ → List ℕ) (texts : List ℕ) (requests : List (Request L)) → AreUnanswered requests → AreAnswered known view text texts requests
none_made known view text texts requests = All-weaker (λ r. r.made ≡ None) (IsAnswered known view text texts) (λ r e. subst (λ (made : Option Made). IfSome made (IsMade known text texts (view r.line))) (sym e) tt) requests

-- what stands between two offsets stays there where more is appended
between_kept : (xs ys : List ℕ) (from to : ℕ) → from ≤ to → to ≤ length xs → slice_range (xs ++ ys) from to ≡ slice_range xs from to
between_kept xs ys from to order within =
    ap (λ l. take (to - from) l) (drop-append-le from xs ys (omega arith)) ∙ take-append-le (to - from) (drop from xs) ys (omega (arith, length-drop from xs))

-- a text stands among more of them
made_among : (known : Type 0) (text : List ℕ → List ℕ) (texts texts' line : List ℕ) (made : Made) → ((more : List ℕ) × (texts' ≡ texts ++ more)) → IsMade known text texts line made → IsMade known text texts' line made
made_among known text texts texts' line made (more, grown) m = record {
  order = m.order;
  within = omega (arith, m.within, ap length grown, length-append texts more);
  ahead = m.ahead;
  is = λ h. ap (λ l. slice_range l made.start made.end) grown ∙ between_kept texts more made.start made.end m.order m.within ∙ m.is h;
}

answered_among : {L : Type 0} (known : Type 0) (view : L → List ℕ) (text : List ℕ → List ℕ) (texts texts' : List ℕ) (r : Request L) → ((more : List ℕ) × (texts' ≡ texts ++ more)) → IsAnswered known view text texts r → IsAnswered known view text texts' r
answered_among known view text texts texts' r grown = some r.made
  where
    some : (made : Option Made) → IfSome made (IsMade known text texts (view r.line)) → IfSome made (IsMade known text texts' (view r.line))
    some None h = tt
    some (Some m) h = made_among known text texts texts' (view r.line) m grown h

-- one more of them was made, or was left, and the others stay
pub answered_set : {L : Type 0} (known known' : Type 0) (view : L → List ℕ) (text : List ℕ → List ℕ) (texts texts' : List ℕ) (requests : List (Request L)) (i : ℕ) (r : Request L) → (known' → known) → ((more : List ℕ) × (texts' ≡ texts ++ more))
    → AreAnswered known view text texts requests → IsAnswered known' view text texts' r → AreAnswered known' view text texts' (slice_set requests i r)
answered_set known known' view text texts texts' requests i r grows grown all one =
    All-set (IsAnswered known' view text texts') requests i r one
    (All-weaker (IsAnswered known view text texts) (IsAnswered known' view text texts') (λ q h. answered_among known' view text texts texts' q grown (answered_weaker known known' view text texts q grows h)) requests all)

-- A text was made for the line at i, or nothing changed.
-- One of these follows from what is known of a call by the room that there was.
last_or_same : {E L : Type 0} (result : Result Bool E) (texts texts' : List ℕ) (r r' : Request L) → ((length texts < 8388608) ⊎ (8388608 ≤ length texts))
    → (length texts < 8388608 → IfOk result (λ is_made. (is_made ≡ true) × HasLast texts' r'))
    → (8388608 ≤ length texts → (texts' ≡ texts) × (r' ≡ r)) → OnErr result ((texts' ≡ texts) × (r' ≡ r))
    → HasLast texts' r' ⊎ ((texts' ≡ texts) × (r' ≡ r))
last_or_same (Ok is_made) texts texts' r r' (inl h) room full refused = inl (room h).1
last_or_same (Err e) texts texts' r r' (inl h) room full refused = inr refused
last_or_same result texts texts' r r' (inr h) room full refused = inr (full h)

has_room : (m n : ℕ) → (m < n) ⊎ (n ≤ m)
has_room zero zero = inr (omega arith)
has_room zero (suc n) = inl (omega arith)
has_room (suc m) zero = inr (omega arith)
has_room (suc m) (suc n) = next (has_room m n)
  where
    next : (m < n) ⊎ (n ≤ m) → (suc m < suc n) ⊎ (suc n ≤ suc m)
    next (inl h) = inl (omega arith)
    next (inr h) = inr (omega arith)

have_last : {L : Type 0} (texts texts' : List ℕ) (requests : List (Request L)) (i : ℕ) (r r' : Request L) → i < length requests → r ≡ get_or requests i r
    → (HasLast texts' r' ⊎ ((texts' ≡ texts) × (r' ≡ r))) → HaveLast texts requests → HaveLast texts' (slice_set requests i r')
have_last texts texts' requests i r r' h is (inl last) before = inr (i, r', subst (λ (n : ℕ). i < n) (sym (length-set requests i r')) h, get_or-set_same requests i r' r' h, last)
have_last texts texts' requests i r r' h is (inr (et, er)) before =
    subst (λ (t : List ℕ). HaveLast t (slice_set requests i r')) (sym et)
    (subst (λ (l : List (Request _)). HaveLast texts l) (sym (ap (slice_set requests i) (er ∙ is) ∙ set-get_or requests i r)) before)

-- the last text after one more call
pub last_more : {E L : Type 0} (result : Result Bool E) (texts texts' : List ℕ) (requests : List (Request L)) (i : ℕ) (r r' : Request L) → i < length requests → r ≡ get_or requests i r
    → (length texts < 8388608 → IfOk result (λ is_made. (is_made ≡ true) × HasLast texts' r'))
    → (8388608 ≤ length texts → (texts' ≡ texts) × (r' ≡ r)) → OnErr result ((texts' ≡ texts) × (r' ≡ r))
    → HaveLast texts requests → HaveLast texts' (slice_set requests i r')
last_more result texts texts' requests i r r' h is room full refused before =
    have_last texts texts' requests i r r' h is (last_or_same result texts texts' r r' (has_room (length texts) 8388608) room full refused) before

-- ---- what a writer holds after the answers to some lines

-- the text is written, but for what is pending, its end
abbrev pub AllBut : Option (List ℕ) → Option (List ℕ) → List ℕ → List ℕ → Type 0
AllBut a b pending text = (out : List ℕ) × Appends a b out × (text ≡ out ++ pending)

-- the answers to lines, and to more of them
answers-append : {L : Type 0} (view : L → List ℕ) (text : List ℕ → List ℕ) (xs ys : List (Request L)) → flat_map text (lines_of view (xs ++ ys)) ≡ flat_map text (lines_of view xs) ++ flat_map text (lines_of view ys)
answers-append {L = L} view text xs ys = ap (flat_map text) (map-append (λ (r : Request L). view r.line) xs ys) ∙ flat_map-append text (lines_of view xs) (lines_of view ys)

-- those to one line more
answers-more : {L : Type 0} (view : L → List ℕ) (text : List ℕ → List ℕ) (requests : List (Request L)) (i : ℕ) (r : Request L) → i < length requests → r ≡ get_or requests i r
    → flat_map text (lines_of view (take (i + 1) requests)) ≡ flat_map text (lines_of view (take i requests)) ++ text (view r.line)
answers-more view text requests i r h is =
    ap (λ l. flat_map text (lines_of view l)) (take_more requests i r h ∙ ap (λ q. take i requests ++ q ∷ []) (sym is))
    ∙ answers-append view text (take i requests) (r ∷ [])
    ∙ ap (λ l. flat_map text (lines_of view (take i requests)) ++ l) (append-nil (text (view r.line)))

-- the answers to all are those to the lines before one, then its own, then those to the rest
answers-around : {L : Type 0} (view : L → List ℕ) (text : List ℕ → List ℕ) (requests : List (Request L)) (i : ℕ) (r : Request L) → i < length requests → r ≡ get_or requests i r
    → flat_map text (lines_of view requests) ≡ flat_map text (lines_of view (take i requests)) ++ (text (view r.line) ++ flat_map text (lines_of view (drop (i + 1) requests)))
answers-around view text requests i r h is =
    ap (λ l. flat_map text (lines_of view l)) (sym (take-append-drop (i + 1) requests))
    ∙ answers-append view text (take (i + 1) requests) (drop (i + 1) requests)
    ∙ ap (λ l. l ++ flat_map text (lines_of view (drop (i + 1) requests))) (answers-more view text requests i r h is)
    ∙ append_assoc (flat_map text (lines_of view (take i requests))) (text (view r.line)) _

-- One line more, as what a writer holds and what is pending.
-- The text may have another name at that call.
pub out_more : {L : Type 0} (view : L → List ℕ) (text text' : List ℕ → List ℕ) (a b c : Option (List ℕ)) (pending pending' : List ℕ) (requests : List (Request L)) (i : ℕ) (r : Request L) → i < length requests → r ≡ get_or requests i r → text' ≡ text
    → AllBut a b pending (flat_map text (lines_of view (take i requests))) → AllBut b c pending' (pending ++ text' (view r.line)) → AllBut a c pending' (flat_map text (lines_of view (take (i + 1) requests)))
out_more view text text' a b c pending pending' requests i r h is et (out, p, e) (out', q, e') =
    let answer = text (view r.line) in (
      out ++ out',
      Appends-trans a b c out out' p q,
      answers-more view text requests i r h is ∙ ap (λ l. l ++ answer) e ∙ append_assoc out pending answer
          ∙ ap (λ l. out ++ l) (ap (λ (t : List ℕ → List ℕ). pending ++ t (view r.line)) (sym et) ∙ e')
          ∙ sym (append_assoc out out' pending'),
    )

-- a prefix of the pending text and of one line's answer, after what is out, is a prefix of the
-- answers to all
pub part_more : {L : Type 0} (view : L → List ℕ) (text text' : List ℕ → List ℕ) (a b c : Option (List ℕ)) (pending : List ℕ) (requests : List (Request L)) (i : ℕ) (r : Request L) → i < length requests → r ≡ get_or requests i r → text' ≡ text
    → AllBut a b pending (flat_map text (lines_of view (take i requests)))
    → ((out : List ℕ) × Appends b c out × Begins out (pending ++ text' (view r.line)))
    → (out : List ℕ) × Appends a c out × Begins out (flat_map text (lines_of view requests))
part_more view text text' a b c pending requests i r h is et (out, p, e) (out', q, (more, begins)) =
    let answer = text (view r.line) in
    let rest = flat_map text (lines_of view (drop (i + 1) requests)) in
    let now : pending ++ answer ≡ out' ++ more = ap (λ (t : List ℕ → List ℕ). pending ++ t (view r.line)) (sym et) ∙ begins in (
      out ++ out',
      Appends-trans a b c out out' p q,
      (
        more ++ rest,
        answers-around view text requests i r h is ∙ ap (λ l. l ++ (answer ++ rest)) e ∙ append_assoc out pending (answer ++ rest)
            ∙ ap (λ l. out ++ l) (sym (append_assoc pending answer rest) ∙ ap (λ l. l ++ rest) now ∙ append_assoc out' more rest)
            ∙ sym (append_assoc out out' (more ++ rest)),
      ),
    )

-- the pending text, after the answers to all
pub out_last : {T E L : Type 0} (view : L → List ℕ) (r : Result T E) (text : List ℕ → List ℕ) (a b c : Option (List ℕ)) (pending : List ℕ) (requests : List (Request L)) (i : ℕ) → length requests ≤ i
    → AllBut a b pending (flat_map text (lines_of view (take i requests)))
    → OnOk r (Appends b c pending) → OnOk r (Appends a c (flat_map text (lines_of view requests)))
out_last view (Err x) text a b c pending requests i past so_far h = tt
out_last view (Ok x) text a b c pending requests i past (out, p, e) q =
    subst (λ (l : List ℕ). Appends a c l) (sym e ∙ ap (λ l. flat_map text (lines_of view l)) (take_all i requests past)) (Appends-trans a b c out pending p q)

-- a prefix of the pending text, after the answers to all
pub part_last : {T E L : Type 0} (view : L → List ℕ) (r : Result T E) (text : List ℕ → List ℕ) (a b c : Option (List ℕ)) (pending : List ℕ) (requests : List (Request L)) (i : ℕ) → length requests ≤ i
    → AllBut a b pending (flat_map text (lines_of view (take i requests)))
    → OnErr r ((out : List ℕ) × Appends b c out × Begins out pending) → OnErr r ((out : List ℕ) × Appends a c out × Begins out (flat_map text (lines_of view requests)))
part_last view (Ok x) text a b c pending requests i past so_far h = tt
part_last view (Err x) text a b c pending requests i past (out, p, e) (out', q, (more, begins)) = (
  out ++ out',
  Appends-trans a b c out out' p q,
  (
    more,
    ap (λ l. flat_map text (lines_of view l)) (sym (take_all i requests past)) ∙ e ∙ ap (λ l. out ++ l) begins ∙ sym (append_assoc out out' more),
  ),
)

-- the same prefix, where the text and the lines have other names
pub part_same : {T E : Type 0} (r : Result T E) (a b : Option (List ℕ)) (text text' : List ℕ → List ℕ) (lines lines' : List (List ℕ)) → text' ≡ text → lines' ≡ lines
    → OnErr r ((out : List ℕ) × Appends a b out × Begins out (flat_map text' lines')) → OnErr r ((out : List ℕ) × Appends a b out × Begins out (flat_map text lines))
part_same r a b text text' lines lines' et el h =
    subst (λ (l : List ℕ). OnErr r ((out : List ℕ) × Appends a b out × Begins out l)) (ap (λ (t : List ℕ → List ℕ). flat_map t lines') et ∙ ap (flat_map text) el) h
