-- What was read and answered, and one read more.
use Rattle.std.proofs.Common.{◌≡◌, ℕ, zero, suc, ◌∷◌, ◌+◌, ◌-◌, ◌≤◌, ◌<◌, List, [], ◌++◌, refl, sym, ap, subst, ◌∙◌, append_assoc, append-nil, length, take, drop, arith, length-append, take-append-drop}
use Rattle.std.specs.Prelude.{Option, min}
use Rattle.std.specs.List.{flat_map}
use Rattle.std.specs.Io.KnownBytes.{Appends, Consumes, IsAtEnd, Keeps}
use Rattle.std.proofs.KnownBytes.{Appends-trans, Consumes-trans, Consumes-kept, Consumes-nil}
use Rattle.std.proofs.Math.Seq.{take-append-add}
use Rattle.std.proofs.lemmas.Grind.{flat_map-append}
use Rattle.pdb_engine.specs.declared.fault.InputFault.{InputFault}
use Rattle.pdb_engine.specs.declared.fault.InputFault.TheVariants.{Read, Write, InputTooLong, OutOfMemory}
use Rattle.pdb_engine.specs.InputFaults.{OnRead, OnTooLong}
use Rattle.pdb_engine.specs.declared.watched.Watched.{Watched}
use Rattle.pdb_engine.specs.InputLines.{kept_lines, kept_rest, Begins}
use Rattle.pdb_engine.specs.Watched.{inner_of}
use Rattle.pdb_engine.proofs.LineLemmas.{kept_lines-append, kept_rest-append}

take_take : (m n : ℕ) (xs : List ℕ) → m ≤ n → take m (take n xs) ≡ take m xs
take_take zero n xs h = refl
take_take (suc m) zero xs h = absurd (omega arith)
take_take (suc m) (suc n) [] h = refl
take_take (suc m) (suc n) (x ∷ xs) h = ap (λ l. x ∷ l) (take_take m n xs (omega arith))

-- what was read so far, with the answers to its lines out
abbrev pub Taken : ℕ → (List ℕ → List ℕ) → Option (List ℕ) → Option (List ℕ) → Option (List ℕ) → Option (List ℕ) → List ℕ → List ℕ → ℕ → ℕ → Type 0
Taken room text ra rb wa wb kept start left limit =
    (taken : List ℕ) × Consumes ra rb taken × (length taken + left ≡ limit) × Appends wa wb (flat_map text (kept_lines room kept taken)) × (start ≡ kept_rest room kept taken)

-- what one read took, with the answers to its lines out
abbrev pub Answered : ℕ → (List ℕ → List ℕ) → Option (List ℕ) → Option (List ℕ) → Option (List ℕ) → Option (List ℕ) → List ℕ → List ℕ → ℕ → ℕ → Type 0
Answered room text ra rb wa wb kept start count left =
    (taken : List ℕ) × Consumes ra rb taken × (length taken ≡ count) × (count ≤ left) × Appends wa wb (flat_map text (kept_lines room kept taken)) × (start ≡ kept_rest room kept taken)

-- what was read is more than may be, with the answers to the lines before that out
abbrev pub IsTooLong : ℕ → (List ℕ → List ℕ) → Option (List ℕ) → Option (List ℕ) → Option (List ℕ) → Option (List ℕ) → List ℕ → ℕ → Type 0
IsTooLong room text ra rb wa wb kept limit =
    (taken : List ℕ) × Consumes ra rb taken × (limit < length taken) × Appends wa wb (flat_map text (kept_lines room kept (take limit taken)))

-- what was read, with a prefix of the answers to its lines out
abbrev pub IsPart : ℕ → (List ℕ → List ℕ) → Option (List ℕ) → Option (List ℕ) → Option (List ℕ) → Option (List ℕ) → List ℕ → Type 0
IsPart room text ra rb wa wb kept =
    (taken : List ℕ) × Consumes ra rb taken × ((out : List ℕ) × Appends wa wb out × Begins out (flat_map text (kept_lines room kept taken)))

-- the answers after two pieces
joined : (room : ℕ) (text : List ℕ → List ℕ) (kept taken piece : List ℕ) → flat_map text (kept_lines room kept (taken ++ piece)) ≡ flat_map text (kept_lines room kept taken) ++ flat_map text (kept_lines room (kept_rest room kept taken) piece)
joined room text kept taken piece = ap (flat_map text) (kept_lines-append room kept taken piece) ∙ flat_map-append text (kept_lines room kept taken) (kept_lines room (kept_rest room kept taken) piece)

same_answers : (room : ℕ) (text text' : List ℕ → List ℕ) (start start' piece : List ℕ) → text' ≡ text → start ≡ start' → flat_map text' (kept_lines room start piece) ≡ flat_map text (kept_lines room start' piece)
same_answers room text text' start start' piece et es = ap (λ (t : List ℕ → List ℕ). flat_map t (kept_lines room start piece)) et ∙ ap (λ (k : List ℕ). flat_map text (kept_lines room k piece)) es

-- a read that failed took nothing
pub none_taken : (a b : Option (List ℕ)) → Keeps a b → Consumes a b []
none_taken a b kept = Consumes-kept a a b [] (Consumes-nil a) kept

-- the answers to the lines that end in what one read took
pub read_all : (room : ℕ) (text : List ℕ → List ℕ) (ra rb wa wb : Option (List ℕ)) (kept start chunk chunk' : List ℕ) (count within left : ℕ) → chunk' ≡ chunk → within ≡ min count left → count ≤ left → count ≡ length (take count chunk)
    → Consumes ra rb (take count chunk) → Appends wa wb (flat_map text (kept_lines room kept (take within chunk'))) → start ≡ kept_rest room kept (take within chunk') → Answered room text ra rb wa wb kept start count left
read_all room text ra rb wa wb kept start chunk chunk' count within left same is fits counted read written rest =
    let piece : take within chunk' ≡ take count chunk = ap (λ n. take n chunk') (is ∙ omega arith) ∙ ap (take count) same in (
      take count chunk,
      read,
      sym counted,
      fits,
      subst (λ (l : List ℕ). Appends wa wb (flat_map text (kept_lines room kept l))) piece written,
      rest ∙ ap (kept_rest room kept) piece,
    )

-- those to the lines that end in as much of it as may be read
pub read_past : (room : ℕ) (text : List ℕ → List ℕ) (ra rb wa wb : Option (List ℕ)) (kept chunk chunk' : List ℕ) (count within left : ℕ) → chunk' ≡ chunk → within ≡ min count left → left < count → count ≡ length (take count chunk)
    → Consumes ra rb (take count chunk) → Appends wa wb (flat_map text (kept_lines room kept (take within chunk'))) → IsTooLong room text ra rb wa wb kept left
read_past room text ra rb wa wb kept chunk chunk' count within left same is past counted read written =
    let piece : take within chunk' ≡ take left (take count chunk) =
    ap (λ n. take n chunk') (is ∙ omega arith) ∙ ap (take left) same ∙ sym (take_take left count chunk (omega arith)) in (
      take count chunk,
      read,
      omega arith,
      subst (λ (l : List ℕ). Appends wa wb (flat_map text (kept_lines room kept l))) piece written,
    )

-- a prefix of the answers to the lines that end in the first bytes of what one read took
pub read_part : (room : ℕ) (text : List ℕ → List ℕ) (ra rb wa wb : Option (List ℕ)) (kept chunk chunk' : List ℕ) (count within : ℕ) → chunk' ≡ chunk → within ≤ count → Consumes ra rb (take count chunk)
    → ((out : List ℕ) × Appends wa wb out × Begins out (flat_map text (kept_lines room kept (take within chunk')))) → IsPart room text ra rb wa wb kept
read_part room text ra rb wa wb kept chunk chunk' count within same short read (out, written, (more, begins)) =
    let tail = drop within (take count chunk) in
    let piece = take within chunk' in
    let whole : take count chunk ≡ piece ++ tail =
    sym (take-append-drop within (take count chunk)) ∙ ap (λ l. l ++ tail) (take_take within count chunk short ∙ ap (take within) (sym same)) in
    let rest = flat_map text (kept_lines room (kept_rest room kept piece) tail) in (
      take count chunk,
      read,
      (
        out,
        written,
        (more ++ rest, ap (λ l. flat_map text (kept_lines room kept l)) whole ∙ joined room text kept piece tail ∙ ap (λ l. l ++ rest) begins ∙ append_assoc out more rest),
      ),
    )

-- ---- one read more, of which the text may have another name

module _ (room : ℕ) (text text' : List ℕ → List ℕ) (ra rb rc wa wb wc : Option (List ℕ)) (kept start : List ℕ) (left limit : ℕ) (so_far : Taken room text ra rb wa wb kept start left limit) (et : text' ≡ text) where
  pub taken_more : (start' : List ℕ) (count : ℕ) → Answered room text' rb rc wb wc start start' count left → Taken room text ra rc wa wc kept start' (left - count) limit
  taken_more start' count (piece, read, counted, within, written, rest) =
      let taken = so_far.0 in (
        taken ++ piece,
        Consumes-trans ra rb rc taken piece so_far.1 read,
        omega (arith, length-append taken piece, so_far.2),
        subst (λ (l : List ℕ). Appends wa wc l) (ap (λ l. flat_map text (kept_lines room kept taken) ++ l) (same_answers room text text' start (kept_rest room kept taken) piece et so_far.4) ∙ sym (joined room text kept taken piece))
            (Appends-trans wa wb wc _ _ so_far.3 written),
        rest ∙ ap (λ k. kept_rest room k piece) so_far.4 ∙ sym (kept_rest-append room kept taken piece),
      )

  -- ..and it reached the end
  pub taken_all : (start' : List ℕ) (count : ℕ) → Answered room text' rb rc wb wc start start' count left → IsAtEnd rc
      → (taken : List ℕ) × Consumes ra rc taken × IsAtEnd rc × (length taken ≤ limit) × Appends wa wc (flat_map text (kept_lines room kept taken)) × (start' ≡ kept_rest room kept taken)
  taken_all start' count answered end =
      let all = taken_more start' count answered in (all.0, all.1, end, omega (arith, all.2), all.3, all.4)

  too_long_more : IsTooLong room text' rb rc wb wc start left → IsTooLong room text ra rc wa wc kept limit
  too_long_more (piece, read, past, written) =
      let taken = so_far.0 in
      let cut : take limit (taken ++ piece) ≡ taken ++ take left piece = ap (λ k. take k (taken ++ piece)) (sym so_far.2) ∙ take-append-add taken piece left in (
        taken ++ piece,
        Consumes-trans ra rb rc taken piece so_far.1 read,
        omega (arith, length-append taken piece, so_far.2),
        subst (λ (l : List ℕ). Appends wa wc l)
            (ap (λ l. flat_map text (kept_lines room kept taken) ++ l) (same_answers room text text' start (kept_rest room kept taken) (take left piece) et so_far.4)
            ∙ sym (joined room text kept taken (take left piece)) ∙ ap (λ l. flat_map text (kept_lines room kept l)) (sym cut))
            (Appends-trans wa wb wc _ _ so_far.3 written),
      )

  pub taken_too_long : (fault : InputFault) → OnTooLong fault (IsTooLong room text' rb rc wb wc start left) → OnTooLong fault (IsTooLong room text ra rc wa wc kept limit)
  taken_too_long InputTooLong h = too_long_more h
  taken_too_long (Read kind) h = tt
  taken_too_long (Write kind) h = tt
  taken_too_long OutOfMemory h = tt

  pub taken_part : IsPart room text' rb rc wb wc start → IsPart room text ra rc wa wc kept
  taken_part (piece, read, (out, written, (more, begins))) =
      let taken = so_far.0 in
      let before = flat_map text (kept_lines room kept taken) in (
        taken ++ piece,
        Consumes-trans ra rb rc taken piece so_far.1 read,
        (
          before ++ out,
          Appends-trans wa wb wc _ out so_far.3 written,
          (
            more,
            joined room text kept taken piece
                ∙ ap (λ l. before ++ l) (sym (same_answers room text text' start (kept_rest room kept taken) piece et so_far.4) ∙ begins)
                ∙ sym (append_assoc before out more),
          ),
        ),
      )

-- what was read before a read that failed
read_before : (room : ℕ) (text : List ℕ → List ℕ) (ra rb rc wa wb wc : Option (List ℕ)) (kept start : List ℕ) (left limit : ℕ) → Taken room text ra rb wa wb kept start left limit → Consumes rb rc [] → wc ≡ wb
    → (taken : List ℕ) × Consumes ra rc taken × Appends wa wc (flat_map text (kept_lines room kept taken))
read_before room text ra rb rc wa wb wc kept start left limit (taken, consumed, counted, done, rest) none same = (
  taken,
  subst (λ (l : List ℕ). Consumes ra rc l) (append-nil taken) (Consumes-trans ra rb rc taken [] consumed none),
  subst (λ (w : Option (List ℕ)). Appends wa w (flat_map text (kept_lines room kept taken))) (sym same) done,
)

pub taken_before : {W : Type 0} (room : ℕ) (contents : W → Option (List ℕ)) (text : List ℕ → List ℕ) (ra rb rc wa : Option (List ℕ)) (w w' : Watched W) (kept start : List ℕ) (left limit : ℕ) (fault : InputFault)
    → Taken room text ra rb wa (contents (inner_of w)) kept start left limit → OnRead fault (λ _. Consumes rb rc [] × (w' ≡ w))
    → OnRead fault (λ _. (taken : List ℕ) × Consumes ra rc taken × Appends wa (contents (inner_of w')) (flat_map text (kept_lines room kept taken)))
taken_before {W = W} room contents text ra rb rc wa w w' kept start left limit (Read kind) so_far (none, same) = read_before room text ra rb rc wa (contents (inner_of w)) (contents (inner_of w')) kept start left limit so_far none (ap (λ (v : Watched W). contents (inner_of v)) same)
taken_before room contents text ra rb rc wa w w' kept start left limit (Write kind) so_far h = tt
taken_before room contents text ra rb rc wa w w' kept start left limit InputTooLong so_far h = tt
taken_before room contents text ra rb rc wa w w' kept start left limit OutOfMemory so_far h = tt
